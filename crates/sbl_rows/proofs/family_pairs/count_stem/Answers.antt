use Rattle.std.proofs.Common.{◌≡◌, ◌+◌, ℕ, ap, rules}
use Rattle.sbl_rows.specs.Counting.{count_in}
use Rattle.sbl_rows.proofs.SetFacts.{stem_counted}
use Rattle.sbl_rows.proofs.family_pairs.count_stem.Goals as goal

pub returns-clause-after : goal.returns-clause-after
returns-clause-after c = λ q.
    let before : c.unwrap_or-count.result ≡ count_in c.args.counts.now c.args.stem.now = search rules in
    stem_counted c.args.counts.now c.insert.new.self c.args.stem (c.unwrap_or-count.result + 1) q (ap (λ (n : ℕ). n + 1) before) c.in_ok-insert.ensures.updates
