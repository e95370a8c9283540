use Rattle.std.proofs.Common.{◌≡◌, ◌∙◌, ◌+◌, rules, ℕ, List, ap}
use Rattle.sbl_uses.specs.TakeNumbers.{number_in}
use Rattle.sbl_uses.specs.UnusedViews.{Key, take_of}
use Rattle.sbl_uses.proofs.TakeFacts.{number_grown}
use Rattle.sbl_uses.proofs.take_counts.count_one.Goals as goal

pub returns : goal.returns
returns c = λ t.
    let es = c.args.counts.now.entries in
    let more : c.in-Some.number ≡ number_in es (take_of c.args.key) + 1 = search rules in
    ap (λ (l : List (Key × ℕ)). number_in l t) c.in_ok-insert.ensures.entries ∙ number_grown es c.args.key c.in-Some.number t more
