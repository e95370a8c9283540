use Rattle.std.proofs.Common.{◌≡◌, ◌++◌, List, ℕ, OnOk, subst}
use Rattle.sbl_batch.proofs.LineFacts.{plain-line}
use Rattle.sbl_batch.proofs.lines.push_line.Goals as goal

pub returns-then-are_plain-clause-line : goal.returns-then-are_plain-clause-line
returns-then-are_plain-clause-line c =
    let plain = c.are_plain.ensures c.if-are_plain.true in
    let line = plain-line c.args.word.now c.args.kind.now c.args.text.now plain.0 plain.1 plain.2 in
    subst (λ (t : List ℕ). OnOk c.push_plain.result (c.push_plain.new.rows.items ≡ c.args.rows.now.items ++ t)) line c.push_plain.ensures.line
