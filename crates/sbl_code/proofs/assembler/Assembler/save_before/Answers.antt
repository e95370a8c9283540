use Rattle.std.proofs.lemmas.Result.{IfOk-weaker}
use Rattle.sbl_code.proofs.Performing.{here_place, nested_place}
use Rattle.sbl_code.proofs.assembler.Assembler.save_before.Goals as goal

pub returns-then-place : goal.returns-then-place
returns-then-place c =
    IfOk-weaker c.nest.result _ _
    (λ made is. λ tables d own slot at h.
    nested_place tables d c.args.cost own slot c.args.exits.now c.args.place.now c.in_ok-entry.entry.value made.value at c.if-place.true (h c.in_ok-entry.entry.value c.in_ok-entry.ensures) (is tables))
    c.nest.ensures

pub returns-else-place : goal.returns-else-place
returns-else-place c = λ tables d own slot at h. here_place tables d c.args.cost own slot c.args.exits.now c.args.place.now c.in_ok-entry.entry.value at c.if-place.false (h c.in_ok-entry.entry.value c.in_ok-entry.ensures)
