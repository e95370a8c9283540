use Rattle.std.proofs.Common.{◌≡◌, drop}
use Rattle.sbl_machine.specs.Marking.{with_searches}
use Rattle.sbl_machine.proofs.marks.mark_searches.Given as goal

-- those of the numbers so far, and those of the numbers still to come
abbrev pub invariant-loop-among : goal.invariant-loop-among
invariant-loop-among l = with_searches l.routine (drop l.among-index l.amongs) l.marks ≡ with_searches l.routine l.amongs l.fn.marks
