use Rattle.std.proofs.Common.{◌≡◌, drop, map, string_bytes}
use Rattle.sbl_machine.specs.AmongList.{numbers_of}
use Rattle.sbl_machine.specs.Marking.{searches}
use Rattle.sbl_machine.proofs.marks.mark_amongs.Given as goal

-- those of the names so far, and those of the names still to come
abbrev pub invariant-loop-number : goal.invariant-loop-number
invariant-loop-number l = searches (numbers_of l.amongs) l.number (map string_bytes (drop l.number l.routines)) l.marks ≡ searches (numbers_of l.amongs) 0 (map string_bytes l.routines) l.fn.marks
