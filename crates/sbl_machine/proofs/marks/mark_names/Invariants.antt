use Rattle.std.proofs.Common.{◌≡◌, drop, map, string_bytes}
use Rattle.sbl_compiler.specs.NumberedNames.{is_one_of}
use Rattle.sbl_machine.specs.Marking.{touch_of, with_names}
use Rattle.sbl_machine.proofs.marks.mark_names.Given as goal

-- those of the names so far, and those of the names still to come
abbrev pub invariant-loop-number : goal.invariant-loop-number
invariant-loop-number l = with_names (touch_of l.kind) (is_one_of l.names) l.number (map string_bytes (drop l.number l.all)) l.marks ≡ with_names (touch_of l.kind) (is_one_of l.names) 0 (map string_bytes l.all) l.fn.marks
