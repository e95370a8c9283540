use Rattle.std.proofs.Common.{◌≡◌, map, take}
use Rattle.sbl_program.specs.ProgramOf.{view_next_product, view_next_factor}
use Rattle.sbl_code.proofs.copies.+copy.Given as goal

abbrev pub invariant-copy_addends-loop-other : goal.invariant-copy_addends-loop-other
invariant-copy_addends-loop-other l = map view_next_product l.copies.items ≡ map view_next_product (take l.other-index l.others)

abbrev pub invariant-copy_factors-loop-other : goal.invariant-copy_factors-loop-other
invariant-copy_factors-loop-other l = map view_next_factor l.copies.items ≡ map view_next_factor (take l.other-index l.others)
