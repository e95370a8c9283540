use Rattle.std.proofs.Common.{◌≡◌, ◌++◌, drop, map}
use Rattle.sbl_ast.specs.inside.ViewParts.{view_scales, view_sums}
use Rattle.sbl_compiler.specs.NumberedNumbers.{scales_in, sums_in}
use Rattle.sbl_compiler.specs.NumberedView.{names_in}
use Rattle.sbl_program.specs.ProgramOf.{view_next_product, view_next_factor}
use Rattle.sbl_compiler.proofs.compiler.Compiler.+arithmetic.Given as goal

abbrev pub invariant-sums_of-loop-other : goal.invariant-sums_of-loop-other
invariant-sums_of-loop-other l = map view_next_product l.sums.items ++ sums_in (names_in l.self) (view_sums (drop l.other-index l.others.items)) ≡ sums_in (names_in l.self) (view_sums l.others.items)

abbrev pub invariant-scales_of-loop-other : goal.invariant-scales_of-loop-other
invariant-scales_of-loop-other l = map view_next_factor l.scales.items ++ scales_in (names_in l.self) (view_scales (drop l.other-index l.others.items)) ≡ scales_in (names_in l.self) (view_scales l.others.items)
