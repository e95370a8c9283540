use Rattle.std.proofs.Common.{◌≡◌, ◌++◌, List, drop, string_bytes}
use Rattle.sbl_ast.specs.Terminal.{Terminal}
use Rattle.sbl_ast.specs.Spelled.{spelled_sums, spelled_scales}
use Rattle.sbl_ast.specs.inside.ViewParts.{view_sums, view_scales}
use Rattle.sbl_print.specs.Adding.{more}
use Rattle.sbl_print.proofs.arithmetic.+arithmetic.Given as goal

abbrev pub invariant-put_sums-loop-other : goal.invariant-put_sums-loop-other
invariant-put_sums-loop-other l =
    (rest : List Terminal) → string_bytes l.out ++ more (spelled_sums (view_sums (drop l.other-index l.others.items)) rest) ≡ string_bytes l.initial.out ++ more (spelled_sums (view_sums l.others.items) rest)

abbrev pub invariant-put_scales-loop-other : goal.invariant-put_scales-loop-other
invariant-put_scales-loop-other l =
    (rest : List Terminal) → string_bytes l.out ++ more (spelled_scales (view_scales (drop l.other-index l.others.items)) rest) ≡ string_bytes l.initial.out ++ more (spelled_scales (view_scales l.others.items) rest)
