use Rattle.std.proofs.Common.{◌≡◌, ◌++◌, List, drop, map, string_bytes}
use Rattle.sbl_ast.specs.Terminal.{Terminal}
use Rattle.sbl_ast.specs.Spelled.{spelled_terms}
use Rattle.sbl_ast.specs.View.{view_term}
use Rattle.sbl_print.specs.Adding.{more}
use Rattle.sbl_print.proofs.items.put_terms.Given as goal

abbrev pub invariant-loop-term : goal.invariant-loop-term
invariant-loop-term l =
    (rest : List Terminal) → string_bytes l.out ++ more (spelled_terms (map view_term (drop l.term-index l.terms.items)) rest) ≡ string_bytes l.initial.out ++ more (spelled_terms (map view_term l.terms.items) rest)
