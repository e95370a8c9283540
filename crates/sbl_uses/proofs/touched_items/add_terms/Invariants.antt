use Rattle.std.proofs.Common.{◌≡◌, ◌||◌, Bool, drop, map}
use Rattle.std.specs.List.{list_any}
use Rattle.sbl_machine.specs.BuiltFrom.{any_names}
use Rattle.sbl_machine.specs.ItemRefs.{items_of_refs}
use Rattle.sbl_ast.specs.NamedParts.{Part', Grouping}
use Rattle.sbl_ast.specs.View.{view_term}
use Rattle.sbl_uses.proofs.touched_items.add_terms.Given as goal

abbrev pub invariant-loop-term : goal.invariant-loop-term
invariant-loop-term l = (test : Part' → Bool) → (any_names (λ k. test (Grouping k)) (map view_term (drop l.term-index l.terms)) || list_any test (items_of_refs l.items)) ≡ (any_names (λ k. test (Grouping k)) (map view_term l.terms) || list_any test (items_of_refs l.initial.items))
