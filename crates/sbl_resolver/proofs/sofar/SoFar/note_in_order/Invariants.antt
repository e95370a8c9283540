use Rattle.std.proofs.Common.{◌≡◌, drop, map, ◌+◌}
use Rattle.sbl_resolver.specs.Occurrences.{noted_items}
use Rattle.sbl_resolver.specs.OccurrenceView.{view_occurrences}
use Rattle.sbl_ast.specs.Order.{view_in_mode}
use Rattle.sbl_resolver.proofs.sofar.SoFar.note_in_order.Given as goal

abbrev pub invariant-loop-one : goal.invariant-loop-one
invariant-loop-one l = record {
  counted : l.item ≡ l.one-index;
  noted : noted_items (map view_in_mode (drop l.one-index l.in_order)) (l.item + 1) (view_occurrences l.self) ≡ noted_items (map view_in_mode l.in_order) 1 (view_occurrences l.initial.self);
}
