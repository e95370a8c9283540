use Rattle.std.proofs.Common.{◌≡◌, ◌++◌, drop, map}
use Rattle.std.specs.List.{flat_map}
use Rattle.sbl_script.specs.ParsedScript.{source_of}
use Rattle.sbl_ast.specs.Order.{ItemInMode, in_order, view_in_mode}
use Rattle.sbl_uses.specs.Parts.{parts_by}
use Rattle.sbl_uses.specs.UnusedViews.{view_parts}
use Rattle.sbl_uses.proofs.usable_parts.parts_in_text.Given as goal

abbrev pub invariant-loop-item : goal.invariant-loop-item
invariant-loop-item l = view_parts l.parts.items ++ flat_map (λ (x : ItemInMode). parts_by x.plain) (map view_in_mode (drop l.item-index l.item-items)) ≡ flat_map (λ (x : ItemInMode). parts_by x.plain) (in_order (source_of l.script).items)
