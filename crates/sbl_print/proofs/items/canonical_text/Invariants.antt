use Rattle.std.proofs.Common.{◌≡◌, ◌++◌, drop, string_bytes}
use Rattle.sbl_ast.specs.View.{view_items}
use Rattle.sbl_print.specs.Canonical.{canonical}
use Rattle.sbl_print.proofs.items.canonical_text.Given as goal

abbrev pub invariant-loop-item : goal.invariant-loop-item
invariant-loop-item l = string_bytes l.out ++ canonical (view_items (drop l.item-index l.items)) ≡ canonical (view_items l.items)
