use Rattle.std.proofs.Common.{◌≡◌}
use Rattle.sbl_script.specs.ParsedScript.{source_of}
use Rattle.sbl_uses.specs.Parts.{parts_of, put_in_order}
use Rattle.sbl_uses.specs.UnusedViews.{view_parts}
use Rattle.sbl_uses.proofs.usable_parts.parts_of.Given as goal

abbrev pub invariant-loop-part : goal.invariant-loop-part
invariant-loop-part l = put_in_order (view_parts l.parts.entries) (view_parts l.part-iterator.rest.items) ≡ parts_of (source_of l.script)
