use Rattle.std.proofs.Common.{◌≡◌, ◌++◌, drop}
use Rattle.std.specs.List.{flat_map}
use Rattle.sbl_script.specs.ParsedScript.{source_of}
use Rattle.sbl_uses.specs.Counts.{usables_in, usables_of}
use Rattle.sbl_uses.specs.UnusedViews.{view_parts}
use Rattle.sbl_uses.specs.UsableViews.{view_usables}
use Rattle.sbl_uses.proofs.usables.usables_of.Given as goal

abbrev pub invariant-loop-part : goal.invariant-loop-part
invariant-loop-part l = view_usables l.usables.items ++ flat_map usables_in (view_parts (drop l.part-index l.part-items)) ≡ usables_of (source_of l.script)
