use Rattle.std.proofs.Common.{ℕ, List}
use Rattle.std.specs.List.{flat_map}
use Rattle.sbl_rows.specs.Setting.{Setting}
use Rattle.sbl_io.specs.Records.{records_text}
use Rattle.sbl_io.proofs.Taking.{Leaves}
use Rattle.sbl_uses.specs.Unused as spec
use Rattle.sbl_uses.specs.UnusedViews.{IsUsed, view_parts}
use Rattle.sbl_uses.proofs.unused.Used.push_entries.Given as goal

abbrev pub invariant-loop-item : goal.invariant-loop-item
invariant-loop-item g l = (s : Setting) (words : List (List ℕ)) → IsUsed s words l.self → Leaves g.T.Report.has_taken l.initial.out l.out (records_text (flat_map (spec.entry_rows s words) (view_parts l.item-iterator))) (records_text (flat_map (spec.entry_rows s words) (view_parts l.parts.entries)))
