use Rattle.std.proofs.Common.{◌≡◌, map, take}
use Rattle.sbl_text_rows.specs.FaultViews.{view_fault}
use Rattle.sbl_work.specs.FaultReplies.{fields_of, unsaid}
use Rattle.sbl_work.proofs.fault_replies.rows_of.Given as goal

abbrev pub invariant-loop-i : goal.invariant-loop-i
invariant-loop-i l = map unsaid (map view_fault l.rows.items) ≡ map fields_of (take l.i l.faults)
