use Rattle.std.proofs.Common.{map, drop}
use Rattle.sbl_bench.specs.KeptRuns.{setting_of}
use Rattle.sbl_io.specs.Records.{records_text}
use Rattle.sbl_io.proofs.Taking.{Leaves}
use Rattle.sbl_semantics.specs.Events.{event_of}
use Rattle.sbl_uses.specs.Moments.{at_start}
use Rattle.sbl_explain.specs.WhyRows as spec
use Rattle.sbl_explain.proofs.why.push_events.Given as goal

-- the lines so far and those of the other events are those of all events
abbrev pub invariant-loop-event : goal.invariant-loop-event
invariant-loop-event g l =
    Leaves g.T.Report.has_taken l.initial.out l.out
    (records_text (spec.rows_from (spec.routine_names (setting_of l.bench)) l.moment (map event_of (drop l.event-index l.events))))
    (records_text (spec.rows_from (spec.routine_names (setting_of l.bench)) (at_start l.word) (map event_of l.events)))
