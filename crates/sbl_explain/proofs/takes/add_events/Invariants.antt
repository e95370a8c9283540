use Rattle.std.proofs.Common.{◌≡◌, ◌||◌, Bool, drop, map}
use Rattle.std.specs.List.{list_any}
use Rattle.sbl_bench.specs.KeptRuns.{setting_of}
use Rattle.sbl_semantics.specs.Events.{event_of}
use Rattle.sbl_uses.specs.Unused.{Take, takes_from}
use Rattle.sbl_uses.specs.UnusedViews.{takes_in}
use Rattle.sbl_uses.specs.Moments.{at_start}
use Rattle.sbl_semantics.specs.TouchedItems.{names_of}
use Rattle.sbl_explain.proofs.takes.add_events.Given as goal

abbrev pub invariant-loop-event : goal.invariant-loop-event
invariant-loop-event l = (test : Take → Bool) → (list_any test (takes_from (names_of (setting_of l.bench).script).routines l.moment (map event_of (drop l.event-index l.events))) || list_any test (takes_in l.takes)) ≡ (list_any test (takes_from (names_of (setting_of l.bench).script).routines (at_start l.word) (map event_of l.events)) || list_any test (takes_in l.initial.takes))
