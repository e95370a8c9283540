use Rattle.std.proofs.Common.{ap, ◌∙◌}
use Rattle.sbl_machine.specs.MachineOf.{IsMachineOf, listed_in, machine_plan}
use Rattle.sbl_semantics.specs.Outcome.{integers_at, outcome_at, used_at, events_at, events_in, events_of}
use Rattle.sbl_machine.proofs.SoundRuns.{same_telling}
use Rattle.sbl_machine.proofs.WhyLaw.{events_change_nothing}
use Rattle.sbl_machine.proofs.machine.Machine.why_in.Goals as goal

pub returns-clause-outcome : goal.returns-clause-outcome
unfolding IsMachineOf
returns-clause-outcome g c script h =
    let m = c.args.self.now in
    let tells = same_telling (machine_plan _ g.S.AmongSearch.entries g.S.AmongSearch.mode m) script c.args.word.now c.args.limit _ c.record_events.new.self h.0 (c.in_ok-restart.ensures (listed_in _ g.S.AmongSearch.entries g.S.AmongSearch.mode m)) c.record_events.ensures in
    c.in_ok-ended.ensures.outcome _ c.call_external-end.ensures ∙ ap outcome_at tells ∙ (events_change_nothing script c.args.word.now c.args.limit).outcome

pub returns-clause-events : goal.returns-clause-events
unfolding IsMachineOf events_of
returns-clause-events g c script h =
    let m = c.args.self.now in
    let tells = same_telling (machine_plan _ g.S.AmongSearch.entries g.S.AmongSearch.mode m) script c.args.word.now c.args.limit _ c.record_events.new.self h.0 (c.in_ok-restart.ensures (listed_in _ g.S.AmongSearch.entries g.S.AmongSearch.mode m)) c.record_events.ensures in
    c.events_or_none.ensures ∙ ap events_in c.take_events.ensures.events ∙ c.in_ok-ended.ensures.events _ c.call_external-end.ensures ∙ ap events_at tells

pub returns-clause-used : goal.returns-clause-used
unfolding IsMachineOf
returns-clause-used g c script h =
    let m = c.args.self.now in
    let tells = same_telling (machine_plan _ g.S.AmongSearch.entries g.S.AmongSearch.mode m) script c.args.word.now c.args.limit _ c.record_events.new.self h.0 (c.in_ok-restart.ensures (listed_in _ g.S.AmongSearch.entries g.S.AmongSearch.mode m)) c.record_events.ensures in
    c.in_ok-ended.ensures.used _ c.call_external-end.ensures ∙ ap (used_at c.args.limit) tells ∙ (events_change_nothing script c.args.word.now c.args.limit).used

pub returns-clause-integers : goal.returns-clause-integers
unfolding IsMachineOf
returns-clause-integers g c script h =
    let m = c.args.self.now in
    let tells = same_telling (machine_plan _ g.S.AmongSearch.entries g.S.AmongSearch.mode m) script c.args.word.now c.args.limit _ c.record_events.new.self h.0 (c.in_ok-restart.ensures (listed_in _ g.S.AmongSearch.entries g.S.AmongSearch.mode m)) c.record_events.ensures in
    c.in_ok-integers.ensures ∙ c.in_ok-ended.ensures.integers _ c.call_external-end.ensures ∙ ap integers_at tells ∙ (events_change_nothing script c.args.word.now c.args.limit).integers
