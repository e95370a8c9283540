use Rattle.std.proofs.Common.{ap}
use Rattle.sbl_machine.specs.MachineOf.{IsMachineOf, listed_in, machine_plan}
use Rattle.sbl_semantics.specs.Outcome.{outcome_at, run_of, touches_of, used_at, used_of}
use Rattle.sbl_machine.proofs.SoundRuns.{same_run}
use Rattle.sbl_machine.proofs.Ended.{same_outcome, same_touches, same_used}
use Rattle.sbl_machine.proofs.machine.Machine.ran.Goals as goal

pub returns-clause-outcome : goal.returns-clause-outcome
unfolding IsMachineOf run_of
returns-clause-outcome g c script h =
    let m = c.args.self.now in
    let ends = same_run (machine_plan _ g.S.AmongSearch.entries g.S.AmongSearch.mode m) script c.args.word.now c.args.limit c.restart.new.state h.0 (c.in_ok-restart.ensures (listed_in _ g.S.AmongSearch.entries g.S.AmongSearch.mode m)) in
    same_outcome c.end_of.result _ _ (c.end_of.ensures.outcome _ c.call_external-end.ensures) (ap outcome_at ends)

pub returns-clause-touches : goal.returns-clause-touches
unfolding IsMachineOf touches_of
returns-clause-touches g c script h =
    let m = c.args.self.now in
    let ends = same_run (machine_plan _ g.S.AmongSearch.entries g.S.AmongSearch.mode m) script c.args.word.now c.args.limit c.restart.new.state h.0 (c.in_ok-restart.ensures (listed_in _ g.S.AmongSearch.entries g.S.AmongSearch.mode m)) in
    same_touches c.end_of.result c.call_external-end.new.state.touched _ _ (c.end_of.ensures.touches _ c.call_external-end.ensures) ends

pub returns-clause-used : goal.returns-clause-used
unfolding IsMachineOf used_of
returns-clause-used g c script h =
    let m = c.args.self.now in
    let ends = same_run (machine_plan _ g.S.AmongSearch.entries g.S.AmongSearch.mode m) script c.args.word.now c.args.limit c.restart.new.state h.0 (c.in_ok-restart.ensures (listed_in _ g.S.AmongSearch.entries g.S.AmongSearch.mode m)) in
    same_used c.end_of.result _ _ (c.end_of.ensures.used _ c.call_external-end.ensures) (ap (used_at c.args.limit) ends)
