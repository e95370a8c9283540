use Rattle.sbl_machine.specs.MachineOf.{IsMachineOf, listed_in, machine_plan}
use Rattle.sbl_machine.proofs.TouchesUnread.{outcome_unread, used_unread}
use Rattle.sbl_machine.proofs.Ended.{same_outcome, same_used}
use Rattle.sbl_machine.proofs.machine.Machine.ended_unread.Goals as goal

pub returns-clause-outcome : goal.returns-clause-outcome
unfolding IsMachineOf
returns-clause-outcome g c script h =
    let m = c.args.self.now in
    let begun = c.in_ok-begin.ensures (listed_in _ g.S.AmongSearch.entries g.S.AmongSearch.mode m) in
    same_outcome c.end_of.result _ _ (c.end_of.ensures.outcome _ c.call_external-end.ensures)
    (outcome_unread (machine_plan _ g.S.AmongSearch.entries g.S.AmongSearch.mode m) script c.args.word.now c.args.limit _ c.begin.new.state h.0 begun)

pub returns-clause-used : goal.returns-clause-used
unfolding IsMachineOf
returns-clause-used g c script h =
    let m = c.args.self.now in
    let begun = c.in_ok-begin.ensures (listed_in _ g.S.AmongSearch.entries g.S.AmongSearch.mode m) in
    same_used c.end_of.result _ _ (c.end_of.ensures.used _ c.call_external-end.ensures)
    (used_unread (machine_plan _ g.S.AmongSearch.entries g.S.AmongSearch.mode m) script c.args.word.now c.args.limit _ c.begin.new.state h.0 begun)
