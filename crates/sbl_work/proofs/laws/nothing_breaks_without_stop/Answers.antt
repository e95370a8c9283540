use Rattle.sbl_work.proofs.BreakFacts.{may_break_stays, parts_are_edited, redoing_is_editing, sessions_reply, undoing_is_editing, whole_scripts_are_edited, words_are_edited, work_begins_unbroken}
use Rattle.sbl_work.proofs.laws.nothing_breaks_without_stop.Goals as goal

pub returns : goal.returns
returns c = record { stays = may_break_stays; whole = whole_scripts_are_edited; part = parts_are_edited; undo = undoing_is_editing; redo = redoing_is_editing; words = words_are_edited; session = sessions_reply; start = work_begins_unbroken }
