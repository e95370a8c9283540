use Rattle.std.proofs.Common.{sym, ap, ◌∙◌, ◌≡◌, ◌<◌, ◌≤◌, ℕ, length, take, arith}
use Rattle.sbl_resolver.specs.OccurrenceView.{view_occurrence, view_occurrences}
use Rattle.sbl_resolver.specs.Checks.{fault_at}
use Rattle.sbl_resolver.specs.Subjects.{subject_of, subjects_of}
use Rattle.sbl_resolver.specs.FirstFault.{one_more}
use Rattle.sbl_resolver.proofs.Turns.{met_more, take_push, note_in}
use Rattle.sbl_resolver.proofs.Numbered.{stops, goes_on, subjects_length_push, few}
use Rattle.sbl_resolver.proofs.checks.fault_among.Goals as goal

pub returns-in-Some-clause-fault : goal.returns-in-Some-clause-fault
returns-in-Some-clause-fault c =
    let all = view_occurrences c.args.occurrences.now in
    let before = view_occurrences (take c.loop-index.index c.args.occurrences.now) in
    let is = c.fault_at.ensures all before c.requires.sites c.loop-index.invariant.met ∙ ap (λ l. fault_at all before (view_occurrence (note_in c.args.occurrences.now c.loop-index.index)) (view_occurrences l)) c.following.ensures in
    sym (sym c.loop-index.invariant.none ∙ stops all c.args.occurrences.now c.loop-index.index c.loop-index.number c.fault_at.result c.in-Some.fault c.loop-index-test.true is c.in-Some.is c.loop-index.invariant.number)

pub number_after-number-requires : goal.number_after-number-requires
number_after-number-requires c = let most = few c.loop-index.index c.args.occurrences.now in let is = c.loop-index.invariant.number in let lt = c.loop-index-test.true in omega arith

pub loop-index-preserved : goal.loop-index-preserved
loop-index-preserved c =
    let all = view_occurrences c.args.occurrences.now in
    let i = c.loop-index.index in
    let before = view_occurrences (take i c.args.occurrences.now) in
    let is = c.fault_at.ensures all before c.requires.sites c.loop-index.invariant.met ∙ ap (λ l. fault_at all before (view_occurrence (note_in c.args.occurrences.now c.loop-index.index)) (view_occurrences l)) c.following.ensures in
    record {
      met = rw (take_push c.args.occurrences.now i c.loop-index-test.true) (met_more c.loop-index.met c.note.new.met before (view_occurrence (note_in c.args.occurrences.now i)) c.loop-index.invariant.met c.in_ok-note.ensures);
      number = c.number_after-number.ensures ∙ ap (one_more (subject_of (view_occurrence (note_in c.args.occurrences.now i)).notice)) c.loop-index.invariant.number ∙ sym (subjects_length_push c.args.occurrences.now i c.loop-index-test.true);
      none = goes_on all c.args.occurrences.now i c.fault_at.result c.loop-index-test.true is c.in_default.is ∙ c.loop-index.invariant.none;
    }
