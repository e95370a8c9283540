use Rattle.std.proofs.Common.{sym, ap, subst, ◌∙◌, ◌≡◌, ◌+◌, ◌<◌, ◌≤◌, ◌∷◌, ◌++◌, [], ℕ, List, length, take, drop, arith}
use Rattle.sbl_text.specs.declared.fault.ScriptFault.{ScriptFault}
use Rattle.sbl_resolver.specs.OccurrenceView.{view_occurrence, view_occurrences}
use Rattle.sbl_resolver.specs.Checks.{fault_at}
use Rattle.sbl_resolver.specs.AllFaults.{faults_after}
use Rattle.sbl_resolver.specs.Subjects.{subject_of, subjects_of}
use Rattle.sbl_resolver.specs.FirstFault.{one_more}
use Rattle.sbl_resolver.proofs.Turns.{met_more, take_push, note_in}
use Rattle.sbl_resolver.proofs.Numbered.{subjects_length_push, few}
use Rattle.sbl_resolver.proofs.Listed.{one_more_fault, no_more_fault}
use Rattle.sbl_resolver.proofs.fault_list.faults_among.Goals as goal
use Rattle.sbl_resolver.proofs.fault_list.faults_among.Goals.{in-Some+in_ok-push, in_default}

pub number_after-number-requires : goal.number_after-number-requires
number_after-number-requires c = let most = few c.loop-index.index c.args.occurrences.now in let is = c.loop-index.invariant.number in let lt = c.loop-index-test.true in omega arith

pub loop-index-preserved : goal.loop-index-preserved
loop-index-preserved c =
    let all = view_occurrences c.args.occurrences.now in
    let i = c.loop-index.index in
    let before = view_occurrences (take i c.args.occurrences.now) in
    let wanted = faults_after all [] all in
    let is = c.fault_at.ensures all before c.requires.sites c.loop-index.invariant.met ∙ ap (λ l. fault_at all before (view_occurrence (note_in c.args.occurrences.now i)) (view_occurrences l)) c.following.ensures in
    record {
      met = rw (take_push c.args.occurrences.now i c.loop-index-test.true) (met_more c.loop-index.met c.note.new.met before (view_occurrence (note_in c.args.occurrences.now i)) c.loop-index.invariant.met c.in_ok-note.ensures);
      number = c.number_after-number.ensures ∙ ap (one_more (subject_of (view_occurrence (note_in c.args.occurrences.now i)).notice)) c.loop-index.invariant.number ∙ sym (subjects_length_push c.args.occurrences.now i c.loop-index-test.true);
      faults = elim c.match-fault_at.branch [
        | in-Some+in_ok-push w ↦
            let listed = one_more_fault all c.args.occurrences.now i c.loop-index.number c.fault_at.result w.in-Some.fault c.loop-index.faults.items wanted c.loop-index-test.true is w.in-Some.is c.loop-index.invariant.number c.loop-index.invariant.faults in
            ap (λ (xs : List (ℕ × ScriptFault)). xs ++ faults_after all (view_occurrences (take (i + 1) c.args.occurrences.now)) (view_occurrences (drop (i + 1) c.args.occurrences.now))) (ap (λ v. v.items) w.faults-is ∙ w.in_ok-push.ensures.items) ∙ listed
        | in_default w ↦
            let listed = no_more_fault all c.args.occurrences.now i c.fault_at.result c.loop-index.faults.items wanted c.loop-index-test.true is w.in_default.is c.loop-index.invariant.faults in
            ap (λ (xs : List (ℕ × ScriptFault)). xs ++ faults_after all (view_occurrences (take (i + 1) c.args.occurrences.now)) (view_occurrences (drop (i + 1) c.args.occurrences.now))) (ap (λ v. v.items) w.faults-is) ∙ listed
      ];
    }
