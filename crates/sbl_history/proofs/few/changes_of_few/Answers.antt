use Rattle.std.proofs.Common.{◌≡◌, ◌∙◌, ℕ, IfOk, List, [], ◌∷◌, true, ap, refl, subst, sym}
use Rattle.std.specs.List.{AllByRecursion}
use Rattle.sbl_semantics.specs.Outcome.{run_of}
use Rattle.sbl_rows.specs.Changes.{Change, changes_of, view_changes}
use Rattle.sbl_rows.specs.Rows.{Row, rows_of, view_rows}
use Rattle.sbl_rows.specs.Setting.{Setting}
use Rattle.sbl_rows.proofs.ChangeLaws.{each}
use Rattle.sbl_history.specs.inside.Noted.{IsStemIn}
use Rattle.sbl_history.specs.inside.TextSets.{has}
use Rattle.sbl_history.proofs.RowFacts.{kept_rows, same_changes}
use Rattle.sbl_history.proofs.RowSteps.{stem_grows}
use Rattle.sbl_history.proofs.few.changes_of_few.Goals as goal

by_setting : (s : Setting) (words : List (List ℕ)) → AllByRecursion (λ r. r.outcome ≡ run_of s.script r.word s.limit) (rows_of s words)
by_setting s [] = tt
by_setting s (w ∷ words) = (refl, by_setting s words)

pub returns : goal.returns
returns c = λ s words is.
    let before : List Row = view_rows c.args.before.now in
    let after : List Row = view_rows c.args.after.now in
    let noted = has c.note_unlike.new.words in
    let stems = has c.note_stems-2.new.stems in
    let kept = has c.show_stems.new.kept in
    let is_by : AllByRecursion (λ r. r.outcome ≡ run_of s.script r.word s.limit) after =
    subst (λ (rows : List Row). AllByRecursion (λ r. r.outcome ≡ run_of s.script r.word s.limit) rows) (sym is) (by_setting s words) in
    let stems_before : AllByRecursion (λ r. noted r.word ≡ true → IsStemIn stems r.outcome) before =
    each (λ r. noted r.word ≡ true → IsStemIn (has c.note_stems.new.stems) r.outcome) (λ r. noted r.word ≡ true → IsStemIn stems r.outcome)
    (λ r in_set h. stem_grows (has c.note_stems.new.stems) stems c.note_stems-2.ensures.grows r.outcome (in_set h)) before c.note_stems.ensures.noted in
    let same : changes_of before after ≡ changes_of (kept_rows kept before) (kept_rows kept after) =
    same_changes (λ w. run_of s.script w s.limit) before after noted stems kept is_by c.note_unlike.ensures.before c.note_unlike.ensures.after
    stems_before c.note_stems-2.ensures.noted (λ w h. c.in_ok-show_stems.ensures.grows w (c.in_ok-kept.ensures w ∙ h)) c.in_ok-show_stems.ensures.covered in
    let few_before : view_rows c.deref.result.now ≡ kept_rows kept before = ap view_rows c.deref.ensures.value ∙ c.in_ok-few_before.ensures in
    let few_after : view_rows c.deref-2.result.now ≡ kept_rows kept after = ap view_rows c.deref-2.ensures.value ∙ c.in_ok-few_after.ensures in
    subst (λ (cs : List Change). IfOk c.changes.result (λ found. view_changes found.items ≡ cs)) ((λ i. changes_of (few_before i) (few_after i)) ∙ sym same) c.changes.ensures
