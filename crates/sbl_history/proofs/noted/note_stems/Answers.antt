use Rattle.std.proofs.Common.{◌≡◌, ◌∙◌, ◌+◌, ℕ, List, take, true, true≢false, subst, sym}
use Rattle.std.specs.List.{AllByRecursion}
use Rattle.sbl_rows.specs.Rows.{view_row, view_rows}
use Rattle.sbl_history.specs.declared.text_set.TextSet.{TextSet}
use Rattle.sbl_history.specs.inside.Noted.{IsStemIn}
use Rattle.sbl_history.specs.inside.TextSets.{has}
use Rattle.sbl_history.proofs.RowSteps.{all_more, stem_grows}
use Rattle.sbl_history.proofs.noted.note_stems.Goals as goal
use Rattle.sbl_history.proofs.noted.note_stems.Goals.{then-has, else-has}

pub loop-row-preserved : goal.loop-row-preserved
loop-row-preserved c =
    let rows = c.args.rows.now in
    let i = c.loop-row.row-index in
    let words = has c.args.words.now in
    let Kept : TextSet → Type 0 = λ stems. ((t : List ℕ) → has c.args.stems.now t ≡ true → has stems t ≡ true)
    × AllByRecursion (λ r. words r.word ≡ true → IsStemIn (has stems) r.outcome) (view_rows (take (i + 1) rows)) in
    elim c.if-has.branch [
      | then-has w ↦ subst Kept (sym w.stems-is) (
        λ t h. w.insert_stem.ensures.grows t (c.loop-row.invariant.0 t h),
        all_more (λ r. words r.word ≡ true → IsStemIn (has c.loop-row.stems) r.outcome) (λ r. words r.word ≡ true → IsStemIn (has w.insert_stem.new.stems) r.outcome)
            view_row rows i c.row-item.result c.loop-row-test.true c.row-item.is
            (λ r known h. stem_grows (has c.loop-row.stems) (has w.insert_stem.new.stems) w.insert_stem.ensures.grows r.outcome (known h)) c.loop-row.invariant.1 (λ h. w.insert_stem.ensures.own),
      )
      | else-has w ↦ subst Kept (sym w.stems-is) (
        λ t h. c.loop-row.invariant.0 t h,
        all_more (λ r. words r.word ≡ true → IsStemIn (has c.loop-row.stems) r.outcome) (λ r. words r.word ≡ true → IsStemIn (has c.loop-row.stems) r.outcome)
            view_row rows i c.row-item.result c.loop-row-test.true c.row-item.is (λ r known. known) c.loop-row.invariant.1
            (λ h. absurd (true≢false (sym h ∙ sym c.has.ensures ∙ w.if-has.false))),
      )
    ]
