-- What an edit of the setting answers, by what running the affected words again gave.
use Rattle.std.proofs.Common.{◌≡◌, ◌∙◌, ◌≤◌, ◌<◌, ◌+◌, ◌-◌, ℕ, List, Ok, Err, inl, inr, length, ap, sym, refl, subst}
use Rattle.sbl_bench.specs.declared.fault.EditFault.{EditFault}
use Rattle.sbl_bench.specs.declared.fault.EditFault.TheVariants as fault
use Rattle.sbl_bench.specs.inside.AffectedWords.{AffectedWords}
use Rattle.sbl_bench.specs.inside.Changes.{Brings, met_words}
use Rattle.sbl_bench.specs.BreakingOff.{EditsOrBreaks}
use Rattle.sbl_bench.specs.Contents.{Contents, max_runs}
use Rattle.sbl_bench.specs.Edits.{Edit, Edits, BeforeEdit, runs_needed}
use Rattle.sbl_last_runs.specs.KeptEntries.{AreFresh, KeptWord, words_in}
use Rattle.sbl_rows.specs.Setting.{Setting}
use Rattle.sbl_bench.specs.inside.Stops.{IsStopOf}
use Rattle.sbl_bench.proofs.Meeting.{needed_is}
use Rattle.sbl_bench.proofs.Refusals.{breaks, replaces, replaces_never, replaces_nothing}

module _ (s : Contents) (e : Edit) (t : Setting) (a : AffectedWords) (es : List KeptWord) (b : Brings s e t a) (words : s.words ≡ words_in es) (fresh : AreFresh s.setting es) where
  abbrev need : ℕ
  need = length (met_words a es)

  same : need ≡ runs_needed s e t
  same = needed_is s e t a es b words fresh

  -- where memory was refused before any run
  pub out_of_memory : Edits (Err fault.OutOfMemory) s e s
  out_of_memory = BeforeEdit b.wants b.passes refl

  pub stop_edits : (f : EditFault) (count : ℕ) → IsStopOf need f s.count count → EditsOrBreaks (Err f) s e (record s { count = count })
  stop_edits fault.OutOfMemory count (inl none) = BeforeEdit b.wants b.passes (λ i. record s { count = none i })
  stop_edits fault.OutOfMemory count (inr some) =
      replaces_nothing s e t s.words s.count need count b.wants b.after refl same some.2 refl (some.0, subst (λ (n : ℕ). some.0 ≤ n) same some.1, some.3)
  stop_edits fault.MeterFull count full =
      subst (λ (n : ℕ). Edits (Err fault.MeterFull) s e (record s { count = n })) (sym full.1) (replaces_never s e t s.count need b.after refl same full.0)
  stop_edits fault.BrokenOff count cut =
      breaks s e t s.count need count b.after refl same cut.2 (cut.0, subst (λ (n : ℕ). cut.0 < n) same cut.1, cut.3)
  stop_edits _ count stop = absurd stop

  pub commit_edits : (fs : List KeptWord) (count : ℕ) → words_in fs ≡ words_in es → need ≤ max_runs - s.count → count ≡ s.count + need → Edits (Ok tt) s e (record { setting = t; words = words_in fs; count = count })
  commit_edits fs count stay room counts =
      replaces s e t (words_in fs) s.count need count b.after refl same room (stay ∙ sym words ∙ sym b.words) (counts ∙ ap (λ (n : ℕ). s.count + n) same)
