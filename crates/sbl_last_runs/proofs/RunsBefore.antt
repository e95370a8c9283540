-- The runs before an edit and after it, of the words that it ran again.
use Rattle.std.proofs.Common.{map, ◌≡◌, ◌∙◌, ◌<◌, ◌+◌, ◌++◌, ℕ, suc, List, [], ◌∷◌, Option, Some, None, IsSome, slice_index_or, drop, length, add-one, append_assoc, refl, sym, ap}
use Rattle.std.specs.List.{All, cons_option, filter_map}
use Rattle.std.specs.Option.{option_and_then, option_to_list}
use Rattle.std.proofs.Math.Seq.{drop-cons}
use Rattle.std.proofs.lemmas.List.Elements.{All-head, All-tail}
use Rattle.sbl_semantics.specs.Outcome.{outcome_of}
use Rattle.sbl_rows.specs.ChangedRows.{ChangedRow, if_changed}
use Rattle.sbl_rows.specs.Setting.{Setting}
use Rattle.sbl_last_runs.specs.RunChanges.{AreRun}
use Rattle.sbl_last_runs.specs.KeptEntries.{KeptWord, AreFresh, IsFresh}
use Rattle.sbl_last_runs.specs.Last.{change_of, last_change, last_changes, word_found, word_run}
use Rattle.sbl_last_runs.specs.Pairs.{find}
use Rattle.sbl_last_runs.specs.declared.change.RunChange.{RunChange}
use Rattle.sbl_last_runs.specs.declared.run_trace.RunTrace.{RunTrace}
use Rattle.sbl_last_runs.proofs.Entries.{fresh_found}

pub heads : {A : Type 0} (x y : A) (xs ys : List A) → (x ∷ xs) ≡ (y ∷ ys) → x ≡ y
heads x y xs ys e = cc e

pub tails : {A : Type 0} (x y : A) (xs ys : List A) → (x ∷ xs) ≡ (y ∷ ys) → xs ≡ ys
tails x y xs ys e = cc e

one_last : (s t : Setting) (es fs : List KeptWord) (c l : RunChange) → AreFresh s es → IsFresh t c.word.items c.traced → find c.word.items fs ≡ Some c.traced → word_run l ≡ word_found es c
    → last_change fs l ≡ change_of s t c.word.items
one_last s t es fs c l fresh run there was =
    let w = c.word.items in
    let word : l.word.items ≡ w = ap (λ (p : List ℕ × Option RunTrace). p.0) was in
    let before : Some l.traced ≡ find w es = ap (λ (p : List ℕ × Option RunTrace). p.1) was in
    let old = fresh_found s w es l.traced fresh before in
    let now : find l.word.items fs ≡ Some c.traced = ap (λ (x : List ℕ). find x fs) word ∙ there in
    ap (option_and_then (λ (r : RunTrace). if_changed l.word.items (outcome_of l.traced.outcome) (outcome_of r.outcome))) now
    ∙ λ i. if_changed (word i) (old.outcome i) (run.outcome i)

pub last_is : (s t : Setting) (es fs : List KeptWord) (cs ls : List RunChange) → AreFresh s es → AreRun t es cs → All (λ c. find c.word.items fs ≡ Some c.traced) cs
    → map word_run ls ≡ map (word_found es) cs → last_changes fs ls ≡ filter_map (change_of s t) (map (λ c. c.word.items) cs)
last_is s t es fs [] [] fresh run there was = refl
last_is s t es fs [] (l ∷ ls) fresh run there was = cc was
last_is s t es fs (c ∷ cs) [] fresh run there was = cc was
last_is s t es fs (c ∷ cs) (l ∷ ls) fresh run there was =
    let first = one_last s t es fs c l fresh (All-head Run c cs run).0 (All-head Now c cs there) (heads (word_run l) (word_found es c) (map word_run ls) (map (word_found es) cs) was) in
    let rest = last_is s t es fs cs ls fresh (All-tail Run c cs run) (All-tail Now c cs there) (tails (word_run l) (word_found es c) (map word_run ls) (map (word_found es) cs) was) in
    λ i. cons_option (first i) (rest i)
  where
    Run : RunChange → Type 0
    Run d = IsFresh t d.word.items d.traced × IsSome (find d.word.items es)

    Now : RunChange → Type 0
    Now d = find d.word.items fs ≡ Some d.traced

-- ---- one change after another

put_option : {A : Type 0} (o : Option A) (xs : List A) → option_to_list o ++ xs ≡ cons_option o xs
put_option None xs = refl
put_option (Some x) xs = refl

-- one more change is looked at
pub last_step : (es : List KeptWord) (cs : List RunChange) (i : ℕ) (d c : RunChange) (old new all : List ChangedRow) → i < length cs → c ≡ slice_index_or cs i d
    → new ≡ old ++ option_to_list (last_change es c) → old ++ last_changes es (drop i cs) ≡ all → new ++ last_changes es (drop (i + 1) cs) ≡ all
last_step es cs i d c old new all below is more so =
    let rest = drop (i + 1) cs in
    let next : drop i cs ≡ c ∷ rest = drop-cons cs i d below ∙ ap (λ (x : RunChange). x ∷ drop (suc i) cs) (sym is) ∙ ap (λ (k : ℕ). c ∷ drop k cs) (sym (add-one i)) in
    ap (λ (l : List ChangedRow). l ++ last_changes es rest) more
    ∙ append_assoc old (option_to_list (last_change es c)) (last_changes es rest)
    ∙ ap (λ (l : List ChangedRow). old ++ l) (put_option (last_change es c) (last_changes es rest))
    ∙ ap (λ (l : List RunChange). old ++ last_changes es l) (sym next)
    ∙ so
