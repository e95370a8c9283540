-- Which rows an edit changes.
use Rattle.std.proofs.Common.{map, ◌≡◌, ◌≢◌, ◌∙◌, ◌<◌, ℕ, Bool, true, false, cond, List, [], ◌∷◌, Option, Some, None, slice_index_or, length, arith, refl, sym, ap, subst}
use Rattle.std.specs.List.{All, AllByRecursion, AllPairs, IsDistinct, cons_option, filter, filter_map}
use Rattle.std.specs.Map.{keys_of}
use Rattle.std.specs.Option.{option_and_then}
use Rattle.std.specs.Str.{bytes_eq}
use Rattle.std.proofs.lemmas.List.{length-map}
use Rattle.std.proofs.lemmas.List.Elements.{All-head, All-tail}
use Rattle.std.proofs.lemmas.List.Folds.{list_any_at}
use Rattle.std.proofs.lemmas.Map.Made.{AllPairs-from_IsDistinct, IsDistinct-keys_filter}
use Rattle.std.proofs.lemmas.Slice.Eq.{bytes_eq-Decides}
use denote.Enum.Bare.{true_same}
use Rattle.sbl_semantics.specs.contracts.fault.RunFault as fault
use Rattle.sbl_semantics.specs.Outcome.{Outcome', Stem, Refused, run_of}
use Rattle.sbl_bench.specs.inside.AffectedWords.{AffectedWords, is_affected}
use Rattle.sbl_rows.specs.ChangedRows.{ChangedRow, changed_rows, if_changed, outcome_in, same_outcome}
use Rattle.sbl_last_runs.specs.RunChanges.{AreAnew, Rerun, view_change}
use Rattle.sbl_bench.specs.inside.Changes.{is_met, met_words, reruns}
use Rattle.sbl_last_runs.specs.KeptEntries.{KeptWord, AreFresh, words_in}
use Rattle.sbl_last_runs.specs.Last.{AreApart, change_of, last_changes}
use Rattle.sbl_last_runs.specs.Pairs.{Text}
use Rattle.sbl_rows.specs.Rows.{rows_of}
use Rattle.sbl_rows.specs.Setting.{Setting}
use Rattle.sbl_rows.specs.inside.SameRuns.{RunsSame}
use Rattle.sbl_bench.specs.Vocabulary.{is_word}
use Rattle.sbl_last_runs.specs.declared.change.RunChange.{RunChange}
use Rattle.sbl_last_runs.proofs.ChangeFacts.{words_by_keys}
use Rattle.sbl_bench.proofs.Meeting.{anew, at_mapped, met_fresh, still}
use Rattle.sbl_last_runs.proofs.RunsBefore.{heads, tails}

-- ---- outcomes that are the same

same_itself : (o : Outcome') → same_outcome o o ≡ true
same_itself (Stem s) = (bytes_eq-Decides s s).1 refl
same_itself (Refused f) = true_same fault.the_type f f refl

if_changed_same : (word : List ℕ) (o p : Outcome') → p ≡ o → if_changed word o p ≡ None
if_changed_same word o p same = rw (ap (same_outcome o) same ∙ same_itself o) refl

-- ---- rows of one vocabulary in two settings

-- the outcome of a word in the rows
outcome_of_word : (s : Setting) (words : List (List ℕ)) (w : List ℕ) → outcome_in (rows_of s words) w ≡ cond (is_word w words) (Some (run_of s.script w s.limit)) None
outcome_of_word s [] w = refl
outcome_of_word s (v ∷ words) w = by (bytes_eq w v) refl (outcome_of_word s words w)
  where
    by : (b : Bool) → bytes_eq w v ≡ b → outcome_in (rows_of s words) w ≡ cond (is_word w words) (Some (run_of s.script w s.limit)) None
        → outcome_in (rows_of s (v ∷ words)) w ≡ cond (is_word w (v ∷ words)) (Some (run_of s.script w s.limit)) None
    by true h rest = rw h (ap (λ (x : List ℕ). Some (run_of s.script x s.limit)) (sym ((bytes_eq-Decides w v).0 h)))
    by false h rest = rw h rest

own_words : (words : List (List ℕ)) → All (λ w. is_word w words ≡ true) words
own_words words = λ k d h. list_any_at (bytes_eq (slice_index_or words k d)) words k d h ((bytes_eq-Decides (slice_index_or words k d) (slice_index_or words k d)).1 refl)

-- what changes for one row
abbrev row_change : Setting → Setting → List (List ℕ) → List ℕ → Option ChangedRow
row_change s t words w = option_and_then (λ (o : Outcome'). if_changed w o (run_of t.script w t.limit)) (outcome_in (rows_of s words) w)

rows_change : (s t : Setting) (words some : List (List ℕ)) → All (λ w. is_word w words ≡ true) some → changed_rows (rows_of s words) (rows_of t some) ≡ filter_map (change_of s t) some
rows_change s t words [] h = refl
rows_change s t words (w ∷ some) h =
    let there = All-head (λ (v : List ℕ). is_word v words ≡ true) w some h in
    let first : row_change s t words w ≡ change_of s t w =
    ap (option_and_then (λ (o : Outcome'). if_changed w o (run_of t.script w t.limit))) (outcome_of_word s words w ∙ ap (λ (b : Bool). cond b (Some (run_of s.script w s.limit)) None) there) in
    let rest = rows_change s t words some (All-tail (λ (v : List ℕ). is_word v words ≡ true) w some h) in
    λ i. cons_option (first i) (rest i)

-- words that are added or removed change no outcome
pub no_rows_change : (s : Setting) (words some : List (List ℕ)) → changed_rows (rows_of s words) (rows_of s some) ≡ []
no_rows_change s words [] = refl
no_rows_change s words (w ∷ some) =
    let o = run_of s.script w s.limit in
    let first : row_change s s words w ≡ None = ap (option_and_then (λ (p : Outcome'). if_changed w p o)) (outcome_of_word s words w) ∙ either (is_word w words) in
    let rest = no_rows_change s words some in
    λ i. cons_option (first i) (rest i)
  where
    either : (b : Bool) → option_and_then (λ (p : Outcome'). if_changed w p (run_of s.script w s.limit)) (cond b (Some (run_of s.script w s.limit)) None) ≡ None
    either true = if_changed_same w (run_of s.script w s.limit) (run_of s.script w s.limit) refl
    either false = refl

-- ---- the words that an edit runs again

met_change : (s t : Setting) (a : AffectedWords) (es : List KeptWord) → ((w : List ℕ) → is_affected s a w ≡ false → RunsSame s t w) → AreFresh s es
    → filter_map (change_of s t) (met_words a es) ≡ filter_map (change_of s t) (words_in es)
met_change s t a [] stays fresh = refl
met_change s t a (e ∷ es) stays fresh = by (is_met a e) refl (met_change s t a es stays fresh.1)
  where
    by : (b : Bool) → is_met a e ≡ b → filter_map (change_of s t) (met_words a es) ≡ filter_map (change_of s t) (words_in es)
        → filter_map (change_of s t) (words_in (cond b (e ∷ filter (is_met a) es) (filter (is_met a) es))) ≡ filter_map (change_of s t) (words_in (e ∷ es))
    by true h rest = ap (cons_option (change_of s t e.0.items)) rest
    by false h rest =
        let w = e.0.items in
        let same = stays w (sym (met_fresh s a e fresh.0) ∙ h) in
        rest ∙ ap (λ (o : Option ChangedRow). cons_option o (filter_map (change_of s t) (words_in es))) (sym (if_changed_same w (run_of s.script w s.limit) (run_of t.script w t.limit) same.outcome))

-- what changes for these words is all that changes
pub met_rows : (s t : Setting) (a : AffectedWords) (es : List KeptWord) → ((w : List ℕ) → is_affected s a w ≡ false → RunsSame s t w) → AreFresh s es
    → filter_map (change_of s t) (met_words a es) ≡ changed_rows (rows_of s (words_in es)) (rows_of t (words_in es))
met_rows s t a es stays fresh = met_change s t a es stays fresh ∙ sym (rows_change s t (words_in es) (words_in es) (own_words (words_in es)))

-- ---- the words of changes

-- the words of the changes are those that were run again
pub words_run : (t : Setting) (words : List (List ℕ)) (cs : List RunChange) → map view_change cs ≡ reruns t words → map (λ c. c.word.items) cs ≡ words
words_run t [] [] is = refl
words_run t [] (c ∷ cs) is = cc is
words_run t (w ∷ words) [] is = cc is
words_run t (w ∷ words) (c ∷ cs) is =
    let first = ap (λ (r : Rerun). r.word) (heads (view_change c) _ (map view_change cs) (reruns t words) is) in
    let rest = words_run t words cs (tails (view_change c) _ (map view_change cs) (reruns t words) is) in
    λ i. first i ∷ rest i

distinct_texts : (ks : List Text) → IsDistinct (λ (x y : Text). bytes_eq x.items y.items) ks → IsDistinct bytes_eq (map (λ (k : Text). k.items) ks)
unfolding IsDistinct
distinct_texts [] h = tt
distinct_texts (k ∷ ks) h = (others ks h.0, distinct_texts ks h.1)
  where
    others : (ys : List Text) → AllByRecursion (λ (y : Text). bytes_eq k.items y.items ≡ false) ys → AllByRecursion (λ y. bytes_eq k.items y ≡ false) (map (λ (y : Text). y.items) ys)
    others [] a = tt
    others (y ∷ ys) a = (a.0, others ys a.1)

-- no two of the words that are met are equal
met_apart : (a : AffectedWords) (es : List KeptWord) → IsDistinct (λ (x y : Text). bytes_eq x.items y.items) (keys_of es) → AllPairs (λ x y. x ≢ y) (met_words a es)
met_apart a es unique =
    let met = filter (is_met a) es in
    AllPairs-from_IsDistinct bytes_eq-Decides (met_words a es)
    (subst (IsDistinct bytes_eq) (sym (words_by_keys met)) (distinct_texts (keys_of met) (IsDistinct-keys_filter (λ (x y : Text). bytes_eq x.items y.items) (is_met a) es unique)))

pub apart : (t : Setting) (a : AffectedWords) (es : List KeptWord) (cs : List RunChange) → map view_change cs ≡ reruns t (met_words a es)
    → IsDistinct (λ (x y : Text). bytes_eq x.items y.items) (keys_of es) → AreApart cs
apart t a es cs is unique i j d h below =
    let word = λ (c : RunChange). c.word.items in
    let same = words_run t (met_words a es) cs is in
    let long : j < length (met_words a es) = let n = length-map cs word in let m = ap length same in omega (arith, n, m, below) in
    let at = λ (k : ℕ). ap (λ (ws : List (List ℕ)). slice_index_or ws k d.word.items) (sym same) ∙ at_mapped word cs k d in
    λ e. met_apart a es unique i j d.word.items h long (at i ∙ e ∙ sym (at j))

-- ---- an edit of the setting

-- what the last runs show after an edit that meets these words
pub edit_changes : (s t : Setting) (a : AffectedWords) (es fs : List KeptWord) (cs ls : List RunChange) → ((w : List ℕ) → is_affected s a w ≡ false → RunsSame s t w) → AreFresh s es
    → map view_change cs ≡ reruns t (met_words a es)
    → ((s t : Setting) → AreFresh s es → AreAnew t es cs → last_changes fs ls ≡ filter_map (change_of s t) (map (λ c. c.word.items) cs))
    → words_in fs ≡ words_in es → last_changes fs ls ≡ changed_rows (rows_of s (words_in es)) (rows_of t (words_in fs))
edit_changes s t a es fs cs ls stays fresh is last words =
    last s t fresh (anew a t es cs is (still s t a stays es fresh))
    ∙ ap (filter_map (change_of s t)) (words_run t (met_words a es) cs is)
    ∙ met_rows s t a es stays fresh
    ∙ ap (λ (ws : List (List ℕ)). changed_rows (rows_of s (words_in es)) (rows_of t ws)) (sym words)
