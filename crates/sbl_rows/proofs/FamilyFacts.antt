-- The words of families that count, whichever way the words before are kept.
use Rattle.std.proofs.Common.{◌≡◌, ◌∙◌, ◌||◌, ◌++◌, Bool, true, false, ℕ, List, [], ◌∷◌, Option, None, if◌then◌else◌, option_to_list, append_assoc, Some, length, slice_get, arith, ◌<◌, ◌≤◌, refl, sym, ap}
use Rattle.std.specs.Str.{bytes_eq}
use Rattle.sbl_rows.specs.declared.stem_class.StemPair.{StemPair}
use Rattle.sbl_rows.specs.Classes.{Pair}
use Rattle.sbl_rows.specs.Grouping.{view_pairs}
use Rattle.sbl_rows.specs.Families.{FamilyResult, Under, pair_of_word, families_of, family_of, is_in, stems_of, under, under_with, with_stem}
use Rattle.sbl_rows.specs.Counting.{Outcomes, all_taken, outcomes_left, pairs_taken, without}
use Rattle.sbl_rows.specs.Rows.{Row}
use Rattle.sbl_rows.specs.ChangedRows.{outcome_in}

-- the outcomes of the rows without those of the words before
abbrev pub AreLeft : List Row → List (List ℕ) → Outcomes → Type 0
AreLeft rows before outcome = (q : List ℕ) → outcome q ≡ (if is_in before q then None else outcome_in rows q)

one_less : (rows : List Row) (before : List (List ℕ)) (word : List ℕ) (outcome : Outcomes) → AreLeft rows before outcome → AreLeft rows (word ∷ before) (without word outcome)
one_less rows before word outcome h q = by (bytes_eq q word)
  where
    by : (b : Bool) → (if b then None else outcome q) ≡ (if (b || is_in before q) then None else outcome_in rows q)
    by true = refl
    by false = h q

here : (rows : List Row) (before : List (List ℕ)) (word : List ℕ) (outcome : Outcomes) → AreLeft rows before outcome → with_stem word (outcome word) ≡ pair_of_word rows before word
here rows before word outcome h = ap (with_stem word) (h word) ∙ by (is_in before word)
  where
    by : (b : Bool) → with_stem word (if b then None else outcome_in rows word) ≡ (if b then None else with_stem word (outcome_in rows word))
    by true = refl
    by false = refl

taken-family : (rows : List Row) (before words : List (List ℕ)) (outcome : Outcomes) → AreLeft rows before outcome → pairs_taken outcome words ≡ family_of rows before words
taken-family rows before [] outcome h = refl
taken-family rows before (word ∷ words) outcome h =
    λ i. option_to_list (here rows before word outcome h i) ++ taken-family rows (word ∷ before) words (without word outcome) (one_less rows before word outcome h) i

-- the order of the words before is all one
in_append : (xs ys : List (List ℕ)) (q : List ℕ) → is_in (xs ++ ys) q ≡ (is_in xs q || is_in ys q)
in_append [] ys q = refl
in_append (x ∷ xs) ys q = ap (λ (b : Bool). bytes_eq q x || b) (in_append xs ys q) ∙ regroup (bytes_eq q x) (is_in xs q) (is_in ys q)
  where
    regroup : (a b c : Bool) → (a || (b || c)) ≡ ((a || b) || c)
    regroup true b c = refl
    regroup false b c = refl

left-words : (rows : List Row) (before words : List (List ℕ)) (outcome : Outcomes) → AreLeft rows before outcome → AreLeft rows (words ++ before) (outcomes_left outcome words)
left-words rows before [] outcome h q = h q
left-words rows before (word ∷ words) outcome h q =
    left-words rows (word ∷ before) words (without word outcome) (one_less rows before word outcome h) q
    ∙ ap (λ (b : Bool). if b then None else outcome_in rows q) (in_append words (word ∷ before) q ∙ swap (is_in words q) (bytes_eq q word) (is_in before q) ∙ ap (λ (b : Bool). bytes_eq q word || b) (sym (in_append words before q)))
  where
    swap : (a b c : Bool) → (a || (b || c)) ≡ (b || (a || c))
    swap true true c = refl
    swap true false c = refl
    swap false b c = refl

taken-families : (rows : List Row) (before : List (List ℕ)) (lists : List (List (List ℕ))) (outcome : Outcomes) → AreLeft rows before outcome → all_taken outcome lists ≡ families_of rows before lists
taken-families rows before [] outcome h = refl
taken-families rows before (words ∷ lists) outcome h =
    λ i. taken-family rows before words outcome h i ∷ taken-families rows (words ++ before) lists (outcomes_left outcome words) (left-words rows before words outcome h) i

-- the families taken out of the outcomes of the rows
pub all-taken : (rows : List Row) (lists : List (List (List ℕ))) → all_taken (outcome_in rows) lists ≡ families_of rows [] lists
all-taken rows lists = taken-families rows [] lists (outcome_in rows) (λ q. refl)

-- one word more, and one list more
pub taken-step : (outcome : Outcomes) (word : List ℕ) (words : List (List ℕ)) (old new : List Pair) → new ≡ old ++ option_to_list (with_stem word (outcome word))
    → new ++ pairs_taken (without word outcome) words ≡ old ++ pairs_taken outcome (word ∷ words)
taken-step outcome word words old new e = ap (λ (l : List Pair). l ++ pairs_taken (without word outcome) words) e ∙ append_assoc old (option_to_list (with_stem word (outcome word))) (pairs_taken (without word outcome) words)

-- ---- a family with few stems, and one with several

pub under-few : (family : List Pair) (stems : List (List ℕ)) → stems ≡ stems_of family → length stems < 2 → ◌≡◌ {A = Option FamilyResult} None (under family)
under-few [] stems e lt = refl
under-few (p ∷ ps) stems e lt = by stems lt ∙ ap (under_with p.1) e
  where
    by : (ss : List (List ℕ)) → length ss < 2 → ◌≡◌ {A = Option FamilyResult} None (under_with p.1 ss)
    by [] lt = refl
    by (s ∷ []) lt = refl
    by (s ∷ t ∷ ss) lt = absurd (omega arith)

pub under-many : (family : List StemPair) (first : StemPair) (stems : List (List ℕ)) → Some first ≡ slice_get family 0 → stems ≡ stems_of (view_pairs family) → 2 ≤ length stems
    → Some (Under first.member.now stems) ≡ under (view_pairs family)
under-many [] first stems f e le = cc f
under-many (p ∷ ps) first stems f e le = let same : first ≡ p = cc f in ap (λ (x : StemPair). Some (Under x.member.now stems)) same ∙ by stems le ∙ ap (under_with p.member.now) e
  where
    by : (ss : List (List ℕ)) → 2 ≤ length ss → Some (Under p.member.now ss) ≡ under_with p.member.now ss
    by [] le = absurd (omega arith)
    by (s ∷ []) le = absurd (omega arith)
    by (s ∷ t ∷ ss) le = refl
