-- How families are gone through: words are taken out of the outcomes, and stems are counted.
use Rattle.std.specs.Prelude.{◌≡◌, ℕ, ⊤, Bool, false, ◌||◌, List, [], ◌∷◌, ◌++◌, map, Option, None, is_none, option_to_list, if◌then◌else◌}
use Rattle.std.specs.List.{AllByRecursion, filter, flat_map, fold}
use Rattle.std.specs.Option.{unwrap_or}
use Rattle.std.specs.declared.cmp.Ordering.TheVariants.{Less}
use Rattle.std.specs.Ordering.{nat_cmp}
use Rattle.std.specs.Cmp.Lexicographic.{slice_cmp}
use Rattle.std.specs.Str.{bytes_eq}
use Rattle.std.specs.BTreeMap.{BTreeMap, get_by}
use Rattle.std.specs.BTreeSet.{insert_key}
use Rattle.std.specs.declared.vec.Vec.{Vec}
use Rattle.std.specs.declared.alloc.Global.{Global}
use Rattle.sbl_rows.specs.declared.stem_class.StemPair.{StemPair}
use Rattle.sbl_semantics.specs.Outcome.{Outcome'}
use Rattle.sbl_rows.specs.Classes.{Pair}
use Rattle.sbl_rows.specs.Families.{with_stem}
use Rattle.sbl_rows.specs.Grouping.{view_pairs}
use Rattle.sbl_rows.specs.KnownOutcomes.{Text}

abbrev pub view_families : List (Vec StemPair Global) → List (List Pair)
view_families families = map (λ f. view_pairs f.items) families

-- the outcomes of words
abbrev pub Outcomes : Type 0
Outcomes = List ℕ → Option Outcome'

-- the outcomes without that of this word
abbrev pub without : List ℕ → Outcomes → Outcomes
without word outcome q = if bytes_eq q word then None else outcome q

-- the words with a stem, each taken out of the outcomes
abbrev pub pairs_taken : Outcomes → List (List ℕ) → List Pair
pairs_taken outcome [] = []
pairs_taken outcome (word ∷ words) = option_to_list (with_stem word (outcome word)) ++ pairs_taken (without word outcome) words

-- the outcomes that are left after these words
abbrev pub outcomes_left : Outcomes → List (List ℕ) → Outcomes
outcomes_left outcome [] = outcome
outcomes_left outcome (word ∷ words) = outcomes_left (without word outcome) words

abbrev pub all_taken : Outcomes → List (List (List ℕ)) → List (List Pair)
all_taken outcome [] = []
all_taken outcome (words ∷ lists) = pairs_taken outcome words ∷ all_taken (outcomes_left outcome words) lists

-- the words that have no outcome
abbrev pub unknown_in : Outcomes → List (List ℕ) → List (List ℕ)
unknown_in outcome words = filter (λ word. is_none (outcome word)) words

-- texts in order, and some more put in one after another
abbrev pub put_texts : List (List ℕ) → List (List ℕ) → List (List ℕ)
put_texts texts more = fold (insert_key (slice_cmp nat_cmp)) texts more

-- the pairs whose stem is none of those before, each stem once
abbrev pub firsts : (List ℕ → Bool) → List Pair → List Pair
firsts seen [] = []
firsts seen (p ∷ pairs) = (if seen p.0 then [] else p ∷ []) ++ firsts (λ q. bytes_eq p.0 q || seen q) pairs

-- of each family the first word with each stem
abbrev pub heads : List (List Pair) → List Pair
heads families = flat_map (firsts (λ q. false)) families

-- no stem is before the stem of an earlier pair in code point order
abbrev pub DoNotFall : List Pair → Type 0
DoNotFall [] = ⊤
DoNotFall (p ∷ pairs) = AllByRecursion (λ q. slice_cmp nat_cmp q.0 p.0 ≡ Less → ⊥) pairs × DoNotFall pairs

-- the number that the map has for a stem; 0 if it has none
abbrev pub count_in : BTreeMap Text ℕ → List ℕ → ℕ
count_in counts stem = unwrap_or (get_by (λ (k : Text). slice_cmp nat_cmp stem k.now) counts) 0
