-- Families: words of which an author says that they belong together, and how far their stems agree with that.
use Rattle.std.specs.Prelude.{ℕ, ◌+◌, Bool, true, not, List, [], ◌∷◌, ◌++◌, length, map, Option, Some, None, is_none, option_to_list, if◌then◌else◌}
use Rattle.std.specs.List.{count_by, filter, filter_map, find, flat_map, list_any, sum_by}
use Rattle.std.specs.Option.{option_map}
use Rattle.std.specs.Str.{bytes_eq}
use Rattle.std.specs.Borrow.{Bor}
use Rattle.std.specs.declared.vec.Vec.{Vec}
use Rattle.std.specs.declared.alloc.Global.{Global}
use Rattle.sbl_rows.specs.declared.family_report.FamilyRow.{FamilyRow}
use Rattle.sbl_rows.specs.declared.family_report.FamilyRow.TheVariants as code
use Rattle.sbl_rows.specs.Classes.{Pair, in_order, texts_of, pair_of}
use Rattle.sbl_semantics.specs.Outcome.{Outcome'}
use Rattle.sbl_rows.specs.Rows.{Row}
use Rattle.sbl_rows.specs.ChangedRows.{outcome_in}

-- ---- the words that count

-- a word with its stem, if it has a row and a stem
abbrev pub with_stem : List ℕ → Option Outcome' → Option Pair
with_stem word None = None
with_stem word (Some o) = pair_of word o

-- whether the text is one of these
abbrev pub is_in : List (List ℕ) → List ℕ → Bool
is_in texts text = list_any (bytes_eq text) texts

-- a word counts if it has a stem and is none of those before
abbrev pub pair_of_word : List Row → List (List ℕ) → List ℕ → Option Pair
pair_of_word rows before word = if is_in before word then None else with_stem word (outcome_in rows word)

-- the words of one family that count, each with its stem; `before` are the words before the family
abbrev pub family_of : List Row → List (List ℕ) → List (List ℕ) → List Pair
family_of rows before [] = []
family_of rows before (word ∷ words) = option_to_list (pair_of_word rows before word) ++ family_of rows (word ∷ before) words

-- The families, each with its words that count. One without such a word has no pair, and so no part in what follows.
abbrev pub families_of : List Row → List (List ℕ) → List (List (List ℕ)) → List (List Pair)
families_of rows before [] = []
families_of rows before (words ∷ lists) = family_of rows before words ∷ families_of rows (words ++ before) lists

-- ---- families whose words have several stems, and stems that several families have

pub data FamilyResult : Type 0 where
  Under : List ℕ → List (List ℕ) → FamilyResult
  Over : List ℕ → List (List ℕ) → FamilyResult
  Pairs : ℕ → ℕ → ℕ → ℕ → FamilyResult
  Unknown : ℕ → FamilyResult

-- the stems of a family, in code point order
abbrev pub stems_of : List Pair → List (List ℕ)
stems_of pairs = in_order (map (λ p. p.0) pairs)

abbrev pub under_with : List ℕ → List (List ℕ) → Option FamilyResult
under_with word [] = None
under_with word (s ∷ []) = None
under_with word (s ∷ t ∷ stems) = Some (Under word (s ∷ t ∷ stems))

-- a family whose words have two stems or more: its first word and the stems
abbrev pub under : List Pair → Option FamilyResult
under [] = None
under (p ∷ pairs) = under_with p.1 (stems_of (p ∷ pairs))

-- the first word of a family with this stem
abbrev pub first_with : List ℕ → List Pair → Option (List ℕ)
first_with stem pairs = option_map (λ p. p.1) (find (λ p. bytes_eq stem p.0) pairs)

-- a stem that words of two families or more have: the first such word of each
abbrev pub over : List ℕ → List (List ℕ) → Option FamilyResult
over stem [] = None
over stem (w ∷ []) = None
over stem (w ∷ v ∷ words) = Some (Over stem (w ∷ v ∷ words))

-- all pairs of all families, in order
abbrev pub all_of : List (List Pair) → List Pair
all_of families = flat_map (λ f. f) families

abbrev pub over_rows : List (List Pair) → List FamilyResult
over_rows families = filter_map (λ stem. over stem (filter_map (first_with stem) families)) (stems_of (all_of families))

-- ---- pairs of words

abbrev pub any_two : Pair → Pair → Bool
any_two p q = true

abbrev pub same_stem : Pair → Pair → Bool
same_stem p q = bytes_eq p.0 q.0

abbrev pub other_stem : Pair → Pair → Bool
other_stem p q = not (bytes_eq p.0 q.0)

-- how many pairs of words of one list pass the test
abbrev pub pairs_in : (Pair → Pair → Bool) → List Pair → ℕ
pairs_in test [] = 0
pairs_in test (p ∷ ps) = count_by (test p) ps + pairs_in test ps

-- how many pairs of a word of one list and a word of another pass the test
abbrev pub pairs_between : (Pair → Pair → Bool) → List Pair → List Pair → ℕ
pairs_between test ps qs = sum_by (λ p. count_by (test p) qs) ps

-- of the pairs of words of one family
abbrev pub pairs_within : (Pair → Pair → Bool) → List (List Pair) → ℕ
pairs_within test families = sum_by (pairs_in test) families

-- of the pairs of a word of a family and a word of a later one
abbrev pub pairs_across : (Pair → Pair → Bool) → List (List Pair) → ℕ
pairs_across test [] = 0
pairs_across test (f ∷ families) = pairs_between test f (all_of families) + pairs_across test families

-- the pairs of one family, those of them with different stems, the pairs of two families, those of them that share a stem
abbrev pub pairs_row : List (List Pair) → FamilyResult
pairs_row families =
    Pairs (pairs_within any_two families) (pairs_within other_stem families) (pairs_across any_two families) (pairs_across same_stem families)

-- ---- words that have no row

abbrev pub is_unknown : List Row → List ℕ → Bool
is_unknown rows word = is_none (outcome_in rows word)

-- the words of the lists that have no row, in code point order, each once
abbrev pub unknown_words : List Row → List (List (List ℕ)) → List (List ℕ)
unknown_words rows lists = in_order (filter (is_unknown rows) (flat_map (λ l. l) lists))

-- ---- all together

abbrev pub results_of : List (List Pair) → List FamilyResult
results_of families = filter_map under families ++ over_rows families ++ pairs_row families ∷ []

-- what these lists of words are over these rows, and how many of their words have no row
abbrev pub family_results : List Row → List (List (List ℕ)) → List FamilyResult
family_results rows lists = results_of (families_of rows [] lists) ++ Unknown (length (unknown_words rows lists)) ∷ []

-- the lists of words that the code's values represent
abbrev pub view_words : List (Vec (Bor (List ℕ)) Global) → List (List (List ℕ))
view_words lists = map (λ l. texts_of l.items) lists

-- the result that the code's value represents
abbrev pub view_result : FamilyRow → FamilyResult
view_result (code.Under w ss) = Under w.now (texts_of ss.items)
view_result (code.Over c) = Over c.stem.now (texts_of c.members.items)
view_result (code.Pairs n) = Pairs n.within n.apart n.across n.joined
view_result (code.Unknown n) = Unknown n

abbrev pub view_results : List FamilyRow → List FamilyResult
view_results rows = map view_result rows
