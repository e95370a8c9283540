-- Laws of families: when no row is told, how many pairs there are, which words count, and which are unknown.
use Rattle.std.specs.Prelude.{◌≡◌, ◌↔◌, ◌&&◌, ℕ, ◌+◌, ◌*◌, List, [], length, Some, All}
use Rattle.std.specs.List.{filter_map, flat_map}
use Rattle.sbl_rows.specs.Classes.{Pair}
use Rattle.sbl_rows.specs.ClassesAreSound.{Rise}
use Rattle.sbl_rows.specs.Families.{all_of, any_two, families_of, is_in, is_unknown, other_stem, over_rows, pairs_across, pairs_within, same_stem}
use Rattle.sbl_rows.specs.Families.{under, unknown_words}
use Rattle.sbl_rows.specs.Rows.{Row}
use Rattle.sbl_semantics.specs.Outcome.{Stem}
use Rattle.sbl_rows.specs.ChangedRows.{outcome_in}

-- No two words of one family have different stems exactly if no family is told to have several stems.
abbrev pub NoneApartIfNoUnder : Type 0
NoneApartIfNoUnder = (families : List (List Pair)) → (pairs_within other_stem families ≡ 0) ↔ (filter_map under families ≡ [])

-- No two words of two families share a stem exactly if no stem is told to be one of several families.
abbrev pub NoneJoinedIfNoOver : Type 0
NoneJoinedIfNoOver = (families : List (List Pair)) → (pairs_across same_stem families ≡ 0) ↔ (over_rows families ≡ [])

-- The pairs within families and those across are all pairs of the n words that count: n (n - 1) / 2. Within a family, two words share a
-- stem or are apart.
abbrev pub PairsAddUp : Type 0
PairsAddUp =
    (families : List (List Pair))
    → (2 * (pairs_within any_two families + pairs_across any_two families) + length (all_of families)
    ≡ length (all_of families) * length (all_of families))
    × (pairs_within same_stem families + pairs_within other_stem families ≡ pairs_within any_two families)

-- each word that counts has a row, and the stem of the row
abbrev pub WordsHaveTheirStems : Type 0
WordsHaveTheirStems =
    (rows : List Row) (lists : List (List (List ℕ))) → All (λ p. outcome_in rows p.1 ≡ Some (Stem p.0)) (all_of (families_of rows [] lists))

-- No two unknown words are the same, since they rise.
abbrev pub UnknownRise : Type 0
UnknownRise = (rows : List Row) (lists : List (List (List ℕ))) → Rise (unknown_words rows lists)

-- The unknown words are exactly those of the lists that have no row.
abbrev pub UnknownHaveNoRow : Type 0
UnknownHaveNoRow =
    (rows : List Row) (lists : List (List (List ℕ))) (word : List ℕ)
    → is_in (unknown_words rows lists) word ≡ (is_in (flat_map (λ l. l) lists) word && is_unknown rows word)
