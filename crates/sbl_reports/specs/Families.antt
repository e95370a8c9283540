-- The report of families.
use Rattle.std.specs.Prelude.{ℕ, Bool, true, false, ◌==◌, ◌||◌, List, [], ◌∷◌, map}
use Rattle.std.specs.List.{filter, slice_split}
use Rattle.sbl_bench.specs.Contents.{Contents, rows_now}
use Rattle.sbl_rows.specs.Families.{family_results}
use Rattle.sbl_io.specs.Records.{records_text}
use Rattle.sbl_records.specs.FamilyRecords.{result_fields}

-- a row for each result
abbrev pub families_text : Contents → List (List (List ℕ)) → List ℕ
families_text s lists = records_text (map result_fields (family_results (rows_now s) lists))

-- ---- the families of a text

abbrev pub is_feed : ℕ → Bool
is_feed c = c == 10

-- a space, a tab or a comma
abbrev pub is_separator : ℕ → Bool
is_separator c = c == 32 || (c == 9 || c == 44)

abbrev pub has_some : List ℕ → Bool
has_some [] = false
has_some (c ∷ text) = true

-- the words of a line
abbrev pub family_in : List ℕ → List (List ℕ)
family_in line = filter has_some (slice_split is_separator line)

-- a family for each line; one without a word has no effect
unfoldable pub families_in : List ℕ → List (List (List ℕ))
families_in text = map family_in (slice_split is_feed text)
