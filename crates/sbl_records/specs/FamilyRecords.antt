-- The records of the results of families.
use Rattle.std.specs.Prelude.{ℕ, List, [], ◌∷◌, codes, decimal}
use Rattle.sbl_rows.specs.Families.{FamilyResult, Under, Over, Pairs, Unknown}
use Rattle.sbl_records.specs.RowRecords.{stem_fields}

abbrev pub number_field : ℕ → List (List ℕ)
number_field n = decimal n ∷ []

abbrev pub result_fields : FamilyResult → List (List ℕ)
result_fields (Under word stems) = codes "under" ∷ stem_fields word stems
result_fields (Over stem words) = codes "over" ∷ stem_fields stem words
result_fields (Pairs within apart across joined) = codes "pairs" ∷ decimal within ∷ decimal apart ∷ decimal across ∷ decimal joined ∷ []
result_fields (Unknown number) = codes "unknown" ∷ decimal number ∷ []
