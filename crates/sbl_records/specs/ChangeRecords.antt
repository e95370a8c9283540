-- The records of changes.
use Rattle.std.specs.Prelude.{ℕ, List, [], ◌∷◌, ◌++◌, codes}
use Rattle.std.specs.Str.{encode_utf8_all}
use Rattle.sbl_rows.specs.Changes.{Added, Change, Changed, Merged, Removed, Renamed, Split}
use Rattle.sbl_records.specs.RowRecords.{outcome_fields, stem_fields}

abbrev pub change_fields : Change → List (List ℕ)
change_fields (Added word) = codes "added" ∷ encode_utf8_all word ∷ []
change_fields (Removed word) = codes "removed" ∷ encode_utf8_all word ∷ []
change_fields (Changed word before after) = codes "changed" ∷ encode_utf8_all word ∷ (outcome_fields before ++ outcome_fields after)
change_fields (Split stem into) = codes "split" ∷ stem_fields stem into
change_fields (Merged stem from) = codes "merged" ∷ stem_fields stem from
change_fields (Renamed before after) = codes "renamed" ∷ stem_fields before (after ∷ [])
