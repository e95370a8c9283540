-- The records of rows and of classes.
use Rattle.std.specs.Prelude.{ℕ, List, [], ◌∷◌, map, codes}
use Rattle.std.specs.Str.{encode_utf8_all}
use Rattle.sbl_semantics.specs.Names.{name_of}
use Rattle.sbl_semantics.specs.Outcome.{Outcome', Stem, Refused}
use Rattle.sbl_rows.specs.Classes.{Class}
use Rattle.sbl_rows.specs.Rows.{Row}

-- the fields of a row: the word, and its stem or the name of the fault of its run
abbrev pub outcome_fields : Outcome' → List (List ℕ)
outcome_fields (Stem text) = codes "stem" ∷ encode_utf8_all text ∷ []
outcome_fields (Refused f) = codes "refused" ∷ name_of f ∷ []

unfoldable pub row_fields : Row → List (List ℕ)
row_fields row = encode_utf8_all row.word ∷ outcome_fields row.outcome

-- a stem, and then others
abbrev pub stem_fields : List ℕ → List (List ℕ) → List (List ℕ)
stem_fields stem stems = map encode_utf8_all (stem ∷ stems)

-- the fields of a class: its stem, and then its words
unfoldable pub class_fields : Class → List (List ℕ)
class_fields c = stem_fields c.stem c.members
