-- The rows of the faults of a text.
use Rattle.std.specs.Prelude.{ℕ, List, [], ◌∷◌, ◌++◌, codes, decimal, Option, Some, None}
use Rattle.sbl_io.specs.Records.{record_line}
use Rattle.sbl_text_rows.specs.PlaceRows.{place_fields}

-- what the row of a fault has: its number, its name, the range that it is at, and a sentence
pub record FaultFields : Type 0 where
  pub number : ℕ
  pub name : List ℕ
  pub range : Option (ℕ × ℕ)
  pub sentence : List ℕ

-- the two ends of a range, and the line and the column of the first; empty fields for a fault at no place
abbrev pub range_fields : List ℕ → Option (ℕ × ℕ) → List (List ℕ)
range_fields text None = [] ∷ [] ∷ [] ∷ [] ∷ []
range_fields text (Some r) = place_fields text r.0 r.1

unfoldable pub fault_row : List ℕ → FaultFields → List (List ℕ)
fault_row text f = codes "fault" ∷ decimal f.number ∷ f.name ∷ (range_fields text f.range ++ f.sentence ∷ [])

-- the lines of the rows of these faults of a text
abbrev pub fault_lines : List ℕ → List FaultFields → List ℕ
fault_lines text [] = []
fault_lines text (f ∷ fs) = record_line (fault_row text f) ++ fault_lines text fs
