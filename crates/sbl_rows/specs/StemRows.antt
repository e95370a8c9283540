-- Rows that are made of words and stems.
use Rattle.std.specs.Prelude.{ℕ, List, map}
use Rattle.std.specs.List.{zip}
use Rattle.sbl_rows.specs.Rows.{Row}
use Rattle.sbl_semantics.specs.Outcome.{Stem}

-- a word with this stem
abbrev pub stem_row : List ℕ × List ℕ → Row
stem_row p = record { word = p.0; outcome = Stem p.1 }

-- the words, each with the stem at its place
abbrev pub rows_with : List (List ℕ) → List (List ℕ) → List Row
rows_with words stems = map stem_row (zip words stems)
