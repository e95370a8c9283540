-- A name for a part of Classes.antt, which only proofs use.
use Rattle.std.specs.Prelude.{ℕ, List}
use Rattle.sbl_rows.specs.Rows.{Row}
use Rattle.sbl_rows.specs.Classes.{members_of, stem_pairs}

-- the words of the rows that have this stem
abbrev pub words_with : List ℕ → List Row → List (List ℕ)
words_with stem rows = members_of stem (stem_pairs rows)
