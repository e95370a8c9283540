-- The strings of an among, and the mode in which they are read.
use Rattle.std.specs.Prelude.{ℕ, List}
use Rattle.sbl_ast.specs.declared.mode.Mode.{Mode}

pub record Listing : Type 0 where
  pub mode : Mode
  pub entries : List (List ℕ)

abbrev pub listing : Mode → List (List ℕ) → Listing
listing m es = record { mode = m; entries = es }
