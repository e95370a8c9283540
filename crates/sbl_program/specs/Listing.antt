-- The strings in the tables of a machine.
use Rattle.std.specs.Prelude.{ℕ, List, [], Option, Some, None}
use Rattle.sbl_ast.specs.declared.mode.Mode.{Mode}
use Rattle.sbl_ast.specs.declared.mode.Mode.TheVariants.{Forward}
use Rattle.sbl_program.specs.AmongStrings.{Listing, listing}
use Rattle.sbl_semantics.specs.Fitting.{fitting, read_all, ahead_at}

-- the strings of a table, and its mode
abbrev pub listed_of : (S : Type 0) → (S → List (List ℕ)) → (S → Mode) → S → Listing
listed_of S entries mode t = listing (mode t) (entries t)

-- the same, and no strings if there is no table
abbrev pub listed_by : (S : Type 0) → (S → List (List ℕ)) → (S → Mode) → Option S → Listing
listed_by S entries mode None = listing Forward []
listed_by S entries mode (Some t) = listed_of S entries mode t

-- the numbers of the strings that match at an offset of a text, up to a bound, the longest first
abbrev pub fits_at : Listing → List ℕ → ℕ → ℕ → List ℕ
fits_at l text at bound = fitting (read_all l.mode l.entries) (ahead_at l.mode text at bound)
