-- A check in the midst of its work.
use Rattle.std.specs.Prelude.{◌≡◌, ℕ, Bool, true, false, List, [], ◌∷◌, ◌++◌, length, take, string_bytes}
use Rattle.std.specs.Prelude.{Option, Some, None, Result, Ok, Err}
use Rattle.std.specs.Io.KnownBytes.{Appends}
use Rattle.std.specs.declared.vec.Vec.{Vec}
use Rattle.std.specs.declared.alloc.Global.{Global}
use Rattle.sbl_ast.specs.Source.{Source}
use Rattle.sbl_batch.specs.Differences as spec
use Rattle.sbl_batch.specs.Differences.{difference, differences, ending, pair_fault}
use Rattle.sbl_io.specs.LinesOf.{lines_of}
use Rattle.sbl_io.specs.Records.{record_line, records_text}
use Rattle.sbl_batch.specs.declared.checking.Got.{Got}
use Rattle.sbl_batch.specs.declared.checking.Got.TheVariants as got
use Rattle.sbl_io.specs.declared.faults.ServeFault.{ServeFault}
use Rattle.sbl_io.specs.declared.faults.ServeFault.TheVariants as fault

-- the code's answer without where it lies in memory
abbrev pub view_got : Got → spec.Got
view_got (got.Stem text) = spec.Stem (string_bytes text)
view_got (got.Refused name) = spec.Refused name.now

-- a text is there for the one row, or there is none
abbrev pub IsRow : Option (Vec ℕ Global) → List (List (List ℕ)) → Type 0
IsRow None rows = rows ≡ []
IsRow (Some text) rows = (fields : List (List ℕ)) × (rows ≡ fields ∷ []) × (text.items ≡ record_line fields)

-- as many rows as a line has that differs, or not
abbrev pub count : Bool → ℕ
count true = 1
count false = 0

-- What the comparison of two lines writes and answers: the row of their difference, or none; or why they can't be compared.
abbrev pub ComparesPair : Source → ℕ → List ℕ → List ℕ → Option (List ℕ) → Option (List ℕ) → Result Bool ServeFault → Type 0
ComparesPair script n word expected held new_held (Ok differs) =
    (pair_fault word expected ≡ None) × (length (difference script n word expected) ≡ count differs)
    × Appends held new_held (records_text (difference script n word expected))
ComparesPair script n word expected held new_held (Err fault.Write) =
    (pair_fault word expected ≡ None) × (k : ℕ) × Appends held new_held (take k (records_text (difference script n word expected)))
ComparesPair script n word expected held new_held (Err fault.OutOfMemory) =
    (pair_fault word expected ≡ None) × Appends held new_held []
ComparesPair script n word expected held new_held (Err f) = (pair_fault word expected ≡ Some f) × Appends held new_held []

-- The comparison so far: the rows of these lines were written, so many, and the others are those of the lines that are left,
-- the first of which has this number.
pub record Progress (script : Source) (words expected words_left expected_left : List ℕ) (n found : ℕ)
    (held new_held : Option (List ℕ)) : Type 0 where
  pub done : List (List (List ℕ))
  pub rows : spec.all_differences script words expected ≡ done ++ differences script n (lines_of words_left) (lines_of expected_left)
  pub ends : ending (lines_of words) (lines_of expected) ≡ ending (lines_of words_left) (lines_of expected_left)
  pub found_is : found ≡ length done
  pub text : Appends held new_held (records_text done)
