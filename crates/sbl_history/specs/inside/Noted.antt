-- The words that are noted since something about them differs, and the stems of such words.
use Rattle.std.specs.Prelude.{◌≡◌, ◌⊎◌, ℕ, Bool, true, false, List, Some, ⊤}
use Rattle.std.specs.Prelude.{slice_get}
use Rattle.sbl_semantics.specs.Outcome.{Outcome', Stem, Refused}
use Rattle.sbl_rows.specs.Rows.{Row}

-- some texts
abbrev pub Test : Type 0
Test = List ℕ → Bool

-- the row is one of these
abbrev pub IsOneOf : List Row → Row → Type 0
IsOneOf rows r = (n : ℕ) × (slice_get rows n ≡ Some r)

-- the word of the row is noted, or the row is in the other list, too
abbrev pub IsNoted : Test → List Row → Row → Type 0
IsNoted words others r = (words r.word ≡ true) ⊎ IsOneOf others r

-- if the outcome is a stem, it is one of these
abbrev pub IsStemIn : Test → Outcome' → Type 0
IsStemIn stems (Stem s) = stems s ≡ true
IsStemIn stems (Refused f) = ⊤

-- one of these rows has the stem; its word is not noted, but kept
unfoldable pub IsShown : Test → Test → List Row → List ℕ → Type 0
IsShown words kept rows stem = (r : Row) × IsOneOf rows r × (r.outcome ≡ Stem stem) × (words r.word ≡ false) × (kept r.word ≡ true)

-- if the stem of a row is one of these, its word is noted or kept, or a row shows the stem
abbrev pub IsCovered : Test → Test → Test → List Row → Row → Type 0
IsCovered words stems kept rows y =
    (x : List ℕ) → y.outcome ≡ Stem x → stems x ≡ true → (words y.word ≡ true) ⊎ ((kept y.word ≡ true) ⊎ IsShown words kept rows x)
