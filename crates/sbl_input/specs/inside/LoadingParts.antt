-- Names for parts of Loading.antt.
use Rattle.std.specs.Prelude.{◌≡◌, ◌≢◌, ◌≤◌, ℕ, false, List, [], ◌∷◌, ◌++◌, Option, length}
use Rattle.std.specs.Str.{is_utf8}
use Rattle.sbl_reports.specs.Block.{BlockLines, point}
use Rattle.sbl_io.specs.HeldInput.{Took}
use Rattle.sbl_io.specs.LinesOf.{max_line}
use Rattle.sbl_input.specs.Loading.{WordLines}

-- lines of words were taken, and one more that is not UTF-8
abbrev pub TookNoText : Option (List ℕ) → Option (List ℕ) → Type 0
TookNoText old new =
    (done : List (List ℕ)) × (first : List ℕ) × WordLines done × (first ≢ point) × (length first ≤ max_line) × (is_utf8 first ≡ false)
    × Took old new (done ++ first ∷ [])

-- some lines of words were taken
abbrev pub TookSome : Option (List ℕ) → Option (List ℕ) → Type 0
TookSome old new = (lines : List (List ℕ)) × BlockLines lines × Took old new lines
