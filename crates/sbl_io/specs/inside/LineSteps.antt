-- What the functions inside the reading of lines promise each other.
use Rattle.std.specs.Prelude.{◌≡◌, ◌≢◌, ◌+◌, ℕ, List, [], ◌∷◌, ◌++◌}
use Rattle.std.specs.Prelude.{length, Option, Some, MatchOption}
use Rattle.std.specs.List.{AllByRecursion}
use Rattle.std.specs.Io.KnownBytes.{Consumes, IsAtEnd, Keeps}
use Rattle.sbl_io.specs.LinesOf.{max_line}
use Rattle.sbl_io.specs.declared.lines.LineEnd.{LineEnd}
use Rattle.sbl_io.specs.declared.lines.LineEnd.TheVariants.{Feed, Input, Beyond}
use Rattle.sbl_io.specs.HeldInput.{AreAsked, Took}
use Rattle.sbl_io.specs.Devices.{Tally}
use Rattle.sbl_io.specs.declared.lines.Lines.{Lines}

-- the line was taken; the last argument says how it ended
abbrev pub TakesLine : Option (List ℕ) → Option (List ℕ) → List ℕ → LineEnd → Type 0
TakesLine old new line Feed = Consumes old new (line ++ 10 ∷ [])
TakesLine old new line Input = Consumes old new line × IsAtEnd new
TakesLine old new line Beyond = (length line ≡ max_line + 1) × (b : ℕ) × (b ≢ 10) × Consumes old new (line ++ b ∷ [])

-- the next byte was taken, or the input was and is at its end
abbrev pub TakesByte : Option (List ℕ) → Option (List ℕ) → Option ℕ → Type 0
TakesByte old new byte = MatchOption byte (IsAtEnd new × Keeps old new) (λ b. Consumes old new (b ∷ []))

-- no byte is a line feed
abbrev pub NoFeed : List ℕ → Type 0
NoFeed bytes = AllByRecursion (λ b. b ≢ 10) bytes

-- these are the lines of a prefix of the bytes, and the rest follows
abbrev pub StandFirst : List ℕ → List (List ℕ) → List ℕ → Type 0
StandFirst bytes lines rest = Took (Some bytes) (Some rest) lines

-- if no read before was late and the last one was not interrupted, no read up to now is late
abbrev pub AsksInTime : {R : Type 0} → (R → Tally) → Lines R → Lines R → Type 0
AsksInTime tally old new = AreAsked tally old → (tally old.reader).interruptions ≡ 0 → AreAsked tally new
