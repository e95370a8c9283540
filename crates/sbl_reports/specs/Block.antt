-- A block of lines, up to a line `.`.
use Rattle.std.specs.Prelude.{◌≡◌, ◌≢◌, ◌<◌, ◌≤◌, ◌^◌, ◌-◌, min, ℕ, List, [], ◌∷◌, ◌++◌, Option, Some, None, Result, Ok, Err, length}
use Rattle.std.specs.List.{AllByRecursion, flat_map}
use Rattle.std.specs.Io.KnownBytes.{IsAtEnd}
pub use Rattle.sbl_script.specs.Reading.{max_script}
use Rattle.sbl_io.specs.HeldInput.{AllFit, BeginsLong, BreaksOff, Took}
use Rattle.sbl_reports.specs.declared.block_text.BlockFault.{BlockFault}
use Rattle.sbl_reports.specs.declared.block_text.BlockFault.TheVariants.{TooLong, OutOfMemory}
use Rattle.sbl_reports.specs.declared.block_text.BlockText.{BlockText}
use Rattle.sbl_reports.specs.declared.block_text.KeptText.{KeptText}
use Rattle.sbl_reports.specs.declared.block_text.KeptText.TheVariants as kept
use Rattle.sbl_io.specs.declared.faults.ServeFault.{ServeFault}
use Rattle.sbl_io.specs.declared.faults.ServeFault.TheVariants as fault

abbrev pub point : List ℕ
point = 46 ∷ []

-- no line is `.`
abbrev pub NoPoint : List (List ℕ) → Type 0
NoPoint lines = AllByRecursion (λ line. line ≢ point) lines

-- the lines of a block: none is `.` or too long
abbrev pub BlockLines : List (List ℕ) → Type 0
BlockLines lines = NoPoint lines × AllFit lines

-- the text of a block: each line, followed by a line feed
abbrev pub made_text : List (List ℕ) → List ℕ
made_text lines = flat_map (λ line. line ++ 10 ∷ []) lines

-- a block was taken from the input: its lines, and a line `.`
abbrev pub TookBlock : Option (List ℕ) → Option (List ℕ) → List (List ℕ) → Type 0
TookBlock old new lines = BlockLines lines × Took old new (lines ++ point ∷ [])

-- Lines were taken, and no line follows them: the input ended, the next line is too long, or the reader stopped in it.
abbrev pub Breaks : (List (List ℕ) → Type 0) → Option (List ℕ) → Option (List ℕ) → ServeFault → Type 0
Breaks Good old new fault.Cut = (lines : List (List ℕ)) × Good lines × Took old new lines × IsAtEnd new
Breaks Good old new fault.LineTooLong = (lines : List (List ℕ)) × (next : Option (List ℕ)) × Good lines × Took old next lines × BeginsLong next
Breaks Good old new fault.Read =
    (lines : List (List ℕ)) × (next : Option (List ℕ)) × (part : List ℕ) × Good lines × Took old next lines × BreaksOff next new part
Breaks Good old new f = ⊥

-- These bytes are the text of the lines. Or there are none: the text is too long, or it is not and an allocation failed.
abbrev pub HasText : Option BlockFault → List ℕ → List (List ℕ) → Type 0
HasText None bytes lines = (bytes ≡ made_text lines) × (length (made_text lines) ≤ max_script)
HasText (Some TooLong) bytes lines = max_script < length (made_text lines)
HasText (Some OutOfMemory) bytes lines = length (made_text lines) ≤ max_script

-- what is kept of the text of the lines: its bytes; or, after a failed allocation, how many they are; or that it is too long
abbrev pub KeepsText : KeptText → List (List ℕ) → Type 0
KeepsText (kept.Whole bytes) lines = HasText None bytes.items lines
KeepsText (kept.Counted n) lines = (n ≡ length (made_text lines)) × HasText (Some OutOfMemory) [] lines
KeepsText kept.TooLong lines = HasText (Some TooLong) [] lines

-- the greatest number of lines that is counted
abbrev pub max_lines : ℕ
max_lines = 2 ^ 64 - 1

abbrev pub HoldsText : BlockText → List (List ℕ) → Type 0
HoldsText text lines = KeepsText text.kept lines × (text.lines ≡ min (length lines) max_lines)

-- The result of reading a block: its text, or why a block that was read to its end has none; or why there is no whole block.
abbrev pub ReadsBlock : Option (List ℕ) → Option (List ℕ) → Result BlockText ServeFault → Type 0
ReadsBlock old new (Ok text) = (lines : List (List ℕ)) × TookBlock old new lines × HoldsText text lines
ReadsBlock old new (Err f) = Breaks BlockLines old new f
