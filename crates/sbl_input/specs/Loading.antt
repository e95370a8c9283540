-- The result of loading an input: a script block, up to a line `.`, and then words, one per line, up to a line `.` or the end.
use Rattle.std.specs.Prelude.{◌≡◌, ◌≢◌, ◌⊎◌, ◌<◌, ◌≤◌, ℕ, true, false, List, [], ◌∷◌, ◌++◌, Option, Some, None, Result, Ok, Err, length, map}
use Rattle.std.specs.List.{AllByRecursion}
use Rattle.std.specs.Str.{chars, is_utf8}
use Rattle.std.specs.Io.KnownBytes.{IsAtEnd}
use Rattle.std.specs.declared.vec.Vec.{Vec}
use Rattle.std.specs.declared.alloc.Global.{Global}
use Rattle.sbl_bench.specs.Contents.{Contents, opening_contents, opening_fault}
use Rattle.sbl_bench.specs.declared.fault.EditFault.TheVariants as edit
use Rattle.sbl_ast.specs.Source.{Source}
use Rattle.sbl_script.specs.Reading.{IsFaultOf, IsScriptOf}
use Rattle.sbl_text.specs.declared.fault.ScriptFault.{ScriptFault}
use Rattle.sbl_text.specs.declared.fault.ScriptFault.TheVariants as script
use Rattle.sbl_reports.specs.Block.{BlockLines, Breaks, TookBlock, made_text, max_script, point}
use Rattle.sbl_io.specs.Devices.{Tally}
use Rattle.sbl_io.specs.HeldInput.{HasCause, Took}
use Rattle.sbl_io.specs.LinesOf.{max_line}
use Rattle.sbl_io.specs.declared.lines.Lines.{Lines}
use Rattle.sbl_io.specs.declared.faults.LineFault.TheVariants as line
use Rattle.sbl_input.specs.declared.faults.LoadFault.{LoadFault}
use Rattle.sbl_input.specs.declared.faults.LoadFault.TheVariants.{Input, Script, Open}
use Rattle.sbl_io.specs.declared.faults.ServeFault.TheVariants as fault

-- ---- the words

-- the lines of words are lines of a block, and UTF-8 too
abbrev pub WordLines : List (List ℕ) → Type 0
WordLines lines = BlockLines lines × AllByRecursion (λ line. is_utf8 line ≡ true) lines

-- Words were taken from the input: lines of words, and then a line `.` or the end of input.
abbrev pub TookWords : Option (List ℕ) → Option (List ℕ) → List (List ℕ) → Type 0
TookWords old new words = WordLines words × (Took old new (words ++ point ∷ []) ⊎ (Took old new words × IsAtEnd new))

-- ---- reading

-- a block was taken, and this holds of its text
abbrev pub TookText : Option (List ℕ) → Option (List ℕ) → (List ℕ → Type 0) → Type 0
TookText old new P = (lines : List (List ℕ)) × TookBlock old new lines × P (made_text lines)

-- The text of the script block. Or a block that was read to its end is too long, or it is not and an allocation for it failed. Or the
-- block has no end.
abbrev pub ReadsScript : Option (List ℕ) → Option (List ℕ) → Result (Vec ℕ Global) LoadFault → Type 0
ReadsScript old new (Ok text) = TookText old new (λ made. (text.items ≡ made) × (length made ≤ max_script))
ReadsScript old new (Err (Script script.ScriptTooLong)) = TookText old new (λ made. max_script < length made)
ReadsScript old new (Err (Script f)) = ⊥
ReadsScript old new (Err (Open f)) = ⊥
ReadsScript old new (Err (Input fault.OutOfMemory)) = TookText old new (λ made. length made ≤ max_script)
ReadsScript old new (Err (Input f)) = Breaks BlockLines old new f

-- ---- loading

-- A script block was taken, and is read as this script with this external.
abbrev pub TookSource : Option (List ℕ) → Option (List ℕ) → List ℕ → Source → Type 0
TookSource old new external s = TookText old new (λ text. IsScriptOf text external s)

-- A script block was taken, and with this external its text has this fault; or the text is not too long and an allocation failed.
abbrev pub TookFault : Option (List ℕ) → Option (List ℕ) → List ℕ → ScriptFault → Type 0
TookFault old new external f = TookText old new (λ text. ((f ≡ script.OutOfMemory) × (length text ≤ max_script)) ⊎ IsFaultOf text external f)

-- An input is a script block that is read as this script with this external, followed by these words.
abbrev pub IsInput : Option (List ℕ) → Option (List ℕ) → List ℕ → Source → List (List ℕ) → Type 0
IsInput old new external s words = (between : Option (List ℕ)) × TookSource old between external s × TookWords between new words

-- An input is a script block that is read as a script with this external, followed by something else.
abbrev pub AfterSource : Option (List ℕ) → List ℕ → (Option (List ℕ) → Type 0) → Type 0
AfterSource old external P = (s : Source) × (between : Option (List ℕ)) × TookSource old between external s × P between

-- Why there is no bench, and what was taken from the input. The script block is read to its end before it is checked, the script is
-- checked before the words are read, and all words are read before they are checked. A fault of the words comes after a script
-- block that is read as a script: lines of words were taken, and one more that is not UTF-8; or an allocation failed after some
-- lines.
abbrev pub IsLoadFault : Option (List ℕ) → Option (List ℕ) → List ℕ → LoadFault → Type 0
IsLoadFault old new external (Script f) = TookFault old new external f
IsLoadFault old new external (Open edit.OutOfMemory) = (s : Source) × (words : List (List ℕ)) × IsInput old new external s words
IsLoadFault old new external (Open f) =
    (s : Source) × (words : List (List ℕ)) × IsInput old new external s words × (opening_fault [] (map chars words) ≡ Some f)
IsLoadFault old new external (Input fault.Cut) = Breaks BlockLines old new fault.Cut
IsLoadFault old new external (Input fault.NotText) =
    AfterSource old external (λ between. (done : List (List ℕ)) × (first : List ℕ) × WordLines done × (first ≢ point) × (length first ≤ max_line)
    × (is_utf8 first ≡ false) × Took between new (done ++ first ∷ []))
IsLoadFault old new external (Input fault.OutOfMemory) =
    TookText old new (λ text. length text ≤ max_script)
    ⊎ AfterSource old external (λ between. (lines : List (List ℕ)) × BlockLines lines × Took between new lines)
IsLoadFault old new external (Input f) = Breaks BlockLines old new f ⊎ AfterSource old external (λ between. Breaks WordLines between new f)

-- The result of loading: the bench of the script and the words, or why there is none.
abbrev pub IsLoaded : {B : Type 0} → Option (List ℕ) → Option (List ℕ) → List ℕ → (B → Contents) → Result B LoadFault → Type 0
IsLoaded old new external state (Ok bench) = (s : Source) × (words : List (List ℕ)) × IsInput old new external s words
    × (opening_fault [] (map chars words) ≡ None) × (state bench ≡ opening_contents s (map chars words))
IsLoaded old new external state (Err f) = IsLoadFault old new external f

-- a fault of reading is caused by the reader or a bound, or the lines returned it before
abbrev pub HasReason : {R : Type 0} → (R → Tally) → Lines R → Lines R → LoadFault → Type 0
HasReason tally lines new_lines f = f ≡ Input fault.Read → HasCause tally lines new_lines ⊎ (lines.fault ≡ Some line.Read)

-- ---- names for proofs

-- each line is UTF-8
abbrev pub AllText : List (List ℕ) → Type 0
AllText lines = AllByRecursion (λ line. is_utf8 line ≡ true) lines
