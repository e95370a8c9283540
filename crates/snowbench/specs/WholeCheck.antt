-- What a check of an input writes: a script block, a block of words, and the expected stems up to the end of input.
use Rattle.std.specs.Prelude.{◌≡◌, ◌⊎◌, ◌++◌, ℕ, List, [], ◌∷◌, Option, Some, Result, Ok, Err}
use Rattle.std.specs.List.{flat_map}
use Rattle.std.specs.Io.KnownBytes.{Appends, IsAtEnd}
use Rattle.std.specs.declared.vec.Vec.{Vec}
use Rattle.std.specs.declared.alloc.Global.{Global}
use Rattle.sbl_ast.specs.Source.{Source}
use Rattle.sbl_batch.specs.Differences.{IsChecked}
use Rattle.sbl_reports.specs.Block.{BlockLines, Breaks, TookBlock}
use Rattle.sbl_input.specs.Loading.{ReadsScript, TookFault, TookSource}
use Rattle.sbl_input.specs.declared.faults.LoadFault.{LoadFault}
use Rattle.sbl_input.specs.declared.faults.LoadFault.TheVariants.{Script}
use Rattle.sbl_io.specs.HeldInput.{AllFit, Took}
use Rattle.sbl_io.specs.LinesOf.{lines_of}
use Rattle.sbl_io.specs.declared.faults.ServeFault.{ServeFault}
use Rattle.sbl_io.specs.declared.faults.ServeFault.TheVariants as fault
use Rattle.snowbench.specs.WholeSession.{as_load}

-- ---- lists

-- The text of a list: each line, a carriage return and a line feed. The law `lists_are_read` says that it has these lines.
abbrev pub list_text : List (List ℕ) → List ℕ
list_text lines = flat_map (λ line. line ++ 13 ∷ 10 ∷ []) lines

-- The first lines of an input are the lines of their text.
abbrev pub ListsAreRead : Type 0
ListsAreRead =
    (input rest : List ℕ) (lines more : List (List ℕ)) → Took (Some input) (Some rest) (lines ++ more) → lines_of (list_text lines) ≡ lines

-- the lines up to the end of input were taken
abbrev pub TookRest : Option (List ℕ) → Option (List ℕ) → List (List ℕ) → Type 0
TookRest old new lines = AllFit lines × Took old new lines × IsAtEnd new

-- Lines of a list were taken, and then the list broke off, or an allocation failed.
abbrev pub BreaksList : (List (List ℕ) → Type 0) → Option (List ℕ) → Option (List ℕ) → ServeFault → Type 0
BreaksList Good old new fault.OutOfMemory = (lines : List (List ℕ)) × Good lines × Took old new lines
BreaksList Good old new f = Breaks Good old new f

-- the words are a block
abbrev pub ReadsWords : Option (List ℕ) → Option (List ℕ) → Result (Vec ℕ Global) ServeFault → Type 0
ReadsWords old new (Ok text) = (lines : List (List ℕ)) × TookBlock old new lines × (text.items ≡ list_text lines)
ReadsWords old new (Err f) = BreaksList BlockLines old new f

-- the expected stems are the rest of the input, which no block has to end
abbrev pub ReadsExpected : Option (List ℕ) → Option (List ℕ) → Result (Vec ℕ Global) ServeFault → Type 0
ReadsExpected old new (Ok text) = (lines : List (List ℕ)) × TookRest old new lines × (text.items ≡ list_text lines)
ReadsExpected old new (Err fault.Cut) = ⊥
ReadsExpected old new (Err f) = BreaksList AllFit old new f

-- ---- checks

-- There is no script: the text of its block has this fault, or the block has no text.
abbrev pub LacksScript : Option (List ℕ) → Option (List ℕ) → List ℕ → LoadFault → Type 0
LacksScript old new external (Script f) = TookFault old new external f
LacksScript old new external f = ReadsScript old new (Err f)

-- One of the lists has no text. The expected stems are read after the words.
abbrev pub LacksLists : Option (List ℕ) → Option (List ℕ) → ServeFault → Type 0
LacksLists old new f =
    ReadsWords old new (Err f)
    ⊎ ((between : Option (List ℕ)) × (words : List (List ℕ)) × TookBlock old between words × ReadsExpected between new (Err f))

-- Both lists are read, and the script is checked on them. Otherwise nothing is written.
abbrev pub ChecksLists : Source → Option (List ℕ) → Option (List ℕ) → Option (List ℕ) → Option (List ℕ) → Result ℕ ServeFault → Type 0
ChecksLists script old new held new_held result =
    ((f : ServeFault) × (result ≡ Err f) × LacksLists old new f × Appends held new_held [])
    ⊎ ((between : Option (List ℕ)) × (words : List (List ℕ)) × (expected : List (List ℕ))
    × TookBlock old between words × TookRest between new expected
    × IsChecked script (list_text words) (list_text expected) held new_held result)

-- There is no script: the result is its fault, and nothing is written. Or the lists after it are checked.
abbrev pub IsWholeCheck : Option (List ℕ) → Option (List ℕ) → List ℕ → Option (List ℕ) → Option (List ℕ) → Result ℕ LoadFault → Type 0
IsWholeCheck input left external held new_held result =
    ((f : LoadFault) × (result ≡ Err f) × LacksScript input left external f × Appends held new_held [])
    ⊎ ((between : Option (List ℕ)) × (script : Source) × (checked : Result ℕ ServeFault) × (result ≡ as_load checked)
    × TookSource input between external script × ChecksLists script between left held new_held checked)
