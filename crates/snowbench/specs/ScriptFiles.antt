-- What is read of files: a script, and words, one a line. A byte order mark at the start of the words belongs to the first word.
use Rattle.std.specs.Prelude.{◌≡◌, ◌⊎◌, ◌+◌, ◌&&◌, ℕ, Bool, List, [], ◌∷◌, Option, Some, None, Result, Ok, Err, length, map, nat_lt}
use Rattle.std.specs.Prelude.{if◌then◌else◌, option_map}
use Rattle.std.specs.Option.{option_or}
use Rattle.std.specs.Str.{chars, is_utf8}
use Rattle.sbl_ast.specs.Source.{Source}
use Rattle.sbl_batch.specs.Compare.{HasScriptFault}
use Rattle.sbl_bench.specs.Contents.{Contents, opening_contents, opening_fault}
use Rattle.sbl_bench.specs.KeptRuns.{KeptRuns, contents_of}
use Rattle.sbl_bench.specs.declared.fault.EditFault.{EditFault}
use Rattle.sbl_bench.specs.declared.fault.EditFault.TheVariants as edit
use Rattle.sbl_input.specs.FileWords.{line_fault}
use Rattle.sbl_input.specs.declared.faults.LoadFault.{LoadFault}
use Rattle.sbl_input.specs.declared.faults.LoadFault.TheVariants.{Input, Open}
use Rattle.sbl_input.specs.declared.faults.LoadFault.TheVariants as load
use Rattle.sbl_io.specs.LinesOf.{lines_of, max_line}
use Rattle.sbl_io.specs.declared.faults.ServeFault.{ServeFault}
use Rattle.sbl_io.specs.declared.faults.ServeFault.TheVariants as fault
use Rattle.sbl_reports.specs.Block.{made_text}
use Rattle.sbl_script.specs.ParsedScript.{source_of}
use Rattle.sbl_script.specs.Reading.{IsScriptOf}
use Rattle.sbl_script.specs.declared.script.Script.{Script}
use Rattle.sbl_semantics.specs.Limit.{max_word_length}
use Rattle.sbl_text.specs.declared.fault.ScriptFault.{ScriptFault}
use Rattle.snowbench.specs.declared.script_files.FilesInput.{FilesInput}
use Rattle.snowbench.specs.declared.script_files.FilesFault.{FilesFault}
use Rattle.snowbench.specs.declared.script_files.FilesFault.TheVariants as files
use Rattle.snowbench.specs.declared.script_files.FileFault.{FileFault}

-- ---- lines

-- the number of the first line that passes a test, if so many lines are before these
abbrev pub first_after : (List ℕ → Bool) → ℕ → List (List ℕ) → Option ℕ
first_after test n [] = None
first_after test n (line ∷ lines) = if test line then Some (n + 1) else first_after test (n + 1) lines

-- the line has too many bytes
abbrev pub is_overlong : List ℕ → Bool
is_overlong line = nat_lt max_line (length line)

abbrev pub overlong_line : List ℕ → Option ℕ
overlong_line bytes = first_after is_overlong 0 (lines_of bytes)

-- the line is UTF-8, with too many characters for a word
abbrev pub is_long : List ℕ → Bool
is_long line = is_utf8 line && nat_lt max_word_length (length (chars line))

abbrev pub long_line : List ℕ → Option ℕ
long_line bytes = first_after is_long 0 (lines_of bytes)

-- the fault of a reader or of memory at this line
abbrev pub placed_at : ℕ → ServeFault → FileFault
placed_at n f = record { line = Some n; fault = Input f }

-- an allocation failed
abbrev pub no_memory : FileFault
no_memory = record { line = None; fault = Input fault.OutOfMemory }

-- ---- the script

-- the text of a script in a file: each line, followed by a line feed
abbrev pub script_text : List ℕ → List ℕ
script_text bytes = made_text (lines_of bytes)

-- the bytes of a file are this script
abbrev pub IsFileScript : List ℕ → List ℕ → Source → Type 0
IsFileScript bytes external s = (overlong_line bytes ≡ None) × IsScriptOf (script_text bytes) external s

-- the bytes of a file are a script
abbrev pub HasFileScript : List ℕ → List ℕ → Type 0
HasFileScript bytes external = (s : Source) × IsFileScript bytes external s

-- Why they are none: a line is too long, or else the text has a fault; or an allocation failed.
abbrev pub LacksFileScript : List ℕ → List ℕ → FileFault → Type 0
LacksFileScript bytes external f =
    (f ≡ no_memory)
    ⊎ ((n : ℕ) × (overlong_line bytes ≡ Some n) × (f ≡ placed_at n fault.LineTooLong))
    ⊎ ((overlong_line bytes ≡ None) × (g : ScriptFault) × (f ≡ record { line = None; fault = load.Script g })
    × HasScriptFault (script_text bytes) external g)

abbrev pub ParsesFile : List ℕ → List ℕ → Result Script FileFault → Type 0
ParsesFile bytes external (Ok script) = IsFileScript bytes external (source_of script)
ParsesFile bytes external (Err f) = LacksFileScript bytes external f

-- ---- the words

-- the word of each line
abbrev pub line_words : List ℕ → List (List ℕ)
line_words bytes = map chars (lines_of bytes)

-- the first line that is too long or not UTF-8, if so many lines are before these
abbrev pub text_fault_after : ℕ → List (List ℕ) → Option FileFault
text_fault_after n [] = None
text_fault_after n (line ∷ lines) = option_or (option_map (placed_at (n + 1)) (line_fault line)) (text_fault_after (n + 1) lines)

abbrev pub text_fault : List ℕ → Option FileFault
text_fault bytes = text_fault_after 0 (lines_of bytes)

-- a line is no text, or an allocation failed
abbrev pub LacksText : List ℕ → FileFault → Type 0
LacksText bytes f = (f ≡ no_memory) ⊎ (text_fault bytes ≡ Some f)

-- a fault of the vocabulary; a word that is too long has its line
abbrev pub opening_place : List ℕ → EditFault → FileFault
opening_place bytes edit.WordTooLong = record { line = long_line bytes; fault = Open edit.WordTooLong }
opening_place bytes f = record { line = None; fault = Open f }

-- why no vocabulary has the words: the fault of the first line that is no text, or else that of the first word
abbrev pub words_fault : List ℕ → Option FileFault
words_fault bytes = option_or (text_fault bytes) (option_map (opening_place bytes) (opening_fault [] (line_words bytes)))

-- the words have this fault, or an allocation failed
abbrev pub LacksWords : List ℕ → FileFault → Type 0
LacksWords bytes f = (f ≡ no_memory) ⊎ (f ≡ record { line = None; fault = Open edit.OutOfMemory }) ⊎ (words_fault bytes ≡ Some f)

-- ---- the bench

-- the bench of the script over the words, under 100,000 steps
abbrev pub IsFilesBench : FilesInput → Contents → Type 0
IsFilesBench input bench =
    (s : Source) × IsFileScript input.script.now input.external.now s × (words_fault input.words.now ≡ None)
    × (bench ≡ opening_contents s (line_words input.words.now))

-- Why there is no bench: the fault of the script, or else that of the words.
abbrev pub LacksBench : FilesInput → FilesFault → Type 0
LacksBench input (files.Script f) = LacksFileScript input.script.now input.external.now f
LacksBench input (files.Words f) = HasFileScript input.script.now input.external.now × LacksWords input.words.now f
LacksBench input f = ⊥

abbrev pub OpensFiles : FilesInput → Result KeptRuns FilesFault → Type 0
OpensFiles input (Ok bench) = IsFilesBench input (contents_of bench)
OpensFiles input (Err f) = LacksBench input f

-- the fault without what has it
abbrev pub cause_of : FilesFault → LoadFault
cause_of (files.Script f) = f.fault
cause_of (files.Words f) = f.fault
cause_of (files.Stems f) = f.fault
cause_of (files.Run f) = Input f
