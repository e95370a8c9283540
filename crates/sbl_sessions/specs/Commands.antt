-- The commands of requests.
use Rattle.std.specs.Prelude.{ℕ, List, [], ◌∷◌, ◌++◌, codes, decimal, if◌then◌else◌, length, nat_lt, Option, Some, None, Result, Ok, Err}
use Rattle.std.specs.List.{find}
use Rattle.std.specs.Option.{option_and_then, option_map_or, unwrap_or}
use Rattle.std.specs.Str.{bytes_eq, chars, is_utf8}
use Rattle.sbl_bench.specs.Contents.{Contents}
use Rattle.sbl_bench.specs.Edits as edits
use Rattle.sbl_reports.specs.Listings.{class_text, classes_text, stems_text, trace_text}
use Rattle.sbl_print.specs.Canonical.{canonical}
use Rattle.sbl_ast.specs.NamedParts.{Part'}
use Rattle.sbl_text.specs.declared.fault.ScriptFault.{ScriptFault}
use Rattle.sbl_text.specs.declared.fault.ScriptFault.TheVariants as fault
use Rattle.sbl_reports.specs.Block.{made_text, max_script}
use Rattle.sbl_sessions.specs.Numbers.{number_in}
use Rattle.sbl_sessions.specs.Requests.{Request, block_word}
use Rattle.sbl_sessions.specs.Words.{argument, command_word}

-- an edit; a report of the bench, or that the word which it is about is absent; a fixed reply; or an edit whose block is not a text
pub data Command : Type 0 where
  Makes : edits.Edit → Command
  Reports : (Contents → Option (List ℕ)) → Command
  Says : List ℕ → Command
  HasNoText : ScriptFault → Command

abbrev pub Bad : Command
Bad = Says (codes "no 52 BadCommand" ++ 10 ∷ [])

-- ---- a line alone

-- the commands that have an argument; a limit that is not written in decimal digits is read as 0, which is refused
abbrev pub with_argument : List (List ℕ × (List ℕ → Command))
with_argument =
    (codes "add", λ a. Makes (edits.Add (chars a))) ∷ (codes "remove", λ a. Makes (edits.Remove (chars a))) ∷
    (codes "class", λ a. Reports (λ s. class_text s (chars a))) ∷ (codes "trace", λ a. Reports (λ s. trace_text s (chars a))) ∷
    (codes "limit", λ a. Makes (edits.Limit (unwrap_or (number_in a) 0))) ∷ []

-- the reports of the whole bench; each of these words is a line by itself
abbrev pub of_bench : List (List ℕ × (Contents → List ℕ))
of_bench =
    (codes "stems", stems_text) ∷ (codes "classes", classes_text) ∷
    (codes "script", λ s. canonical s.setting.script.items) ∷ (codes "runs", λ s. decimal s.count ++ 10 ∷ []) ∷ []

-- the command of a line that is UTF-8
abbrev pub text_command : List ℕ → Command
text_command line =
    option_map_or (λ c. c.1 (argument line))
    (find (λ c. bytes_eq (command_word line) c.0) with_argument)
    (option_map_or (λ c. Reports (λ s. Some (c.1 s))) (find (λ c. bytes_eq line c.0) of_bench) Bad)

-- an empty line has no reply, and a line that is not UTF-8 is bad
unfoldable pub line_command : List ℕ → Command
line_command [] = Says []
line_command (b ∷ line) = if is_utf8 (b ∷ line) then text_command (b ∷ line) else Bad

-- ---- a line and its block

-- the text of a block, or why it has none
abbrev pub text_of_block : List (List ℕ) → Result (List ℕ) ScriptFault
text_of_block lines =
    if nat_lt max_script (length (made_text lines)) then Err fault.ScriptTooLong
    else (if is_utf8 (made_text lines) then Ok (made_text lines) else Err fault.NotUtf8)

-- what a line replaces; a line that is not UTF-8 is bad
abbrev pub target_of : List ℕ → Option Part'
target_of line = if is_utf8 line then option_and_then (λ target. target (argument line)) (block_word (command_word line)) else None

-- a bad line comes before a fault of its block
abbrev pub block_command : List ℕ → List (List ℕ) → Command
block_command line lines =
    option_map_or (λ what. elim (text_of_block lines) [ Ok text ↦ Makes (edits.Replace what text) | Err f ↦ HasNoText f ]) (target_of line) Bad

-- ---- both

abbrev pub command_of : Request → Command
command_of r = option_map_or (block_command r.line) r.block (line_command r.line)
