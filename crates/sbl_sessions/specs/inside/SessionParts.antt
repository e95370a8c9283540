-- Names for parts of the definitions, which only proofs and the functions inside use.
use Rattle.std.specs.Prelude.{◌≡◌, ◌≢◌, ◌⊎◌, ◌==◌, ◌-◌, ◌^◌, ℕ, Bool, List, [], ◌∷◌, ◌++◌, codes, decimal, if◌then◌else◌, Option, Some}
use Rattle.std.specs.Option.{IfSome, is_some, option_map_or, unwrap_or}
use Rattle.std.specs.Str.{bytes_eq, chars}
use Rattle.sbl_bench.specs.Edits as edits
use Rattle.sbl_reports.specs.Block.{NoPoint, point}
use Rattle.sbl_io.specs.declared.faults.ServeFault.{ServeFault}
use Rattle.sbl_io.specs.declared.faults.ServeFault.TheVariants as fault
use Rattle.sbl_reports.specs.Listings.{class_text, classes_text, stems_text, trace_text}
use Rattle.sbl_print.specs.Canonical.{canonical}
use Rattle.sbl_sessions.specs.Commands.{Bad, Command, Makes, Reports, Says}
use Rattle.sbl_sessions.specs.Numbers.{number_in}
use Rattle.sbl_sessions.specs.Requests.{IsOpen, Request, asks_block}
use Rattle.sbl_sessions.specs.Words.{argument, command_word}

-- ---- words and numbers

abbrev pub is_space : ℕ → Bool
is_space b = b == 32

abbrev pub max_number : ℕ
max_number = 2 ^ 64 - 1

-- ---- commands

abbrev pub Nothing : Command
Nothing = Says []

abbrev pub Stems : Command
Stems = Reports (λ s. Some (stems_text s))

abbrev pub Classes : Command
Classes = Reports (λ s. Some (classes_text s))

abbrev pub Script : Command
Script = Reports (λ s. Some (canonical s.setting.script.items))

abbrev pub Runs : Command
Runs = Reports (λ s. Some (decimal s.count ++ 10 ∷ []))

abbrev pub Class : List ℕ → Command
Class word = Reports (λ s. class_text s word)

abbrev pub Trace : List ℕ → Command
Trace word = Reports (λ s. trace_text s word)

-- the command of a line that is UTF-8, by one test after another
abbrev pub tested_command : List ℕ → Command
tested_command line =
    if bytes_eq (command_word line) (codes "add") then Makes (edits.Add (chars (argument line)))
    else (if bytes_eq (command_word line) (codes "remove") then Makes (edits.Remove (chars (argument line)))
    else (if bytes_eq (command_word line) (codes "class") then Class (chars (argument line))
    else (if bytes_eq (command_word line) (codes "trace") then Trace (chars (argument line))
    else (if bytes_eq (command_word line) (codes "limit") then Makes (edits.Limit (unwrap_or (number_in (argument line)) 0))
    else (if bytes_eq line (codes "stems") then Stems
    else (if bytes_eq line (codes "classes") then Classes
    else (if bytes_eq line (codes "script") then Script
    else (if bytes_eq line (codes "runs") then Runs else Bad))))))))

-- ---- requests

abbrev pub IsRequest : Request → Type 0
IsRequest r = (asks_block r.line ≡ is_some r.block) × IfSome r.block NoPoint

-- the lines of a block, and its line `.`
abbrev pub block_lines : Option (List (List ℕ)) → List (List ℕ)
block_lines block = option_map_or (λ lines. lines ++ point ∷ []) block []

abbrev pub lines_in : Request → List (List ℕ)
lines_in r = r.line ∷ block_lines r.block

-- the lines of a request that is not whole: none yet, unless the input is cut off, or these
abbrev pub IsBegun : ServeFault → List (List ℕ) → Type 0
IsBegun f lines = ((lines ≡ []) × (f ≢ fault.Cut)) ⊎ IsOpen lines
