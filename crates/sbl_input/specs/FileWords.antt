-- The words of a file: one from each line. A byte order mark at the start of the file is left out.
use Rattle.std.specs.Prelude.{◌≡◌, ℕ, List, [], ◌∷◌, Option, Some, None, drop, length, map, nat_eq, nat_lt, option_map, if◌then◌else◌}
use Rattle.std.specs.List.{starts_with}
use Rattle.std.specs.Option.{option_or}
use Rattle.std.specs.Str.{chars, is_utf8}
use Rattle.sbl_bench.specs.Contents.{opening_fault}
use Rattle.sbl_input.specs.declared.faults.LoadFault.{LoadFault}
use Rattle.sbl_input.specs.declared.faults.LoadFault.TheVariants.{Input, Open}
use Rattle.sbl_io.specs.LinesOf.{lines_of, max_line}
use Rattle.sbl_io.specs.declared.faults.ServeFault.{ServeFault}
use Rattle.sbl_io.specs.declared.faults.ServeFault.TheVariants as fault

-- U+FEFF, in UTF-8
abbrev pub byte_order_mark : List ℕ
byte_order_mark = 239 ∷ 187 ∷ 191 ∷ []

abbrev pub without_mark : List ℕ → List ℕ
without_mark bytes = if starts_with nat_eq bytes byte_order_mark then drop 3 bytes else bytes

abbrev pub file_lines : List ℕ → List (List ℕ)
file_lines bytes = lines_of (without_mark bytes)

abbrev pub file_words : List ℕ → List (List ℕ)
file_words bytes = map chars (file_lines bytes)

-- why a line can't be taken: it has more bytes than it may, or it is not UTF-8
abbrev pub line_fault : List ℕ → Option ServeFault
line_fault line =
    if nat_lt max_line (length line) then Some fault.LineTooLong
    else (if is_utf8 line then None else Some fault.NotText)

-- the fault of the first line that can't be taken
abbrev pub first_line_fault : List (List ℕ) → Option ServeFault
first_line_fault [] = None
first_line_fault (line ∷ lines) = option_or (line_fault line) (first_line_fault lines)

-- it is the fault of the first line of a file that can't be taken
abbrev pub IsLineFault : List ℕ → LoadFault → Type 0
IsLineFault bytes f = option_map Input (first_line_fault (file_lines bytes)) ≡ Some f

-- why a vocabulary can't have the words of a file: the fault of its first line that can't be taken, or else that of the first word
abbrev pub file_fault : List ℕ → Option LoadFault
file_fault bytes =
    option_or (option_map Input (first_line_fault (file_lines bytes))) (option_map Open (opening_fault [] (file_words bytes)))
