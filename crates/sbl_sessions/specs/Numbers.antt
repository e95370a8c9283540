-- A number in a line.
use Rattle.std.specs.Prelude.{ℕ, List, [], Option, Some, None, if◌then◌else◌, min, ◌^◌, ◌-◌}
use Rattle.std.specs.List.{list_all}
use Rattle.std.specs.Char.{is_ascii_digit}
use Rattle.sbl_text.specs.Tokens.{number_of}

-- The number that one or more decimal digits write. Every number above the largest of 64 bits is read as that one: no script has
-- this many amongs, so as the number of an among it names none; as a limit it is too high.
abbrev pub number_in : List ℕ → Option ℕ
number_in [] = None
number_in text = if list_all is_ascii_digit text then Some (min (number_of text) (2 ^ 64 - 1)) else None
