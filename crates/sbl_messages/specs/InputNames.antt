-- Names of files that are standard input.
use Rattle.std.specs.Prelude.{ℕ, Bool, List, ◌&&◌, ◌||◌, codes}
use Rattle.std.specs.Str.{bytes_eq}

-- the name is that of standard input
abbrev pub is_input : List ℕ → Bool
is_input name = bytes_eq name (codes "-")

-- at least two of these hold
abbrev pub two_of : Bool → Bool → Bool → Bool
two_of a b c = ((a && b) || (a && c)) || (b && c)
