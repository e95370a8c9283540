-- The words that have a stem in both lists: where they move from and to.
use Rattle.std.specs.Prelude.{ℕ, List, map, Option, Some, None}
use Rattle.std.specs.List.{filter_map}
use Rattle.sbl_rows.specs.Classes.{Class, Pair, pair_classes}
use Rattle.sbl_semantics.specs.Outcome.{Outcome', Stem, Refused}
use Rattle.sbl_rows.specs.Rows.{Row}

-- the stem of a word before, and its stem now
abbrev pub move_of : Option Outcome' → Outcome' → Option Pair
move_of (Some (Stem old)) (Stem new) = Some (old, new)
move_of (Some (Stem old)) (Refused n) = None
move_of (Some (Refused m)) new = None
move_of None new = None

-- the moves of the words of these rows; `before` gives a word's outcome before
abbrev pub moves_of : (List ℕ → Option Outcome') → List Row → List Pair
moves_of before rows = filter_map (λ r. move_of (before r.word) r.outcome) rows

-- the moves from now to before
abbrev pub moves_back : List Pair → List Pair
moves_back moves = map (λ m. (m.1, m.0)) moves

-- the classes before, each with the stems that its words have now
abbrev pub old_classes : List Pair → List Class
old_classes moves = pair_classes moves

-- the classes now, each with the stems that its words had before
abbrev pub new_classes : List Pair → List Class
new_classes moves = pair_classes (moves_back moves)
