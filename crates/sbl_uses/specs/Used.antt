-- What the run of a word uses.
use Rattle.std.specs.Prelude.{ℕ, suc, Bool, ◌&&◌, List, [], ◌∷◌, ◌++◌, length, Some, slice_index_or}
use Rattle.std.specs.List.{filter, list_any}
use Rattle.std.specs.Str.{bytes_eq}
use Rattle.sbl_rows.specs.Rows.{Row, rows_of}
use Rattle.sbl_rows.specs.Setting.{Setting}
use Rattle.sbl_machine.specs.BuiltFrom.{meets}
use Rattle.sbl_semantics.specs.TouchedItems.{names_of, same_item}
use Rattle.sbl_ast.specs.NamedParts.{Part', Among}
use Rattle.sbl_semantics.specs.Outcome.{events_of}
use Rattle.sbl_semantics.specs.Events.{Event', Finds}
use Rattle.sbl_uses.specs.Moments.{Moment, after, at_start, routine_of, string_taken}

-- ---- the strings that a run takes

-- an among, and a string that a search of it takes
abbrev pub Take : Type 0
Take = Part' × List ℕ

abbrev pub same_take : Take → Take → Bool
same_take t u = same_item t.0 u.0 && bytes_eq t.1 u.1

-- what the event at a moment takes, given the names of routines
abbrev pub takes_at : List (List ℕ) → Moment → Event' → List Take
takes_at names m (Finds k (Some n)) = (Among (slice_index_or names (routine_of m) []) (suc k), string_taken n m) ∷ []
takes_at names m e = []

-- what events take, in order
abbrev pub takes_from : List (List ℕ) → Moment → List Event' → List Take
takes_from names m [] = []
takes_from names m (e ∷ events) = takes_at names m e ++ takes_from names (after e m) events

-- what the run of a word takes, up to its end or to where it is refused
abbrev pub takes_of : Setting → List ℕ → List Take
takes_of s word = takes_from (names_of s.script).routines (at_start word) (events_of s.script word s.limit)

-- ---- what a run uses

-- what a run can use: a routine, an among or a grouping; a string of an among
pub data Usable : Type 0 where
  Whole : Part' → Usable
  Entry : Take → Usable

-- Whether the run of a word uses it, up to its end or to where it is refused: it touches the item or, if that is a grouping, one that
-- is built from it; it takes the string.
abbrev pub uses : Setting → List ℕ → Usable → Bool
uses s word (Whole x) = meets x s.script word s.limit
uses s word (Entry t) = list_any (same_take t) (takes_of s word)

-- whether the run of some word uses it
abbrev pub is_used : Setting → List (List ℕ) → Usable → Bool
is_used s words u = list_any (λ w. uses s w u) words

-- the number of words whose run uses it
abbrev pub number_using : Setting → List (List ℕ) → Usable → ℕ
number_using s words u = length (filter (λ w. uses s w u) words)

-- the rows of the words whose run uses it
abbrev pub rows_using : Setting → List (List ℕ) → Usable → List Row
rows_using s words u = filter (λ (row : Row). uses s row.word u) (rows_of s words)
