-- The stems of rows as lines of a text, and the stems in such a text.
use Rattle.std.specs.Prelude.{ℕ, ◌-◌, Bool, false, not, ◌==◌, ◌&&◌, List, [], ◌∷◌, ◌++◌, length, map, Option, Some, None}
use Rattle.std.specs.Prelude.{slice_index_or, if◌then◌else◌}
use Rattle.std.specs.List.{flat_map, list_all, list_any}
use Rattle.std.specs.Str.{chars, encode_utf8_all, is_utf8}
use Rattle.sbl_io.specs.LinesOf.{lines_of}
use Rattle.sbl_rows.specs.Rows.{Row}
use Rattle.sbl_semantics.specs.Outcome.{Outcome', Stem, Refused}

-- ---- writing

-- whether a text is one line: it has no line feed, and no carriage return at its end
abbrev pub is_line : List ℕ → Bool
is_line text = not (list_any (λ c. c == 10) text) && not (slice_index_or text (length text - 1) 0 == 13)

-- whether an outcome is a stem that is one line
abbrev pub has_line : Outcome' → Bool
has_line (Stem stem) = is_line stem
has_line (Refused f) = false

-- the line of a stem
abbrev pub stem_line : Outcome' → List ℕ
stem_line (Stem stem) = encode_utf8_all stem ++ 10 ∷ []
stem_line (Refused f) = []

abbrev pub have_lines : List Row → Bool
have_lines rows = list_all (λ r. has_line r.outcome) rows

-- the stems of rows, one a line, in their order; none if a run is refused or a stem is not one line
abbrev pub stem_lines : List Row → Option (List ℕ)
stem_lines rows = if have_lines rows then Some (flat_map (λ r. stem_line r.outcome) rows) else None

-- ---- reading

-- whether each line is UTF-8
abbrev pub are_text : List (List ℕ) → Bool
are_text lines = list_all is_utf8 lines

-- the stems in a text: one in each line
abbrev pub stems_in : List ℕ → List (List ℕ)
stems_in bytes = map chars (lines_of bytes)
