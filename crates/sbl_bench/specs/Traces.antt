-- The items that the run of a word touches.
use Rattle.std.specs.Prelude.{ℕ, List, Option, Some, None, if◌then◌else◌}
use Rattle.std.specs.List.{filter}
use Rattle.sbl_machine.specs.BuiltFrom.{meets}
use Rattle.sbl_rows.specs.Rows.{Row, rows_of}
use Rattle.sbl_rows.specs.Setting.{Setting}
use Rattle.sbl_bench.specs.Vocabulary.{is_word}
use Rattle.sbl_semantics.specs.TouchedItems.{touched_items}
use Rattle.sbl_ast.specs.NamedParts.{Part'}

-- the items that a fresh run of a word touches, in order; none if the word is not in the vocabulary
abbrev pub trace_of : Setting → List (List ℕ) → List ℕ → Option (List Part')
trace_of s words word = if is_word word words then Some (touched_items s.script word s.limit) else None

-- the rows of the words whose fresh runs touch the item or, if that is a grouping, one that is built from it
abbrev pub rows_meeting : Setting → List (List ℕ) → Part' → List Row
rows_meeting s words x = filter (λ (row : Row). meets x s.script row.word s.limit) (rows_of s words)
