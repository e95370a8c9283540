use Rattle.std.proofs.Common.{◌≡◌, ◌||◌, ℕ, List, drop}
use Rattle.std.specs.List.{list_any}
use Rattle.std.specs.Str.{bytes_eq}
use Rattle.sbl_explain.specs.Kept.{is_one_of, row_words}
use Rattle.sbl_explain.proofs.kept_takes.add_words.Given as goal

abbrev pub invariant-loop-row : goal.invariant-loop-row
invariant-loop-row l = (w : List ℕ) → (list_any (bytes_eq w) (row_words (drop l.row-index l.rows)) || is_one_of l.words w) ≡ (list_any (bytes_eq w) (row_words l.rows) || is_one_of l.initial.words w)
