use Rattle.std.proofs.Common.{◌≡◌, ◌≤◌, ◌++◌, drop, map}
use Rattle.sbl_text.specs.Tokens.{placed_of}
use Rattle.sbl_text_rows.specs.PlaceRows.{beginning, lines_after}
use Rattle.sbl_text_rows.specs.Views.{Measures, context_of}
use Rattle.sbl_text_rows.proofs.places.rows_of.Given as goal

abbrev pub invariant-loop-i : goal.invariant-loop-i
invariant-loop-i l =
    Measures l.rows.ruler × (l.rows.ruler.text.now ≡ l.text) × ((context_of l.rows.walk).amongs ≤ l.i)
    × (l.rows.out.items ++ lines_after l.text (context_of l.rows.walk) (map placed_of (drop l.i l.tokens)) ≡ lines_after l.text beginning (map placed_of l.tokens))
