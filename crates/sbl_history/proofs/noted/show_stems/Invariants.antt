use Rattle.std.proofs.Common.{◌≡◌, ℕ, List, take, true}
use Rattle.std.specs.List.{AllByRecursion}
use Rattle.sbl_rows.specs.Rows.{view_rows}
use Rattle.sbl_history.specs.inside.Noted.{IsCovered}
use Rattle.sbl_history.specs.inside.TextSets.{has}
use Rattle.sbl_history.proofs.noted.show_stems.Given as goal

abbrev pub invariant-loop-number : goal.invariant-loop-number
invariant-loop-number l =
    ((t : List ℕ) → has l.initial.kept t ≡ true → has l.kept t ≡ true)
    × AllByRecursion (IsCovered (has l.words) (has l.stems) (has l.kept) (view_rows l.rows)) (view_rows (take l.number l.rows))
