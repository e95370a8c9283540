-- The number of amongs in a tree.
use Rattle.std.specs.Prelude.{ℕ, ◌+◌}
use Rattle.sbl_ast.specs.Tree.{Command, bracket, prefixed, counted, setlimit_, among_, Rows, no_rows, row, Others}
use Rattle.sbl_ast.specs.Tree.{no_others, joined, Starter, no_starter, starter, Groups, bare, group}

abbrev mutual
  pub count_amongs : Command → ℕ
  count_amongs (bracket rs) = count_in_rows rs
  count_amongs (prefixed p c) = count_amongs c
  count_amongs (counted n e c) = count_amongs c
  count_amongs (setlimit_ b c) = count_amongs b + count_amongs c
  count_amongs (among_ s gs) = 1 + (count_in_starter s + count_in_groups gs)
  count_amongs _ = 0

  pub count_in_rows : Rows → ℕ
  count_in_rows no_rows = 0
  count_in_rows (row c os rs) = count_amongs c + (count_in_others os + count_in_rows rs)

  pub count_in_others : Others → ℕ
  count_in_others no_others = 0
  count_in_others (joined j c os) = count_amongs c + count_in_others os

  pub count_in_starter : Starter → ℕ
  count_in_starter no_starter = 0
  count_in_starter (starter rs) = count_in_rows rs

  pub count_in_groups : Groups → ℕ
  count_in_groups (bare es) = 0
  count_in_groups (group e es rs gs) = count_in_rows rs + count_in_groups gs

-- an among and all amongs inside it
abbrev pub count_in_among : Starter × Groups → ℕ
count_in_among a = 1 + (count_in_starter a.0 + count_in_groups a.1)
