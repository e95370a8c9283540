-- The amongs of a body as the code gathers them.
use Rattle.std.specs.Prelude.{List, [], ◌∷◌, ◌++◌}
use Rattle.sbl_ast.specs.Tree.{Command, bracket, simple_, literal_, name_, non_, prefixed, counted, move_, named, splice_, setlimit_, assign_}
use Rattle.sbl_ast.specs.Tree.{compare_, compare_values_, among_, Rows, no_rows, row, Others, no_others, joined, Starter, no_starter, starter}
use Rattle.sbl_ast.specs.Tree.{Groups, bare, group}

-- The groups of the amongs of a command, in the order of their words `among`, after those so far.
abbrev mutual
  pub gathered_command : Command → List Groups → List Groups
  gathered_command (bracket rs) sofar = gathered_rows rs sofar
  gathered_command (prefixed p c) sofar = gathered_command c sofar
  gathered_command (counted n e c) sofar = gathered_command c sofar
  gathered_command (setlimit_ b c) sofar = gathered_command c (gathered_command b sofar)
  gathered_command (among_ s gs) sofar = gathered_groups gs (gathered_starter s (sofar ++ gs ∷ []))
  gathered_command (simple_ x) sofar = sofar
  gathered_command (literal_ q) sofar = sofar
  gathered_command (name_ n) sofar = sofar
  gathered_command (non_ b n) sofar = sofar
  gathered_command (move_ x e) sofar = sofar
  gathered_command (named x n) sofar = sofar
  gathered_command (splice_ x a) sofar = sofar
  gathered_command (assign_ n o e) sofar = sofar
  gathered_command (compare_ n o e) sofar = sofar
  gathered_command (compare_values_ e o f) sofar = sofar

  pub gathered_rows : Rows → List Groups → List Groups
  gathered_rows no_rows sofar = sofar
  gathered_rows (row c os rs) sofar = gathered_rows rs (gathered_others os (gathered_command c sofar))

  pub gathered_others : Others → List Groups → List Groups
  gathered_others no_others sofar = sofar
  gathered_others (joined j c os) sofar = gathered_others os (gathered_command c sofar)

  pub gathered_starter : Starter → List Groups → List Groups
  gathered_starter no_starter sofar = sofar
  gathered_starter (starter rs) sofar = gathered_rows rs sofar

  pub gathered_groups : Groups → List Groups → List Groups
  gathered_groups (bare es) sofar = sofar
  gathered_groups (group e es rs gs) sofar = gathered_groups gs (gathered_rows rs sofar)
