-- The result of a walk through a part of a tree to the among with a number.
use Rattle.std.specs.Prelude.{◌≡◌, ℕ, ◌≤◌, List, Some}
use Rattle.sbl_ast.specs.Tree.{Command, among_}
use Rattle.sbl_tree_amongs.specs.declared.finding.WalkEnd.{WalkEnd}
use Rattle.sbl_tree_amongs.specs.declared.finding.WalkEnd.TheVariants as ends
use Rattle.sbl_tree_amongs.specs.Amongs.{AmongContents, amongs, amongs_of_others, contents_of, nth_held}
use Rattle.sbl_ast.specs.Places.{AtDepth, max_depth, placed_command, placed_others}
use Rattle.sbl_ast.specs.View.{RowView, view_among}
use Rattle.sbl_ast.specs.declared.tree.Among.{Among}

-- the among is in the part, or it has number m among those after the part
abbrev pub Finds : WalkEnd → ℕ → (List AmongContents → List AmongContents) → Type 0
Finds (ends.There d a) n part = (d ≤ max_depth) × ((rest : List AmongContents) → nth_held n (part rest) ≡ Some (contents_of d a.now))
Finds (ends.After m) n part = (rest : List AmongContents) → nth_held n (part rest) ≡ nth_held m rest

-- an among as a command
abbrev pub among_command : Among → Command
among_command a = among_ (view_among a).0 (view_among a).1

-- the tokens of a row at depth d, and its amongs, followed by the list `rest`
abbrev pub placed_row : RowView → ℕ → List AtDepth → List AtDepth
placed_row r d rest = placed_command r.0 d (placed_others r.1 d rest)

abbrev pub amongs_of_row : RowView → ℕ → List AmongContents → List AmongContents
amongs_of_row r d rest = amongs r.0 d (amongs_of_others r.1 d rest)
