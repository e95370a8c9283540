use Rattle.std.proofs.Common.{◌≡◌, ◌++◌, drop, map, List}
use Rattle.sbl_ast.specs.Tree as trees
use Rattle.sbl_ast.specs.inside.ViewParts.{view_groups, view_others, view_rows}
use Rattle.sbl_compiler.specs.NumberedItems.{joins_in, numbered_groups, numbered_rows, past_groups, past_others, past_rows}
use Rattle.sbl_compiler.specs.NumberedView.{joined_in, names_in, node_in, place_in}
use Rattle.sbl_compiler.proofs.compiler.Compiler.+commands.Given as goal

abbrev pub invariant-rows_of-loop-row : goal.invariant-rows_of-loop-row
invariant-rows_of-loop-row l = (map (node_in l.self) l.nodes.items ++ numbered_rows (names_in l.self) (view_rows (drop l.row-index l.rows.items)) (place_in l.self l.place) ≡ numbered_rows (names_in l.self) (view_rows l.rows.items) (place_in l.self l.initial.place)) × (past_rows (view_rows (drop l.row-index l.rows.items)) (place_in l.self l.place) ≡ past_rows (view_rows l.rows.items) (place_in l.self l.initial.place))

abbrev pub invariant-others_of-loop-other : goal.invariant-others_of-loop-other
invariant-others_of-loop-other l = (map (joined_in l.self) l.joins.items ++ joins_in (names_in l.self) (view_others (drop l.other-index l.others.items)) (place_in l.self l.place) ≡ joins_in (names_in l.self) (view_others l.others.items) (place_in l.self l.initial.place)) × (past_others (view_others (drop l.other-index l.others.items)) (place_in l.self l.place) ≡ past_others (view_others l.others.items) (place_in l.self l.initial.place))

abbrev pub invariant-bodies_of-loop-group : goal.invariant-bodies_of-loop-group
invariant-bodies_of-loop-group l = (bare : List trees.Entry) → (map (node_in l.self) l.bodies.items ++ numbered_groups (names_in l.self) (view_groups (drop l.group-index l.groups.items) bare) (place_in l.self l.place) ≡ numbered_groups (names_in l.self) (view_groups l.groups.items bare) (place_in l.self l.initial.place)) × (past_groups (view_groups (drop l.group-index l.groups.items) bare) (place_in l.self l.place) ≡ past_groups (view_groups l.groups.items bare) (place_in l.self l.initial.place))
