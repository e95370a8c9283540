use Rattle.std.proofs.Common.{◌≡◌, drop, map, List}
use Rattle.sbl_ast.specs.Tree as trees
use Rattle.sbl_ast.specs.inside.ViewParts.{view_groups, view_others, view_rows}
use Rattle.sbl_compiler.specs.NumberedAmongs.{found_groups, found_others, found_rows}
use Rattle.sbl_compiler.specs.NumberedView.{view_found, view_names}
use Rattle.sbl_compiler.proofs.amongs.Finder.+finding.Given as goal

abbrev pub invariant-find_rows-loop-row : goal.invariant-find_rows-loop-row
invariant-find_rows-loop-row l = found_rows (view_names l.self.names.now) l.self.first l.self.mode (view_rows (drop l.row-index l.rows.items)) (map view_found l.all.items) ≡ found_rows (view_names l.self.names.now) l.self.first l.self.mode (view_rows l.rows.items) (map view_found l.initial.all.items)

abbrev pub invariant-find_others-loop-joined : goal.invariant-find_others-loop-joined
invariant-find_others-loop-joined l = found_others (view_names l.self.names.now) l.self.first l.self.mode (view_others (drop l.joined-index l.others.items)) (map view_found l.all.items) ≡ found_others (view_names l.self.names.now) l.self.first l.self.mode (view_others l.others.items) (map view_found l.initial.all.items)

abbrev pub invariant-find_groups-loop-group : goal.invariant-find_groups-loop-group
invariant-find_groups-loop-group l = (bare : List trees.Entry) → found_groups (view_names l.self.names.now) l.self.first l.self.mode (view_groups (drop l.group-index l.groups.items) bare) (map view_found l.all.items) ≡ found_groups (view_names l.self.names.now) l.self.first l.self.mode (view_groups l.groups.items bare) (map view_found l.initial.all.items)
