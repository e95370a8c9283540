use Rattle.std.proofs.Common.{◌≡◌, ◌++◌, List, drop, string_bytes}
use Rattle.sbl_ast.specs.Terminal.{Terminal}
use Rattle.sbl_ast.specs.Tree.{Entry}
use Rattle.sbl_ast.specs.Spelled.{spelled_groups, spelled_others, spelled_rows}
use Rattle.sbl_ast.specs.inside.ViewParts.{view_groups, view_others, view_rows}
use Rattle.sbl_print.specs.Adding.{more}
use Rattle.sbl_print.proofs.commands.+commands.Given as goal

abbrev pub invariant-put_groups-loop-group : goal.invariant-put_groups-loop-group
invariant-put_groups-loop-group l =
    (es : List Entry) (rest : List Terminal) →
    string_bytes l.out ++ more (spelled_groups (view_groups (drop l.group-index l.groups.items) es) rest) ≡ string_bytes l.initial.out ++ more (spelled_groups (view_groups l.groups.items es) rest)

abbrev pub invariant-put_rows-loop-row : goal.invariant-put_rows-loop-row
invariant-put_rows-loop-row l =
    (rest : List Terminal) → string_bytes l.out ++ more (spelled_rows (view_rows (drop l.row-index l.rows.items)) rest) ≡ string_bytes l.initial.out ++ more (spelled_rows (view_rows l.rows.items) rest)

abbrev pub invariant-put_others-loop-other : goal.invariant-put_others-loop-other
invariant-put_others-loop-other l =
    (rest : List Terminal) → string_bytes l.out ++ more (spelled_others (view_others (drop l.other-index l.others.items)) rest) ≡ string_bytes l.initial.out ++ more (spelled_others (view_others l.others.items) rest)
