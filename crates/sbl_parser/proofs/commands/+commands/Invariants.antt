use Rattle.std.proofs.Common.{◌≡◌, ◌≤◌, ◌∷◌, ◌*◌, ◌-◌, ◌+◌, [], length}
use Rattle.sbl_ast.specs.Places.{max_depth}
use Rattle.sbl_ast.specs.Spelled as written
use Rattle.sbl_ast.specs.View as view
use Rattle.sbl_ast.specs.inside.ViewParts as view_parts
use Rattle.sbl_parser.specs.Gives.{ahead}
use Rattle.sbl_parser.specs.Steps as wanted
use Rattle.sbl_parser.proofs.commands.+commands.Given as goal

abbrev pub decreases-among : goal.decreases-among
decreases-among l = 10 * (70 - l.depth) + 1

abbrev pub decreases-block : goal.decreases-block
decreases-block l = 10 * (70 - (l.depth + 1)) + 7

abbrev pub decreases-command : goal.decreases-command
decreases-command l = 10 * (70 - l.depth) + 3

abbrev pub decreases-command_of : goal.decreases-command_of
decreases-command_of l = 10 * (70 - l.depth) + 2

abbrev pub decreases-count_command : goal.decreases-count_command
decreases-count_command l = 10 * (70 - l.depth) + 1

abbrev pub decreases-groups : goal.decreases-groups
decreases-groups l = 10 * (70 - l.depth) + 0

abbrev pub decreases-inner_command : goal.decreases-inner_command
decreases-inner_command l = 10 * (70 - l.depth) + 4

abbrev pub decreases-prefix_command : goal.decreases-prefix_command
decreases-prefix_command l = 10 * (70 - l.depth) + 1

abbrev pub decreases-row : goal.decreases-row
decreases-row l = 10 * (70 - l.depth) + 4

abbrev pub decreases-rows : goal.decreases-rows
decreases-rows l = 10 * (70 - l.depth) + 5

abbrev pub decreases-set_limit : goal.decreases-set_limit
decreases-set_limit l = 10 * (70 - l.depth) + 1

abbrev pub decreases-starter : goal.decreases-starter
decreases-starter l = 10 * (70 - l.depth) + 0

abbrev pub invariant-rows-loop-cursor : goal.invariant-rows-loop-cursor
invariant-rows-loop-cursor l = record {
  spelled : ahead l.fn.cursor ≡ written.spelled_rows (view_parts.view_rows l.rows.items) (ahead l.cursor);
  faults : (k : wanted.Stack) → wanted.fault (ahead l.fn.cursor) (wanted.rows l.depth ∷ k) ≡ wanted.fault (ahead l.cursor) (wanted.rows l.depth ∷ k);
}

abbrev pub decreases-rows-loop-cursor : goal.decreases-rows-loop-cursor
decreases-rows-loop-cursor l = length (ahead l.cursor)

abbrev pub invariant-row-loop-joiner : goal.invariant-row-loop-joiner
invariant-row-loop-joiner l = record {
  shallow : l.depth ≤ max_depth;
  spelled : ahead l.fn.cursor ≡ written.spelled_command (view.view_command l.first) (written.spelled_others (view_parts.view_others l.others.items) (ahead l.cursor));
  faults : (k : wanted.Stack) → wanted.fault (ahead l.fn.cursor) (wanted.command l.depth ∷ wanted.others l.depth ∷ k) ≡ wanted.fault (ahead l.cursor) (wanted.others l.depth ∷ k);
}

abbrev pub decreases-row-loop-joiner : goal.decreases-row-loop-joiner
decreases-row-loop-joiner l = length (ahead l.cursor)

abbrev pub invariant-groups-loop-cursor : goal.invariant-groups-loop-cursor
invariant-groups-loop-cursor l = record {
  spelled : ahead l.fn.cursor ≡ written.spelled_groups (view_parts.view_groups l.groups.items []) (ahead l.cursor);
  faults : (k : wanted.Stack) → wanted.fault (ahead l.fn.cursor) (wanted.groups l.depth ∷ k) ≡ wanted.fault (ahead l.cursor) (wanted.groups l.depth ∷ k);
}

abbrev pub decreases-groups-loop-cursor : goal.decreases-groups-loop-cursor
decreases-groups-loop-cursor l = length (ahead l.cursor)
