use Rattle.std.proofs.Common.{arith}
use Rattle.std.proofs.lemmas.Grind.{common_steps}
use Rattle.sbl_tree_diff.proofs.After.{as_many, not_as_many}
use Rattle.sbl_ast.specs.View.{view_among}
use Rattle.sbl_tree_diff.proofs.picks.pick_among.Goals as goal

pub returns-then-branch-after-clause-numbers : goal.returns-then-branch-after-clause-numbers
returns-then-branch-after-clause-numbers c =
    rw (not_as_many (view_among c.args.one.now) (view_among c.args.other.now) c.args.before c.in_ok-after.after c.in_ok-past_among.field-0 c.in_ok-after.ensures c.in_ok-past_among.ensures c.if-branch-after.true)

pub returns-clause-numbers : goal.returns-clause-numbers
returns-clause-numbers c =
    rw (as_many (view_among c.args.one.now) (view_among c.args.other.now) c.args.before c.in_ok-after.after c.in_ok-past_among.field-0 c.in_ok-after.ensures c.in_ok-past_among.ensures c.if-branch-after.false)
    (grind (arith, common_steps))
