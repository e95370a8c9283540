use Rattle.std.proofs.Common.{sym, ◌∙◌}
use Rattle.sbl_ast.specs.View.{view_expression}
use Rattle.sbl_resolver.specs.OccurrenceView.{view_occurrences}
use Rattle.sbl_resolver.proofs.Walked.{expression_is}
use Rattle.sbl_resolver.proofs.sofar.SoFar.note_expression.Goals as goal

pub returns : goal.returns
returns c = c.in_ok-walk_expression.ensures ∙ sym (expression_is (view_expression c.args.expression.now) c.args.site (view_occurrences c.args.self.now))
