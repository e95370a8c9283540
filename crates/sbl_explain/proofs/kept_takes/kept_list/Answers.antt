use Rattle.std.proofs.Common.{◌∙◌, sym}
use Rattle.sbl_explain.proofs.KeptFacts.{list_moves}
use Rattle.sbl_explain.proofs.kept_takes.kept_list.Goals as goal

pub returns : goal.returns
returns c = λ u are. (
  sym c.runs_again.ensures ∙ c.if-runs_again.false,
  list_moves u c.in-Some.entry.now c.args.word.now c.in_ok-list.list (c.in-Some.ensures u are) (c.is_of_word.ensures c.if-not-is_of_word.false) c.in_ok-list.ensures,
)
