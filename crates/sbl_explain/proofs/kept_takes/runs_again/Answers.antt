use Rattle.std.proofs.Common.{◌∙◌}
use Rattle.sbl_explain.proofs.KeptSets.{word_held}
use Rattle.sbl_explain.proofs.kept_takes.runs_again.Goals as goal

pub returns : goal.returns
returns c = c.contains.ensures ∙ word_held c.args.word c.args.again.now.keys
