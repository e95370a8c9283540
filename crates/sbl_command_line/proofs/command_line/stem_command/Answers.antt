use Rattle.std.proofs.Common.{◌∙◌, ap₂}
use Rattle.std.proofs.lemmas.Result.{IfOk-weaker}
use Rattle.clap.specs.Words.{with_rule}
use Rattle.sbl_command_line.proofs.command_line.stem_command.Goals as goal

pub returns : goal.returns
returns c = IfOk-weaker c.arg.result _ _ (λ r h. h.shape c.flag_arg.ensures.here ∙ ap₂ with_rule c.in_ok-verb_command.ensures c.flag_arg.ensures.rule) c.arg.ensures
