use Rattle.std.proofs.Common.{◌∙◌, ap₂, ap}
use Rattle.std.proofs.lemmas.Result.{IfOk-weaker}
use Rattle.clap.specs.Words.{with_rule}
use Rattle.clap.specs.Walk.{rule_of}
use Rattle.sbl_command_line.proofs.command_line.words_command.Goals as goal

pub returns : goal.returns
returns c =
    let first = c.in_ok-verb_command.ensures in
    let second = c.in_ok-arg.ensures.shape c.requires.here ∙ ap (λ a. with_rule a (rule_of c.args.script)) first in
    IfOk-weaker c.arg-2.result _ _ (λ r h. h.shape c.file_arg.ensures.here ∙ ap₂ with_rule second c.file_arg.ensures.rule) c.arg-2.ensures
