use Rattle.std.proofs.Common.{◌∙◌, ap₂, ap, codes}
use Rattle.std.proofs.lemmas.Result.{IfOk-weaker}
use Rattle.clap.specs.Words.{with_rule, App, Rule, new_rule}
use Rattle.sbl_command_line.specs.CommandLine.{verb_app}
use Rattle.sbl_command_line.proofs.command_line.filter_command.Goals as goal

pub returns : goal.returns
returns c =
    let begun : Rule → App = λ r. with_rule (with_rule (verb_app (codes "filter")) r) (new_rule (codes "WORDS")) in
    let second = c.in_ok-words_command.ensures ∙ ap begun c.file_arg-script.ensures.rule in
    IfOk-weaker c.arg.result _ _ (λ r h. h.shape c.flag_arg.ensures.here ∙ ap₂ with_rule second c.flag_arg.ensures.rule) c.arg.ensures
