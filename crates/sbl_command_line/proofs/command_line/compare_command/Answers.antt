use Rattle.std.proofs.Common.{◌∙◌, ap₂}
use Rattle.std.proofs.lemmas.Result.{IfOk-weaker}
use Rattle.clap.specs.Words.{with_rule}
use Rattle.sbl_command_line.proofs.command_line.compare_command.Goals as goal

pub returns : goal.returns
returns c =
    let first = c.in_ok-arg.ensures.shape c.required_file.ensures.here ∙ ap₂ with_rule c.in_ok-verb_command.ensures c.required_file.ensures.rule in
    let second = c.in_ok-arg-2.ensures.shape c.required_file-2.ensures.here ∙ ap₂ with_rule first c.required_file-2.ensures.rule in
    let third = c.in_ok-arg-3.ensures.shape c.required_file-3.ensures.here ∙ ap₂ with_rule second c.required_file-3.ensures.rule in
    IfOk-weaker c.arg-4.result _ _ (λ r h. h.shape c.flag_arg.ensures.here ∙ ap₂ with_rule third c.flag_arg.ensures.rule) c.arg-4.ensures
