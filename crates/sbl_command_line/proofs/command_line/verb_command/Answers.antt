use Rattle.std.proofs.Common.{rules, ◌≡◌, ◌∙◌, ap, ap₂, Some, codes, [], ◌∷◌}
use Rattle.clap.specs.Words.{Rule, with_rule}
use Rattle.clap.specs.Walk.{rule_of}
use Rattle.sbl_command_line.specs.CommandLine.{external}
use Rattle.sbl_command_line.proofs.command_line.verb_command.Goals as goal

pub returns : goal.returns
returns c =
    let option_is : rule_of c.default_value-external.result ≡ external =
    rw c.default_value-external.ensures (rw c.help.ensures (rw c.value_name.ensures (rw c.long.ensures
    (ap (λ (r : Rule). record r { long = Some (codes "external"); value_names = 1; defaults = codes "stem" ∷ [] }) c.new.ensures.rule)))) in
    let with_option = c.in_ok-command.ensures.shape (search rules) ∙ ap₂ with_rule c.new-2.ensures.app option_is in
    rw c.after_help.ensures (rw c.about.ensures with_option)
