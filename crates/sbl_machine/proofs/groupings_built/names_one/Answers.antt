use Rattle.std.proofs.Common.{◌≡◌, ◌∙◌, ap, sym}
use Rattle.sbl_semantics.specs.Items.{is_member}
use Rattle.sbl_compiler.proofs.SoundItems.{among_is}
use Rattle.sbl_ast.specs.View.{view_argument}
use Rattle.sbl_machine.specs.inside.BuiltFromParts.{names}
use Rattle.sbl_machine.proofs.groupings_built.names_one.Goals as goal

pub returns-in-Name : goal.returns-in-Name
returns-in-Name c =
    let ns = c.args.names.now in
    c.is_one_of.ensures ∙ among_is ns c.as_str.result.now ∙ ap (is_member ns) c.as_str.ensures.value ∙ sym (ap (λ a. names (is_member ns) (view_argument a)) c.in-Name.is)
