use Rattle.std.proofs.Common.{◌≡◌, Some, None, sym, ap, ◌∙◌, rules, slice_index_or}
use Rattle.sbl_run_state.specs.Slots.{text_or_empty}
use Rattle.sbl_run_state.proofs.SlotValues.{value_there}
use Rattle.sbl_run_state.proofs.state.variables.string_of.Goals as goal

pub returns-in-None : goal.returns-in-None
returns-in-None c =
    let there : slice_index_or c.args.strings.now c.args.number None ≡ None = search rules in
    ap text_or_empty (sym there) ∙ sym (value_there text_or_empty c.args.strings.now c.args.number None)

pub returns-in-Some : goal.returns-in-Some
returns-in-Some c =
    let there : slice_index_or c.args.strings.now c.args.number None ≡ Some c.in-Some.string.now = search rules in
    c.deref.ensures.value ∙ ap text_or_empty (sym there) ∙ sym (value_there text_or_empty c.args.strings.now c.args.number None)
