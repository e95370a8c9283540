use Rattle.std.proofs.Common.{◌≡◌, false, Some, None, sym, ap, ◌∙◌, rules, slice_index_or}
use Rattle.sbl_run_state.specs.Slots.{value_or}
use Rattle.sbl_run_state.proofs.SlotValues.{value_there}
use Rattle.sbl_run_state.proofs.state.variables.boolean_of.Goals as goal

pub returns-in-None : goal.returns-in-None
returns-in-None c =
    let there : slice_index_or c.args.booleans.now c.args.number None ≡ None = search rules in
    ap (value_or false) (sym there) ∙ sym (value_there (value_or false) c.args.booleans.now c.args.number None)

pub returns-in-Some : goal.returns-in-Some
returns-in-Some c =
    let there : slice_index_or c.args.booleans.now c.args.number None ≡ Some c.in-Some.value.now = search rules in
    ap (value_or false) (sym there) ∙ sym (value_there (value_or false) c.args.booleans.now c.args.number None)
