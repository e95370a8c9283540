use Rattle.std.proofs.Common.{◌≡◌, pos, Some, None, sym, ap, ◌∙◌, rules, slice_index_or}
use Rattle.sbl_run_state.specs.Slots.{value_or}
use Rattle.sbl_run_state.proofs.SlotValues.{step, value_there}
use Rattle.sbl_run_state.proofs.state.variables.integer_of.Goals as goal

pub returns-in-None : goal.returns-in-None
returns-in-None c =
    let there : slice_index_or c.args.integers.now c.args.number None ≡ None = search rules in
    ap (value_or (pos 0)) (sym there) ∙ sym (value_there (value_or (pos 0)) c.args.integers.now c.args.number None)

pub returns-in-Some : goal.returns-in-Some
returns-in-Some c =
    let there : slice_index_or c.args.integers.now c.args.number None ≡ Some c.in-Some.value.now = search rules in
    step _ c.in-Some.value.now _ (search rules) (ap (value_or (pos 0)) (sym there) ∙ sym (value_there (value_or (pos 0)) c.args.integers.now c.args.number None))
