use Rattle.std.proofs.Common.{map, pos, ◌∙◌, arith, rules}
use Rattle.std.proofs.lemmas.List.{length-map, take_all}
use Rattle.sbl_run_state.specs.Slots.{value_or}
use Rattle.sbl_run_state.proofs.SlotValues.{one_more}
use Rattle.sbl_run_state.proofs.state.variables.all_integers.Goals as goal

pub loop-number-preserved : goal.loop-number-preserved
loop-number-preserved c =
    let xs = map (value_or (pos 0)) c.args.integers.now in
    one_more xs c.loop-number.values.items _ c.loop-number.number _ c.integer_of.result c.loop-number.invariant (omega (arith, length-map c.args.integers.now (value_or (pos 0)))) c.in_ok-push.ensures.items c.integer_of.ensures (search rules)

pub returns : goal.returns
returns c =
    let xs = map (value_or (pos 0)) c.args.integers.now in
    c.loop-number.invariant ∙ take_all c.loop-number.number xs (omega (arith, length-map c.args.integers.now (value_or (pos 0))))
