use Rattle.std.proofs.Common.{◌≡◌, pos, map, take}
use Rattle.sbl_run_state.specs.Slots.{value_or}
use Rattle.sbl_run_state.proofs.state.variables.all_integers.Given as goal

-- the values so far
abbrev pub invariant-loop-number : goal.invariant-loop-number
invariant-loop-number l = l.values.items ≡ take l.number (map (value_or (pos 0)) l.integers)
