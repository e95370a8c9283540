use Rattle.std.proofs.Common.{◌≡◌, map, take}
use Rattle.sbl_text.proofs.macros.Macros.copy.Given as goal

abbrev pub invariant-loop-each : goal.invariant-loop-each
invariant-loop-each l = l.copy ≡ map (λ m. record { name = m.name.items; value = m.value.items }) (take l.each-index l.each-items)
