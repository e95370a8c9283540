use Rattle.std.proofs.Common.{◌≡◌, ◌≤◌, length, take}
use Rattle.sbl_semantics.specs.Fitting.{read_as}
use Rattle.sbl_program.proofs.linked.links.common.Given as goal

abbrev pub invariant-loop-i : goal.invariant-loop-i
invariant-loop-i l = (l.i ≤ length (read_as l.direction l.part)) × (take l.i (read_as l.direction l.part) ≡ take l.i l.text)
