use Rattle.std.proofs.Common.{take}
use Rattle.sbl_semantics.specs.Fitting.{read_as}
use Rattle.sbl_program.specs.Strings.{strings_of}
use Rattle.sbl_program.specs.Best.{BestSoFar}
use Rattle.sbl_program.proofs.plain.PlainTable.best.Given as goal

abbrev pub invariant-loop-i : goal.invariant-loop-i
invariant-loop-i l = BestSoFar (take l.i (strings_of l.self)) (read_as l.self.direction l.part) l.below l.best.0 l.best.1
