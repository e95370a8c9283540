use Rattle.std.proofs.Common.{take}
use Rattle.sbl_code.specs.CodeOf.{AreCodeOf}
use Rattle.sbl_code.proofs.assembler.Assembler.routines.Given as goal

abbrev pub invariant-loop-routine : goal.invariant-loop-routine
invariant-loop-routine l = AreCodeOf l.codes.items (take l.routine-index l.program.routines.items)
