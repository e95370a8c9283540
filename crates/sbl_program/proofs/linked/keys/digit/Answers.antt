use Rattle.std.proofs.Common.{sym, arith}
use Rattle.sbl_semantics.specs.Fitting.{read_as}
use Rattle.sbl_program.proofs.Keys.{digit_at, digit_past}
use Rattle.sbl_program.proofs.SoFar.{read_length}
use Rattle.sbl_program.proofs.linked.keys.digit.Goals as goal

pub returns-then-i-part-clause-is : goal.returns-then-i-part-clause-is
returns-then-i-part-clause-is c =
    let x = read_as c.args.direction c.args.part.now in
    let is = digit_at x c.args.i (omega (arith, read_length c.args.direction c.args.part.now, c.if-i-part.true)) in
    omega (arith, is, c.read_at.ensures)

pub returns-else-i-part-clause-is : goal.returns-else-i-part-clause-is
returns-else-i-part-clause-is c =
    let x = read_as c.args.direction c.args.part.now in
    sym (digit_past x c.args.i (omega (arith, read_length c.args.direction c.args.part.now, c.if-i-part.false)))
