use Rattle.std.proofs.Common.{arith, tests, ◌%◌}
use Rattle.std.proofs.lemmas.Nat.{one_shl}
use Rattle.std.proofs.lemmas.Nat.Bits.{bit_at-pow_same, bit_at-pow_other}
use Rattle.sbl_program.proofs.bits.bit_of.Goals as goal

pub returns : goal.returns
returns c = λ bit. grind (arith, tests, one_shl (c.args.place % 64) 64 (search (arith)), bit_at-pow_same (c.args.place % 64), bit_at-pow_other (c.args.place % 64) bit)
