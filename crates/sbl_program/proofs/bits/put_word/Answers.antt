use Rattle.std.proofs.Common.{arith, tests}
use Rattle.std.proofs.lemmas.Nat.Bits.{bit_at_and, bit_at_or, bit_at_xor, bit_at-lt}
use Rattle.std.specs.Prelude.{bit_and}
use Rattle.sbl_program.proofs.bits.put_word.Goals as goal

pub returns-then-value : goal.returns-then-value
returns-then-value c = λ bit. grind (arith, tests, c.if-value.true, bit_at_or c.args.word c.args.other bit, bit_at-lt c.args.word bit, bit_at-lt c.args.other bit)

pub returns-else-value : goal.returns-else-value
returns-else-value c = λ bit. grind (arith, tests, c.if-value.false, bit_at_xor c.args.word (bit_and c.args.word c.args.other) bit, bit_at_and c.args.word c.args.other bit, bit_at-lt c.args.word bit, bit_at-lt c.args.other bit)
