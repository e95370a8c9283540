use Rattle.std.proofs.Common.{◌≡◌, ◌<◌, ℕ, arith, tests}
use Rattle.std.specs.Int.{bit_at}
use Rattle.std.proofs.lemmas.Nat.Bits.{bit_at-lt, same_from_bits_below}
use Rattle.sbl_program.proofs.bits.has_all.Goals as goal

pub returns-clause-all : goal.returns-clause-all
returns-clause-all c = λ has.
    let same : (bit : ℕ) → bit < 64 → bit_at c.put_word.result bit ≡ bit_at c.args.word bit
    = λ bit small. grind (arith, tests, c.put_word.ensures bit, has bit small, bit_at-lt c.put_word.result bit, bit_at-lt c.args.word bit) in
    grind (arith, tests, same_from_bits_below 64 c.put_word.result c.args.word c.put_word.type_inv c.ranges.word.fits same)
