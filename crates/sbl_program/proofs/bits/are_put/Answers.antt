use Rattle.std.proofs.Common.{◌≡◌, ◌<◌, ◌+◌, ◌*◌, ℕ, true, arith}
use Rattle.sbl_program.specs.Bits.{word_has}
use Rattle.sbl_program.proofs.bits.are_put.Goals as goal

pub returns-clause-all : goal.returns-clause-all
returns-clause-all c = λ put.
    let at : (number bit : ℕ) → bit < 64 → word_has c.args.others.now number bit ≡ true → word_has c.args.words.now number bit ≡ c.args.value
    = λ number bit small. grind (arith, put (number * 64 + bit)) in
    search (at, c.loop-number.invariant.1)
