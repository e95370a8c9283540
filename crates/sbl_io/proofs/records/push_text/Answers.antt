use Rattle.std.proofs.Common.{◌≡◌, ◌∙◌, ◌++◌, ◌+◌, ◌<◌, [], ◌∷◌, ℕ, List, true, nat_lt, ap, sym, refl, take, arith, tests}
use Rattle.std.specs.Char.{encode_utf8}
use Rattle.std.proofs.lemmas.List.{length-set, take_more_set}
use Rattle.sbl_io.proofs.Utf8.{one_more}
use Rattle.sbl_io.proofs.records.push_text.Goals as goal

-- a character of ASCII is its own byte
one_byte : (c : ℕ) → c < 128 → encode_utf8 c ≡ c ∷ []
unfolding encode_utf8
one_byte c low = let is : nat_lt c 128 ≡ true = grind (arith, tests, low) in rw is refl

pub loop-c-preserved : goal.loop-c-preserved
loop-c-preserved c =
    let low : c.c-item.result < 128 = grind (arith, tests, c.if-end-code.false) in
    let room : c.loop-c.end < 64 = grind (arith, tests, c.if-end-code.false, c.loop-c.invariant.1) in
    let fits = rw (sym c.loop-c.invariant.2) at room in (
      ap (λ (n : ℕ). n + 1) c.loop-c.invariant.0,
      omega (arith, room),
      length-set _ _ _ ∙ c.loop-c.invariant.2,
      one_more c.args.characters.now c.loop-c.c-index c.c-item.result _ _ c.loop-c-test.true c.c-item.is c.loop-c.invariant.3
          (take_more_set c.loop-c.room c.loop-c.end c.c-item.result fits ∙ ap (λ (t : List ℕ). take c.loop-c.end c.loop-c.room ++ t) (sym (one_byte c.c-item.result low))),
      c.loop-c.invariant.4,
      c.loop-c.invariant.5,
    )
