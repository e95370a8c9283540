use Rattle.std.proofs.Common.{◌<◌, ◌+◌, ◌*◌, ℕ, subst}
use Rattle.std.specs.Str.{chars}
use Rattle.sbl_text.specs.Tokens.{number_of}
use Rattle.sbl_text.proofs.Nexts.{too_large}
use Rattle.sbl_text.proofs.meanings.number.Goals as goal

pub returns-then-value-gt-MOST : goal.returns-then-value-gt-MOST
returns-then-value-gt-MOST c =
    too_large c.loop-c.value c.in-Some.c 2147483647 (number_of (chars c.args.text.now)) (chars c.loop-c.text.now) (chars c.in-Some.rest.now)
    c.in-Some.ensures.parts c.loop-c.invariant.1 (subst (λ (n : ℕ). 2147483647 < c.loop-c.value * 10 + n) c.saturating_sub.ensures c.if-value-gt-MOST.true)
