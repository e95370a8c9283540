use Rattle.sbl_text.proofs.Numbers.{too_large_code}
use Rattle.sbl_text.proofs.codes.code.Goals as goal

pub returns-then-value-gt-LARGEST : goal.returns-then-value-gt-LARGEST
returns-then-value-gt-LARGEST c =
    too_large_code c.args.base c.args.most c.loop-digits.value c.in-Some.digit c.c-item.result c.loop-digits.digits.now c.args.digits.now
    c.requires.low c.in-len1-up.len_at_least c.c-item.is c.in-Some.ensures.value.1 c.loop-digits.invariant.0 c.if-value-gt-LARGEST.true
