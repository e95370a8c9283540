use Rattle.std.proofs.Common.{length, refl, arith}
use Rattle.std.specs.Prelude.{nat_eq}
use Rattle.sbl_semantics.specs.Fitting.{read_as}
use Rattle.sbl_program.proofs.Order.{prefix_or}
use Rattle.sbl_program.proofs.linked.links.is_shorter_prefix.Goals as goal

pub returns-then-text-below : goal.returns-then-text-below
returns-then-text-below c =
    let t = c.args.text.now in
    prefix_or (read_as c.args.direction c.args.part.now) t c.common.result c.args.below (nat_eq c.common.result (length t)) c.common.ensures (omega (arith, c.if-text-below.true)) refl
