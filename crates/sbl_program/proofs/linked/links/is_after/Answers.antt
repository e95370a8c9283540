use Rattle.std.proofs.Common.{◌≡◌, ◌<◌, length, sym, ap, ◌∙◌, arith, rules, get_or}
use Rattle.std.specs.Prelude.{nat_lt}
use Rattle.std.proofs.lemmas.Grind.{get_or_default_zero}
use Rattle.sbl_semantics.specs.Fitting.{read_as}
use Rattle.sbl_program.proofs.SoFar.{read_length}
use Rattle.sbl_program.proofs.Order.{not_after, after_all, after_by}
use Rattle.sbl_program.proofs.linked.links.is_after.Goals as goal

pub returns-then-count-text : goal.returns-then-count-text
returns-then-count-text c =
    let x = read_as c.args.direction c.args.part.now in
    sym (not_after x c.args.text.now c.common-count.result c.common-count.ensures (search (rules, arith)))

pub returns-then-count-part : goal.returns-then-count-part
returns-then-count-part c =
    let x = read_as c.args.direction c.args.part.now in
    let n : length x ≡ length c.args.part.now = read_length c.args.direction c.args.part.now in
    sym (after_all x c.args.text.now c.common-count.result c.common-count.ensures (omega (arith, n, c.if-count-part.true)) (omega (arith, c.if-count-text.false)))

pub returns : goal.returns
returns c =
    let x = read_as c.args.direction c.args.part.now in
    let t = c.args.text.now in
    let n : length x ≡ length c.args.part.now = read_length c.args.direction c.args.part.now in
    let k : c.common-count.result < length t = omega (arith, c.if-count-text.false) in
    let h : c.common-count.result < length x = omega (arith, n, c.if-count-part.false) in
    let r : c.read_at.result ≡ get_or x c.common-count.result 0 = c.read_at.ensures in
    let s : c.index-text-count.result ≡ get_or t c.common-count.result 0 = c.index-text-count.is ∙ get_or_default_zero t c.common-count.result c.index-text-count.result k in
    ap (λ a. nat_lt a c.index-text-count.result) r ∙ ap (nat_lt (get_or x c.common-count.result 0)) s ∙ after_by x t c.common-count.result c.common-count.ensures h k
