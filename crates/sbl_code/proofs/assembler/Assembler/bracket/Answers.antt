use Rattle.std.proofs.Common.{true, refl, sym, ap, ◌∙◌}
use Rattle.std.proofs.lemmas.Result.{IfOk-weaker}
use Rattle.sbl_semantics.specs.State.{Signals}
use Rattle.sbl_semantics.specs.Slices.{left_bracket, right_bracket}
use Rattle.sbl_code.specs.Flow.{flow, bracket_of}
use Rattle.sbl_code.proofs.Instructions.{flow_left_bracket, flow_right_bracket}
use Rattle.sbl_code.proofs.Performing.{emitted_at, same_meaning}
use Rattle.sbl_code.proofs.assembler.Assembler.bracket.Goals as goal

pub returns-then-left : goal.returns-then-left
returns-then-left c =
    let e = c.args.exits.now in
    let o = c.in_ok-next.next in
    IfOk-weaker c.emit.result _ _
    (λ made is. λ tables n.
    same_meaning tables (λ p levels m s. Signals true (left_bracket m s)) (λ p levels m s. Signals true (bracket_of c.args.left m s)) c.args.cost n e.next.value e.fail.value made.value (λ p levels m s. ap (λ b. Signals true (bracket_of b m s)) (sym c.if-left.true))
    (emitted_at tables (λ p levels m s. Signals true (left_bracket m s)) c.args.cost o.value e.fail.value e.next.value e.fail.value made.value c.in_ok-next.ensures.cases refl
    (λ p levels m ys s. ap (λ i. flow p levels tables i m ys s) is ∙ flow_left_bracket p levels tables m ys s c.args.cost o) n))
    c.emit.ensures

pub returns-else-left : goal.returns-else-left
returns-else-left c =
    let e = c.args.exits.now in
    let o = c.in_ok-next.next in
    IfOk-weaker c.emit-else-left.result _ _
    (λ made is. λ tables n.
    same_meaning tables (λ p levels m s. Signals true (right_bracket m s)) (λ p levels m s. Signals true (bracket_of c.args.left m s)) c.args.cost n e.next.value e.fail.value made.value (λ p levels m s. ap (λ b. Signals true (bracket_of b m s)) (sym c.if-left.false))
    (emitted_at tables (λ p levels m s. Signals true (right_bracket m s)) c.args.cost o.value e.fail.value e.next.value e.fail.value made.value c.in_ok-next.ensures.cases refl
    (λ p levels m ys s. ap (λ i. flow p levels tables i m ys s) is ∙ flow_right_bracket p levels tables m ys s c.args.cost o) n))
    c.emit-else-left.ensures
