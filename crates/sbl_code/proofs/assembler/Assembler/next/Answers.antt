use Rattle.std.proofs.Common.{ap, ◌∙◌}
use Rattle.std.proofs.lemmas.Result.{IfOk-weaker}
use Rattle.sbl_semantics.specs.Moves.{match, test_boolean}
use Rattle.sbl_semantics.specs.Moves as moves
use Rattle.sbl_code.specs.Flow.{flow}
use Rattle.sbl_code.proofs.Instructions.{flow_next}
use Rattle.sbl_code.proofs.Performing.{emitted_at}
use Rattle.sbl_code.proofs.assembler.Assembler.next.Goals as goal

pub returns : goal.returns
returns c =
    let e = c.args.exits.now in
    let o = c.in_ok-next.field-0 in
    IfOk-weaker c.emit.result _ _
    (λ made is. λ tables n.
    emitted_at tables (λ p levels m s. moves.next m s) c.args.cost o.next.value o.fail.value e.next.value e.fail.value made.value c.in_ok-next.ensures.0 c.in_ok-next.ensures.1
    (λ p levels m ys s. ap (λ i. flow p levels tables i m ys s) is ∙ flow_next p levels tables m ys s c.args.cost o.next o.fail) n)
    c.emit.ensures
