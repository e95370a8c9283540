use Rattle.std.proofs.Common.{ap, ◌∙◌}
use Rattle.std.proofs.lemmas.Result.{IfOk-weaker}
use Rattle.sbl_program.specs.Run.{calls}
use Rattle.sbl_semantics.specs.Control.{pay_first}
use Rattle.sbl_code.specs.Flow.{flow}
use Rattle.sbl_code.proofs.Instructions.{flow_call}
use Rattle.sbl_code.proofs.Performing.{emitted_at}
use Rattle.sbl_code.proofs.assembler.Assembler.call.Goals as goal

pub returns : goal.returns
returns c =
    let e = c.args.exits.now in
    let o = c.in_ok-next.field-0 in
    IfOk-weaker c.emit.result _ _
    (λ made is. λ tables n.
    emitted_at tables (λ p levels. pay_first (calls p levels c.args.routine)) c.args.cost o.next.value o.fail.value e.next.value e.fail.value made.value c.in_ok-next.ensures.0 c.in_ok-next.ensures.1
    (λ p levels m ys s. ap (λ i. flow p levels tables i m ys s) is ∙ flow_call p levels tables m ys s c.args.cost c.args.routine o.next o.fail) n)
    c.emit.ensures
