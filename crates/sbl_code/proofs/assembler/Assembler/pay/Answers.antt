use Rattle.std.proofs.Common.{ap, ◌∙◌}
use Rattle.std.proofs.lemmas.Result.{IfOk-weaker}
use Rattle.sbl_program.specs.Rows.{pays}
use Rattle.sbl_semantics.specs.State.{then_on}
use Rattle.sbl_code.specs.Flow.{flow}
use Rattle.sbl_code.proofs.Instructions.{flow_pay}
use Rattle.sbl_code.proofs.Performing.{performs_skip}
use Rattle.sbl_code.proofs.assembler.Assembler.pay.Goals as goal

pub returns : goal.returns
returns c =
    let cost = c.args.cost in
    let e = c.args.exits.now in
    IfOk-weaker c.emit.result _ _
    (λ made is. λ tables n. performs_skip tables cost e.next.value e.fail.value made.value
    (λ p levels m ys s. ap (λ x. flow p levels tables x m ys s) is ∙ flow_pay p levels tables m ys s cost c.in_ok-next.next
    ∙ ap (λ x. then_on (pays cost s) (flow p levels tables x m ys)) c.in_ok-next.ensures.cases) n)
    c.emit.ensures
