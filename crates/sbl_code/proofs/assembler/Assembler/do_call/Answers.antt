use Rattle.std.proofs.Common.{false, refl, ap, ◌∙◌}
use Rattle.std.proofs.lemmas.Result.{IfOk-weaker}
use Rattle.sbl_program.specs.Rows.{pays}
use Rattle.sbl_program.specs.Run.{calls}
use Rattle.sbl_semantics.specs.Control.{pay_first}
use Rattle.sbl_semantics.specs.State.{State, Signals, after}
use Rattle.sbl_code.specs.Flow.{flow, do_of}
use Rattle.sbl_code.proofs.Endings.{after_same}
use Rattle.sbl_code.proofs.Instructions.{flow_do_call}
use Rattle.sbl_code.proofs.Performing.{emitted_at, do_passes}
use Rattle.sbl_code.proofs.assembler.Assembler.do_call.Goals as goal

pub returns : goal.returns
returns c =
    let e = c.args.exits.now in
    let o = c.in_ok-next.next in
    IfOk-weaker c.emit.result _ _
    (λ made is. λ tables n.
    emitted_at tables (λ p levels. pay_first (do_of (calls p levels c.args.routine))) c.args.cost o.value e.fail.value e.next.value e.fail.value made.value c.in_ok-next.ensures.cases refl
    (λ p levels m ys s.
    let w = λ (u : State). pay_first (do_of (calls p levels c.args.routine)) m u in
    ap (λ i. flow p levels tables i m ys s) is ∙ flow_do_call p levels tables m ys s c.args.cost c.args.routine o
    ∙ after_same (pays c.args.cost s) (λ u. after (w u) (flow p levels tables o.value m ys) (Signals false)) (Signals false) (λ u. after (w u) (flow p levels tables o.value m ys) (flow p levels tables e.fail.value m ys)) (Signals false)
    (λ u. do_passes (calls p levels c.args.routine) m u (flow p levels tables o.value m ys) (Signals false) (flow p levels tables e.fail.value m ys)) (λ u. refl)) n)
    c.emit.ensures
