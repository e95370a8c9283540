use Rattle.std.proofs.Common.{ap, ◌∙◌}
use Rattle.std.proofs.lemmas.Result.{IfOk-weaker}
use Rattle.sbl_program.specs.Program as programs
use Rattle.sbl_program.specs.ProgramOf.{view_action}
use Rattle.sbl_program.specs.Actions.{acts}
use Rattle.sbl_semantics.specs.State.{after, then_on}
use Rattle.sbl_program.specs.Rows.{pays}
use Rattle.sbl_code.specs.Flow.{flow}
use Rattle.sbl_code.proofs.Instructions.{flow_act}
use Rattle.sbl_code.proofs.Performing.{emitted_at}
use Rattle.sbl_code.proofs.assembler.Assembler.act_any.Goals as goal

pub returns : goal.returns
returns c =
    let e = c.args.exits.now in
    let o = c.in_ok-next.field-0 in
    IfOk-weaker c.emit.result _ _
    (λ made is. λ tables n.
    emitted_at tables (λ p levels. acts p.groupings (view_action c.args.action.now)) c.args.cost o.next.value o.fail.value e.next.value e.fail.value made.value c.in_ok-next.ensures.0 c.in_ok-next.ensures.1
    (λ p levels m ys s. ap (λ i. flow p levels tables i m ys s) is ∙ flow_act p levels tables m ys s c.args.cost c.in_ok-action.action o.next o.fail ∙ ap (λ (a : programs.Action). then_on (pays c.args.cost s) (λ u. after (acts p.groupings a m u) (flow p levels tables o.next.value m ys) (flow p levels tables o.fail.value m ys))) (ap view_action c.in_ok-action.ensures.ok ∙ c.in_ok-copy.ensures)) n)
    c.emit.ensures
