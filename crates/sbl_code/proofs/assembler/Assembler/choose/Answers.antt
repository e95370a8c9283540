use Rattle.std.proofs.Common.{sym, ap, subst, ◌∙◌, Vec, Global}
use Rattle.std.proofs.lemmas.Result.{IfOk-weaker}
use Rattle.sbl_code.specs.Flow.{flow}
use Rattle.sbl_code.specs.Performs.{ArePerformed}
use Rattle.sbl_code.specs.declared.instruction.GroupCode.{GroupCode}
use Rattle.sbl_code.proofs.Instructions.{flow_choose}
use Rattle.sbl_code.proofs.Performing.{choosing}
use Rattle.sbl_code.proofs.assembler.Assembler.choose.Goals as goal

pub returns : goal.returns
returns c =
    let o = c.in_ok-next.field-0 in
    IfOk-weaker c.emit.result _ _
    (λ made is. λ tables nodes n are.
    choosing tables c.args.cost c.args.among n c.args.exits.now nodes c.in_ok-bodies.bodies.value.items o.next.value o.fail.value made.value c.in_ok-next.ensures.0 c.in_ok-next.ensures.1
    (λ p levels m ys s. ap (λ i. flow p levels tables i m ys s) is ∙ flow_choose p levels tables m ys s c.args.cost c.args.among c.in_ok-bodies.bodies o.next o.fail) (subst (λ (gs : Vec GroupCode Global). ArePerformed tables nodes n c.args.exits.now gs.items) (sym c.in_ok-bodies.ensures.ok) are))
    c.emit.ensures
