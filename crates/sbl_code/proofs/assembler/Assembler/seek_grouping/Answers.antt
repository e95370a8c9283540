use Rattle.std.proofs.Common.{ap, ◌∙◌}
use Rattle.std.proofs.lemmas.Result.{IfOk-weaker}
use Rattle.sbl_program.specs.Terms.{class_at}
use Rattle.sbl_program.specs.Actions.{test_grouping}
use Rattle.sbl_semantics.specs.Control.{pay_first}
use Rattle.sbl_code.specs.Flow.{flow, seek_of}
use Rattle.sbl_code.proofs.Instructions.{flow_seek_grouping}
use Rattle.sbl_code.proofs.Performing.{emitted_at}
use Rattle.sbl_code.proofs.assembler.Assembler.seek_grouping.Goals as goal

pub returns : goal.returns
returns c =
    let e = c.args.exits.now in
    let o = c.in_ok-next.field-0 in
    IfOk-weaker c.emit.result _ _
    (λ made is. λ tables n.
    emitted_at tables (λ p levels. seek_of c.args.past (pay_first (test_grouping c.args.wanted (class_at p.groupings c.args.grouping) c.args.grouping))) c.args.cost o.next.value o.fail.value e.next.value e.fail.value made.value c.in_ok-next.ensures.0 c.in_ok-next.ensures.1
    (λ p levels m ys s. ap (λ i. flow p levels tables i m ys s) is ∙ flow_seek_grouping p levels tables m ys s c.args.cost c.args.past c.args.grouping c.args.wanted o.next o.fail) n)
    c.emit.ensures
