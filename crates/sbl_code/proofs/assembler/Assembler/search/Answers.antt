use Rattle.std.proofs.Common.{List, ap, ◌∙◌}
use Rattle.std.proofs.lemmas.Result.{IfOk-weaker}
use Rattle.sbl_program.specs.declared.node.Candidate.{Candidate}
use Rattle.sbl_program.specs.Rows.{pays}
use Rattle.sbl_program.specs.Run.{calls}
use Rattle.sbl_program.specs.Search.{search_all}
use Rattle.sbl_semantics.specs.Control.{pay_first}
use Rattle.sbl_semantics.specs.State.{after, then_on}
use Rattle.sbl_code.specs.Flow.{flow}
use Rattle.sbl_code.specs.declared.instruction.SearchSite.{SearchSite}
use Rattle.sbl_code.proofs.Instructions.{flow_search}
use Rattle.sbl_code.proofs.Performing.{emitted_at}
use Rattle.sbl_code.proofs.assembler.Assembler.search.Goals as goal

pub returns : goal.returns
returns c =
    let e = c.args.exits.now in
    let o = c.in_ok-next.field-0 in
    IfOk-weaker c.emit.result _ _
    (λ made is. λ tables n.
    emitted_at tables (λ p levels. pay_first (search_all (calls p levels) c.args.among c.args.entries.now (tables c.args.table))) c.args.cost o.next.value o.fail.value e.next.value e.fail.value made.value c.in_ok-next.ensures.0 c.in_ok-next.ensures.1
    (λ p levels m ys s.
    ap (λ i. flow p levels tables i m ys s) is
    ∙ flow_search p levels tables m ys s c.args.cost c.args.among c.in_ok-site.site o.next o.fail
    ∙ ap (λ (x : SearchSite). then_on (pays c.args.cost s) (λ u. after (pay_first (search_all (calls p levels) c.args.among x.entries.items (tables x.table)) m u) (flow p levels tables o.next.value m ys) (flow p levels tables o.fail.value m ys))) c.in_ok-site.ensures.ok
    ∙ ap (λ (xs : List Candidate). then_on (pays c.args.cost s) (λ u. after (pay_first (search_all (calls p levels) c.args.among xs (tables c.args.table)) m u) (flow p levels tables o.next.value m ys) (flow p levels tables o.fail.value m ys))) c.in_ok-entries.ensures.items) n)
    c.emit.ensures
