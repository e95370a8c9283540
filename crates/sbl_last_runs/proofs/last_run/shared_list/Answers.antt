use Rattle.std.proofs.Common.{rules, ◌≡◌, ◌∙◌, ap, sym, IfOk}
use Rattle.sbl_last_runs.proofs.TouchFacts.{equal_lists, ok_more}
use Rattle.sbl_last_runs.proofs.last_run.shared_list.Goals as goal

pub returns-then-eq : goal.returns-then-eq
returns-then-eq c =
    let same = equal_lists c.as_slice.result.now c.args.touches.now c.eq.result c.eq.ensures c.if-eq.true (search rules) in
    let items : c.in-Some.list.now.value.items ≡ c.args.touches.now = ap (λ v. v.items) (sym c.deref.ensures) ∙ sym c.as_slice.ensures.value ∙ same in
    let copied : IfOk c.clone.result (λ copy. copy.value.items ≡ c.args.touches.now) = ok_more _ _ _ c.clone.result (λ copy is. ap (λ v. v.items) is ∙ items) c.clone.ensures.cases in
    rw c.in_ok-clone.was at copied
