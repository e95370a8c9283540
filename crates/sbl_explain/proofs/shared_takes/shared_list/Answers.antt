use Rattle.std.proofs.Common.{◌≡◌, ◌∙◌, ap, sym, IfOk}
use Rattle.sbl_last_runs.proofs.TouchFacts.{ok_more}
use Rattle.sbl_explain.specs.Kept.{Names, view_list}
use Rattle.sbl_explain.proofs.shared_takes.shared_list.Goals as goal

pub returns-then-have_same : goal.returns-then-have_same
returns-then-have_same c =
    let viewed : (names : Names) → view_list names c.in-Some.list.now.value.items ≡ view_list names c.args.other.now =
    λ names. ap (view_list names) (ap (λ v. v.items) (sym c.deref.ensures) ∙ sym c.as_slice.ensures.value) ∙ c.have_same.ensures c.if-have_same.true names in
    let copied : IfOk c.clone.result (λ copy. (names : Names) → view_list names copy.value.items ≡ view_list names c.args.other.now) =
    ok_more _ _ _ c.clone.result (λ copy is. λ names. ap (λ v. view_list names v.items) is ∙ viewed names) c.clone.ensures.cases in
    rw c.in_ok-clone.was at copied
