use Rattle.std.proofs.Common.{rules, ◌≡◌, List, ℕ, subst}
use Rattle.sbl_bench.specs.KeptRuns.{contents_of}
use Rattle.sbl_source_map.proofs.HeadFacts.{if_ok}
use Rattle.sbl_work.specs.FaultReplies.{IsFaultsText}
use Rattle.sbl_work.proofs.fault_replies.text_of_refused.Goals as goal

pub returns-in-Whole : goal.returns-in-Whole
returns-in-Whole c =
    let s = contents_of c.args.bench.now in
    let bytes = c.in-Whole.text.items in
    let same : c.external.result.now ≡ s.setting.script.external = search rules in
    rw c.in-Whole.is
    (if_ok c.script_faults.result c.script_faults.ensures
    (λ report h. subst (λ (e : List ℕ). IsFaultsText bytes e report.items) same (subst (λ (b : List ℕ). IsFaultsText b c.external.result.now report.items) c.deref.ensures.value h)))
