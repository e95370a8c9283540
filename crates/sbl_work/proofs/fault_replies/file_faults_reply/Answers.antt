use Rattle.std.proofs.Common.{◌≡◌, rules, Option, List, ℕ, Some, subst, sym}
use Rattle.std.specs.Borrow.{Bor}
use Rattle.sbl_bench.specs.KeptRuns.{contents_of}
use Rattle.sbl_source_map.proofs.HeadFacts.{if_ok}
use Rattle.sbl_work.specs.Commands.{FaultsOf, with_file}
use Rattle.sbl_work.specs.FaultReplies.{IsFaultsText}
use Rattle.sbl_work.specs.ReplyViews.{IsWorkAnswer, view_file}
use Rattle.sbl_work.proofs.FaultFacts.{rows_reply}
use Rattle.sbl_work.proofs.fault_replies.file_faults_reply.Goals as goal

pub returns-in-Some : goal.returns-in-Some
returns-in-Some c = λ d.
    let s = contents_of c.args.bench.now in
    let is : c.args.file ≡ Some c.in-Some.bytes = search rules in
    let same : c.external.result.now ≡ s.setting.script.external = search rules in
    subst (λ (f : Option (Bor (List ℕ))). IsWorkAnswer s d (with_file FaultsOf (view_file f)) c.report.result s d) (sym is)
    (rows_reply (IsFaultsText c.in-Some.bytes.now s.setting.script.external) s d c.script_faults.result c.report.result
    (if_ok c.script_faults.result c.script_faults.ensures (λ report h. subst (λ (e : List ℕ). IsFaultsText c.in-Some.bytes.now e report.items) same h))
    c.report.ensures.made c.report.ensures.refused)
