use Rattle.std.proofs.Common.{◌≡◌, List, rules, subst, ℕ}
use Rattle.sbl_bench.specs.KeptRuns.{contents_of}
use Rattle.sbl_script.specs.Parts.{view_part}
use Rattle.sbl_source_map.proofs.HeadFacts.{if_ok}
use Rattle.sbl_source_map.specs.FaultLists.{AreFaultsOf}
use Rattle.sbl_work.proofs.FaultFacts.{typed_bytes, typed_text}
use Rattle.sbl_work.proofs.fault_replies.part_faults.Goals as goal

pub returns-in-Ok : goal.returns-in-Ok
returns-in-Ok c =
    if_ok c.typed_faults.result c.typed_faults.ensures
    (λ all h. typed_text (contents_of c.args.bench.now) (view_part c.args.part) c.in-Ok.text.now c.args.typed.now c.args.fault all.items c.in-Ok.ensures.cases.0 c.in-Ok.ensures.cases.1 h)

pub returns-in-Err : goal.returns-in-Err
returns-in-Err c =
    let same : c.external.result.now ≡ (contents_of c.args.bench.now).setting.script.external = search rules in
    if_ok c.faults_of_text.result c.faults_of_text.ensures
    (λ all h. typed_bytes (contents_of c.args.bench.now) (view_part c.args.part) c.args.typed.now c.args.fault all.items c.in-Err.ensures.cases.0
    (subst (λ (e : List ℕ). AreFaultsOf c.args.typed.now e all.items) same h))
