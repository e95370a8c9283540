use Rattle.std.proofs.Common.{rules, ◌≡◌, [], Some}
use Rattle.sbl_bench.specs.KeptRuns.{setting_of}
use Rattle.sbl_resolver.specs.Checks.{WellDeclared}
use Rattle.sbl_rows.specs.Setting.{under}
use Rattle.sbl_script.specs.ParsedScript.{source_of}
use Rattle.sbl_semantics.specs.Differs.{differs}
use Rattle.sbl_explain.proofs.KeptFacts.{copy_keeps}
use Rattle.sbl_explain.proofs.kept_takes.KeptTakes.keep.Goals as goal

pub invariant_of-t-19 : goal.invariant_of-t-19
invariant_of-t-19 c =
    let s = setting_of c.args.bench.now in
    let u = under (source_of c.in-Some.script) c.limit.result in
    let well : WellDeclared s.script.items s.script.external = search rules in
    let differ : differs s.script u.script ≡ Some [] = search rules in
    record { kept = copy_keeps c.takes_stay.ensures.takes c.differing_agree.ensures.agree s u c.args.bench.now.words c.args.words.items well c.limit.ensures differ c.requires }
