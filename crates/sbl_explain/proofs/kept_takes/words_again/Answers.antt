use Rattle.std.proofs.Common.{rules, ◌≡◌, Some, map}
use Rattle.sbl_rows.proofs.Ranging.{if_ok_weaker}
use Rattle.sbl_bench.specs.KeptRuns.{setting_of}
use Rattle.sbl_resolver.specs.Checks.{WellDeclared}
use Rattle.sbl_rows.specs.Setting.{under}
use Rattle.sbl_script.specs.ParsedScript.{source_of}
use Rattle.sbl_semantics.specs.Differs.{differs}
use Rattle.sbl_semantics.specs.TouchedItems.{item_of}
use Rattle.sbl_explain.specs.Kept.{HasItems, MissesIn, StayKept, is_one_of}
use Rattle.sbl_explain.proofs.KeptFacts.{some_weaker, stay_outside}
use Rattle.sbl_explain.proofs.kept_takes.words_again.Goals as goal

pub returns-in-Some : goal.returns-in-Some
returns-in-Some c =
    let bench = c.args.bench.now in
    let s = setting_of bench in
    let u = under (source_of c.args.run.now.script) c.args.run.now.limit in
    let items = c.deref.result.now in
    let well : WellDeclared s.script.items s.script.external = search rules in
    let limits : u.limit ≡ s.limit = search rules in
    let differ : differs s.script u.script ≡ Some (map item_of items) = search rules in
    let there : HasItems bench items = c.differing_agree.ensures.there s.script u.script (map item_of items) differ in
    if_ok_weaker c.words_meeting.result
    (λ found misses. some_weaker (MissesIn bench items) (StayKept bench u) (λ again m. stay_outside c.takes_stay.ensures.takes c.differing_agree.ensures.agree s u bench.words (map item_of items) (is_one_of again) well limits differ m) found misses)
    (c.words_meeting.ensures there)
