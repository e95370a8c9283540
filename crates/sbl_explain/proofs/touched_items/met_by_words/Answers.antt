use Rattle.std.proofs.Common.{◌∙◌, ap}
use Rattle.std.specs.List.{list_any}
use Rattle.sbl_bench.specs.KeptRuns.{setting_of}
use Rattle.sbl_machine.specs.BuiltFrom.{is_affected_by}
use Rattle.sbl_machine.specs.ItemRefs.{items_of_refs}
use Rattle.sbl_script.specs.ParsedScript.{ParsedScript, source_of}
use Rattle.sbl_uses.proofs.Unions.{met_words}
use Rattle.sbl_explain.proofs.touched_items.met_by_words.Goals as goal

pub returns : goal.returns
returns c = λ same x.
    let s = setting_of c.args.bench.now in
    c.in_ok-add_bases.ensures x
    ∙ ap (λ (p : ParsedScript). list_any (is_affected_by (source_of p) x) (items_of_refs c.in_ok-items.items)) c.script.ensures
    ∙ c.in_ok-items.ensures same (is_affected_by s.script x)
    ∙ met_words s x c.args.bench.now.words
