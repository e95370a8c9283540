use Rattle.std.proofs.Common.{◌∙◌, [], ap, subst}
use Rattle.sbl_script.specs.ParsedScript.{source_of}
use Rattle.sbl_rows.specs.Setting.{under}
use Rattle.sbl_rows.specs.Classes.{classes_of, stem_pairs}
use Rattle.sbl_rows.specs.Grouping.{put_pairs}
use Rattle.sbl_bench.specs.KeptRuns.{setting_of, KeptRuns}
use Rattle.sbl_last_runs.specs.KeptEntries.{words_in}
use Rattle.sbl_last_runs.specs.Pairs.{IsIndexed}
use Rattle.sbl_rows.specs.Rows.{rows_of}
use Rattle.sbl_last_runs.proofs.ClassFacts.{kept_sorted}
use Rattle.sbl_rows.proofs.GroupFacts.{grouped_all}
use Rattle.sbl_rows.proofs.Ranging.{if_ok_weaker, own_keys}
use Rattle.sbl_bench.proofs.bench.Bench.classes.Goals as goal

pub returns-in-Some : goal.returns-in-Some
returns-in-Some c =
    let b = c.self.inside in
    let s = under (source_of b.script) b.limit in
    let set = c.in-Some.pairs in
    if_ok_weaker c.classes_among.result
    (λ classes is.
    is
    ∙ ap (put_pairs []) (kept_sorted s b.traces.entries set c.self.invariant.1.fresh c.words_are_unique.ensures (subst (IsIndexed b.traces.entries) c.in-Some.is c.self.invariant.2) c.classes_among.ensures.ordered (own_keys set))
    ∙ grouped_all (stem_pairs (rows_of s (words_in b.traces.entries)))
    ∙ ap (λ (k : KeptRuns). classes_of (rows_of (setting_of k) k.words)) c.self.view_is)
    c.classes_among.ensures.classes

pub returns-in_ok-pairs-in-None : goal.returns-in_ok-pairs-in-None
returns-in_ok-pairs-in-None c =
    let b = c.self.inside in
    let s = under (source_of b.script) b.limit in
    let set = c.in_ok-pairs-in-None.pairs in
    if_ok_weaker c.classes_among-in-None.result
    (λ classes is.
    is
    ∙ ap (put_pairs []) (kept_sorted s b.traces.entries set c.self.invariant.1.fresh c.words_are_unique.ensures c.in_ok-pairs-in-None.ensures c.classes_among-in-None.ensures.ordered (own_keys set))
    ∙ grouped_all (stem_pairs (rows_of s (words_in b.traces.entries)))
    ∙ ap (λ (k : KeptRuns). classes_of (rows_of (setting_of k) k.words)) c.self.view_is)
    c.classes_among-in-None.ensures.classes
