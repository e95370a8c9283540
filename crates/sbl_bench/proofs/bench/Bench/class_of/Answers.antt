use Rattle.std.proofs.Common.{◌∙◌, List, ℕ, Some, None, ap, option_map, sym}
use Rattle.sbl_script.specs.ParsedScript.{source_of}
use Rattle.sbl_rows.specs.Setting.{under}
use Rattle.sbl_semantics.specs.declared.outcome.Outcome.{Outcome}
use Rattle.sbl_semantics.specs.Outcome.{outcome_of}
use Rattle.sbl_rows.specs.Classes.{class_of, class_with, in_order, stem_of}
use Rattle.sbl_rows.specs.inside.ClassParts.{words_with}
use Rattle.sbl_bench.specs.KeptRuns.{setting_of, KeptRuns}
use Rattle.sbl_last_runs.specs.KeptEntries.{words_in}
use Rattle.sbl_rows.specs.Rows.{rows_of}
use Rattle.sbl_last_runs.proofs.ClassFacts.{class_found}
use Rattle.sbl_bench.proofs.bench.Bench.class_of.Goals as goal

pub returns-in_ok-stem-in-Stem : goal.returns-in_ok-stem-in-Stem
returns-in_ok-stem-in-Stem c =
    let b = c.self.inside in
    let rows = rows_of (under (source_of b.script) b.limit) (words_in b.traces.entries) in
    let stem = c.in-Stem.stem.items in
    (λ i. Some (record {
      stem = (c.in_ok-stem-in-Stem.ensures.items ∙ c.as_slice-in-Stem.ensures.value) i;
      members = (c.in_ok-words-in-Stem.ensures (under (source_of b.script) b.limit) c.self.invariant.1.fresh ∙ ap (λ (s : List ℕ). in_order (words_with s rows)) c.as_slice.ensures.value) i;
    }))
    ∙ ap (λ (o : Outcome). option_map (class_with rows) (stem_of (outcome_of o))) (sym c.in-Stem.is ∙ c.outcome.ensures)
    ∙ class_found (under (source_of b.script) b.limit) b.traces.entries c.args.word.now c.self.invariant.1.fresh (Some c.in-Some.last.now) c.in-Some.ensures.value
    ∙ ap (λ (k : KeptRuns). class_of (rows_of (setting_of k) k.words) c.args.word.now) c.self.view_is

pub returns-in-Refused : goal.returns-in-Refused
returns-in-Refused c =
    let b = c.self.inside in
    ap (λ (o : Outcome). option_map (class_with (rows_of (under (source_of b.script) b.limit) (words_in b.traces.entries))) (stem_of (outcome_of o))) (sym c.in-Refused.is ∙ c.outcome.ensures)
    ∙ class_found (under (source_of b.script) b.limit) b.traces.entries c.args.word.now c.self.invariant.1.fresh (Some c.in-Some.last.now) c.in-Some.ensures.value
    ∙ ap (λ (k : KeptRuns). class_of (rows_of (setting_of k) k.words) c.args.word.now) c.self.view_is

pub returns-in_default : goal.returns-in_default
returns-in_default c =
    let b = c.self.inside in
    class_found (under (source_of b.script) b.limit) b.traces.entries c.args.word.now c.self.invariant.1.fresh None c.in_default.ensures.value
    ∙ ap (λ (k : KeptRuns). class_of (rows_of (setting_of k) k.words) c.args.word.now) c.self.view_is
