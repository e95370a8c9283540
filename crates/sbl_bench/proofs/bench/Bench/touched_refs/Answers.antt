use Rattle.std.proofs.Common.{◌∙◌, List, ap}
use Rattle.sbl_semantics.specs.TouchedItems.{items_of, names_of}
use Rattle.sbl_semantics.specs.declared.touch.Touch.{Touch}
use Rattle.sbl_script.specs.ParsedScript.{source_of}
use Rattle.sbl_machine.specs.ItemRefs.{items_of_refs}
use Rattle.sbl_bench.specs.KeptRuns.{KeptRuns, setting_of}
use Rattle.sbl_rows.specs.Setting.{under}
use Rattle.sbl_bench.specs.Traces.{trace_of}
use Rattle.sbl_bench.proofs.Tracing.{no_trace, not_absent, trace_found}
use Rattle.sbl_bench.proofs.bench.Bench.touched_refs.Goals as goal

pub returns-in_default-clause-touched : goal.returns-in_default-clause-touched
returns-in_default-clause-touched c =
    let b = c.self.inside in
    no_trace (under (source_of b.script) b.limit) c.args.word.now b.traces.entries c.in_default.ensures.value
    ∙ ap (λ (k : KeptRuns). trace_of (setting_of k) k.words c.args.word.now) c.self.view_is

pub returns-in-Ok-clause-touched : goal.returns-in-Ok-clause-touched
returns-in-Ok-clause-touched c =
    let b = c.self.inside in
    let script = source_of b.script in
    trace_found (under script b.limit) c.args.word.now b.traces.entries c.in-Some.last.now (items_of_refs c.in-Ok.items) c.self.invariant.1.fresh c.in-Some.ensures.value
    (c.in-Ok.ensures script c.self.invariant.0 ∙ ap (λ (ts : List Touch). items_of (names_of script) ts) c.touches.ensures)
    ∙ ap (λ (k : KeptRuns). trace_of (setting_of k) k.words c.args.word.now) c.self.view_is

pub returns-in-Ok-clause-absent : goal.returns-in-Ok-clause-absent
returns-in-Ok-clause-absent c = λ absent.
    absurd (not_absent c.args.word.now c.self.inside.traces.entries c.in-Some.last.now c.args.self.now.words c.in-Some.ensures.value (ap (λ (k : KeptRuns). k.words) c.self.view_is) absent)

pub returns-in-Err-clause-absent : goal.returns-in-Err-clause-absent
returns-in-Err-clause-absent c = λ absent.
    absurd (not_absent c.args.word.now c.self.inside.traces.entries c.in-Some.last.now c.args.self.now.words c.in-Some.ensures.value (ap (λ (k : KeptRuns). k.words) c.self.view_is) absent)
