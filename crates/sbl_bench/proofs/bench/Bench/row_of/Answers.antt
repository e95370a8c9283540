use Rattle.std.proofs.Common.{◌∙◌, List, ℕ, Option, Some, ap, find}
use Rattle.std.specs.Str.{bytes_eq}
use Rattle.sbl_script.specs.ParsedScript.{source_of}
use Rattle.sbl_semantics.specs.declared.outcome.Outcome.{Outcome}
use Rattle.sbl_semantics.specs.Outcome.{outcome_of}
use Rattle.sbl_bench.specs.KeptRuns.{setting_of, KeptRuns}
use Rattle.sbl_rows.specs.Rows.{Row, rows_of}
use Rattle.sbl_rows.specs.Setting.{under}
use Rattle.sbl_last_runs.proofs.ClassFacts.{no_row, row_there}
use Rattle.sbl_bench.proofs.bench.Bench.row_of.Goals as goal

-- a word and its outcome, as a row
abbrev row_with : List ℕ → Outcome → Option Row
row_with w o = Some (record { word = w; outcome = outcome_of o })

pub returns-in-Some : goal.returns-in-Some
returns-in-Some c =
    let es = c.self.inside.traces.entries in
    ap (λ (o : Outcome). row_with c.as_slice.result.now o) c.outcome.ensures
    ∙ ap (λ (w : List ℕ). row_with w c.in-Some.last.now.outcome) c.as_slice.ensures.value
    ∙ row_there (under (source_of c.self.inside.script) c.self.inside.limit) c.args.word.now es c.in-Some.word.now c.in-Some.last.now c.self.invariant.1.fresh c.in-Some.ensures.key c.in-Some.ensures.value
    ∙ ap (λ (k : KeptRuns). find (λ (r : Row). bytes_eq c.args.word.now r.word) (rows_of (setting_of k) k.words)) c.self.view_is

pub returns-in-None : goal.returns-in-None
returns-in-None c =
    no_row (under (source_of c.self.inside.script) c.self.inside.limit) c.args.word.now c.self.inside.traces.entries c.self.invariant.1.fresh c.in-None.ensures.value
    ∙ ap (λ (k : KeptRuns). find (λ (r : Row). bytes_eq c.args.word.now r.word) (rows_of (setting_of k) k.words)) c.self.view_is
