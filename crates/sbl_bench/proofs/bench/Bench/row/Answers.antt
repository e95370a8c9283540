use Rattle.std.proofs.Common.{◌∙◌, List, ℕ, Some, Option, slice_get, ap, sym}
use Rattle.std.specs.Option.{option_map}
use Rattle.std.proofs.lemmas.Option.{slice_get-map}
use Rattle.sbl_script.specs.ParsedScript.{source_of}
use Rattle.sbl_rows.specs.Setting.{under}
use Rattle.sbl_semantics.specs.declared.outcome.Outcome.{Outcome}
use Rattle.sbl_semantics.specs.Outcome.{outcome_of}
use Rattle.sbl_bench.specs.KeptRuns.{setting_of, KeptRuns}
use Rattle.sbl_rows.specs.Rows.{Row, rows_of}
use Rattle.sbl_last_runs.proofs.Entries.{row_shown, rows_shown}
use Rattle.sbl_bench.proofs.bench.Bench.row.Goals as goal

-- a word and its outcome, as a row
abbrev row_with : List ℕ → Outcome → Option Row
row_with w o = Some (record { word = w; outcome = outcome_of o })

pub returns : goal.returns
returns c =
    let es = c.self.inside.traces.entries in
    ap (λ (o : Outcome). row_with c.as_slice.result.now o) c.outcome.ensures
    ∙ ap (λ (w : List ℕ). row_with w c.in_ok-word.last.now.outcome) c.as_slice.ensures.value
    ∙ ap (option_map row_shown) c.in_ok-word.ensures.entry
    ∙ sym (slice_get-map row_shown es c.args.i)
    ∙ ap (λ (rows : List Row). slice_get rows c.args.i) (rows_shown (under (source_of c.self.inside.script) c.self.inside.limit) es c.self.invariant.1.fresh)
    ∙ ap (λ (k : KeptRuns). slice_get (rows_of (setting_of k) k.words) c.args.i) c.self.view_is
