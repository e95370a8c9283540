use Rattle.std.proofs.Common.{◌∙◌, List, ap, map}
use Rattle.sbl_script.specs.ParsedScript.{source_of}
use Rattle.sbl_rows.specs.Setting.{under}
use Rattle.sbl_bench.specs.KeptRuns.{setting_of, KeptRuns}
use Rattle.sbl_last_runs.specs.KeptEntries.{KeptWord}
use Rattle.sbl_rows.specs.Rows.{rows_of}
use Rattle.sbl_last_runs.proofs.Entries.{row_shown, rows_shown}
use Rattle.sbl_bench.proofs.bench.Bench.rows.Goals as goal

pub loop-word-init : goal.loop-word-init
loop-word-init c =
    let es = c.self.inside.traces.entries in
    rw c.in_ok-rows.ensures.items (
    ap (λ (l : List KeptWord). map row_shown l) (c.into_iter-word-iterator.ensures.into_iter_gives ∙ c.iter-word-items.ensures.rest)
    ∙ rows_shown (under (source_of c.self.inside.script) c.self.inside.limit) es c.self.invariant.1.fresh
    ∙ ap (λ (k : KeptRuns). rows_of (setting_of k) k.words) c.self.view_is)
