use Rattle.std.proofs.Common.{◌∙◌, ◌++◌, List, ℕ, Option, map, ap}
use Rattle.std.specs.Option.{option_to_list}
use Rattle.sbl_last_runs.specs.declared.run_trace.RunTrace.{RunTrace}
use Rattle.sbl_rows.specs.ChangedRows.{view_changed_row}
use Rattle.sbl_last_runs.specs.Last.{changed_since}
use Rattle.sbl_last_runs.specs.Pairs.{find}
use Rattle.sbl_last_runs.proofs.RunsBefore.{last_step}
use Rattle.sbl_last_runs.proofs.changed_row.changes_of.Goals as goal

pub loop-change-preserved : goal.loop-change-preserved
loop-change-preserved c =
    let es = c.args.traces.now.entries in
    let change = c.change-item.result in
    let old = map view_changed_row c.loop-change.changes.items in
    last_step es c.args.last.now c.loop-change.change-index change change old (map view_changed_row c.push_changed.new.changes.items)
    _ c.loop-change-test.true c.change-item.is
    (c.in_ok-push_changed.ensures ∙ ap (λ (o : Option RunTrace). old ++ option_to_list (changed_since change o)) (c.get.ensures.value ∙ ap (λ (w : List ℕ). find w es) c.as_slice.ensures.value))
    c.loop-change.invariant
