use Rattle.std.proofs.Common.{◌≡◌, ◌++◌, map}
use Rattle.std.specs.List.{filter}
use Rattle.std.specs.Vec.Iter.{into_iter_items}
use Rattle.sbl_bench.specs.KeptRuns.{setting_of}
use Rattle.sbl_machine.specs.ItemRefs.{item_of_ref}
use Rattle.sbl_rows.specs.Rows.{Row, view_row}
use Rattle.sbl_explain.specs.Kept.{KeepsWords, has_taken}
use Rattle.sbl_explain.specs.UsableViews.{rows_for}
use Rattle.sbl_uses.specs.Used.{Entry, uses}
use Rattle.sbl_explain.specs.WhyRows.{routine_names}
use Rattle.sbl_explain.proofs.uses.rows_taking.Given as goal

-- the rows so far, and those still to come that pass; what is kept of the words still to come
abbrev pub invariant-loop-row : goal.invariant-loop-row
invariant-loop-row l =
    KeepsWords l.bench l.words
    → (map view_row l.rows.items ++ filter (λ (r : Row). uses (setting_of l.bench) r.word (Entry (item_of_ref l.among, l.string))) (map view_row (into_iter_items l.row-iterator)) ≡ rows_for l.bench (Entry (item_of_ref l.among, l.string)))
    × (map (has_taken (routine_names (setting_of l.bench)) (item_of_ref l.among, l.string)) l.rest ≡ map (λ (r : Row). uses (setting_of l.bench) r.word (Entry (item_of_ref l.among, l.string))) (map view_row (into_iter_items l.row-iterator)))
