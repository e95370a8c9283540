use Rattle.std.proofs.Common.{◌≡◌, ◌∙◌, ◌++◌, List, ap, map}
use Rattle.std.specs.List.{filter}
use Rattle.std.specs.Vec.Iter.{into_iter_items}
use Rattle.sbl_bench.specs.KeptRuns.{setting_of}
use Rattle.sbl_machine.specs.ItemRefs.{item_of_ref}
use Rattle.sbl_rows.specs.Rows.{Row, rows_of, view_row}
use Rattle.sbl_rows.specs.declared.row.Row as declared
use Rattle.sbl_uses.specs.Used.{Entry, Take, uses}
use Rattle.sbl_explain.proofs.KeptFacts.{rows_match}
use Rattle.sbl_explain.proofs.uses.rows_taking.Goals as goal

pub loop-row-init : goal.loop-row-init
loop-row-init c = λ keeps.
    let s = setting_of c.args.bench.now in
    let words = c.args.bench.now.words in
    let t : Take = (item_of_ref c.args.among.now, c.args.string.now) in
    let rows = into_iter_items c.into_iter-row-iterator.result in
    let are : map view_row rows ≡ rows_of s words = ap (λ (l : List declared.Row). map view_row l) c.into_iter-row-iterator.ensures.into_iter_gives.0 ∙ c.in_ok-row-items.ensures in (
      λ i. map view_row (c.new-rows.ensures.items i) ++ filter (λ (r : Row). uses s r.word (Entry t)) (are i),
      rows_match s words c.args.words.now t (map view_row rows) keeps are,
    )
