use Rattle.std.proofs.Common.{◌<◌, map, ap, ◌∙◌, length, refl, arith}
use Rattle.std.proofs.lemmas.List.{map-set, length-map}
use Rattle.sbl_run_state.specs.Marks.{mark_at, mark_in}
use Rattle.sbl_run_state.proofs.Marked.{row_is, same_row, mark_there}
use Rattle.sbl_run_state.proofs.touches.grow_in.Goals as goal

pub returns-clause-same : goal.returns-clause-same
returns-clause-same c j l =
    let rows = c.loop-alloc.rows.items in
    let i = c.args.i in
    let marks = map (λ row. row.items) rows in
    let there : i < length rows = omega arith in
    let row = row_is (λ row. row.items) rows i c.index_mut.result.now there c.index_mut.ensures.value in
    ap (λ ms. mark_in ms j l) (map-set (λ row. row.items) rows i _)
    ∙ same_row marks i _ j l _ refl (omega (arith, there, length-map rows (λ row. row.items))) (λ l. c.grow.ensures.same l ∙ ap (λ ms. mark_at ms l) row)
    ∙ c.loop-alloc.invariant j l

pub returns-clause-there : goal.returns-clause-there
returns-clause-there c =
    mark_there (λ row. row.items) c.grow.result c.loop-alloc.rows.items c.args.i c.args.k c.grow.new.marks (omega arith) c.grow.ensures.there
