use Rattle.std.proofs.Common.{map, ap, length, ◌∙◌, arith}
use Rattle.std.specs.Prelude.{slice_set}
use Rattle.std.proofs.lemmas.List.{map-set}
use Rattle.sbl_run_state.proofs.Marked.{row_is}
use Rattle.sbl_run_state.proofs.touches.set_in.Goals as goal

pub set-requires : goal.set-requires
set-requires c =
    let rows = c.args.rows.now.items in
    let i = c.args.i in
    omega (arith, c.requires.in_row, ap length (row_is (λ row. row.items) rows i c.index_mut.result.now c.requires.there c.index_mut.ensures.value))

pub returns : goal.returns
returns c =
    let rows = c.args.rows.now.items in
    let i = c.args.i in
    map-set (λ row. row.items) rows i _ ∙ ap (slice_set (map (λ row. row.items) rows) i) (c.set.ensures ∙ ap (λ marks. slice_set marks c.args.k c.args.round) (row_is (λ row. row.items) rows i c.index_mut.result.now c.requires.there c.index_mut.ensures.value))
