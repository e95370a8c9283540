use Rattle.std.proofs.Common.{◌∙◌, [], ◌∷◌, ◌++◌, arith, map, ap}
use Rattle.std.specs.Prelude.{slice_set}
use Rattle.std.proofs.lemmas.List.{map-set}
use Rattle.sbl_machine.proofs.AmongLists.{row_is}
use Rattle.sbl_machine.proofs.among_list.add_at.Goals as goal

pub returns-clause-added : goal.returns-clause-added
returns-clause-added c =
    let rows = c.args.rows.now.items in
    let i = c.args.i in
    map-set (λ row. row.items) rows i _
    ∙ ap (slice_set (map (λ row. row.items) rows) i)
    (c.in_ok-push.ensures.items ∙ ap (λ row. row ++ c.args.number ∷ []) (row_is (λ row. row.items) rows i c.index_mut.result.now (omega arith) c.index_mut.ensures.value))
