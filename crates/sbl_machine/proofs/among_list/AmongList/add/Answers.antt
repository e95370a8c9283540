use Rattle.std.proofs.Common.{◌∙◌, ℕ, List, [], ◌∷◌, ◌++◌, arith, map, ap, refl}
use Rattle.std.specs.Prelude.{slice_index_or, slice_set}
use Rattle.std.proofs.lemmas.List.{length-map, map-append}
use Rattle.std.proofs.lemmas.Result.{on_ok_weaker}
use Rattle.sbl_machine.specs.AmongList.{AmongList', numbers_of, with_number}
use Rattle.sbl_machine.proofs.AmongLists.{number_new, number_put}
use Rattle.sbl_machine.proofs.among_list.AmongList.add.Goals as goal

pub returns-then-home-len : goal.returns-then-home-len
returns-then-home-len c n =
    let m = c.args.routine.now in
    let k = c.args.among in
    let rows = map (λ row. row.items) c.self.inside.numbers.items in
    let long = length-map c.self.inside.numbers.items (λ row. row.items) in
    let old : AmongList' = record { routines = c.self.inside.routines; numbers = rows } in
    let new : AmongList' = record { routines = c.self.inside.routines; numbers = map (λ row. row.items) c.add_at.new.rows.items } in
    on_ok_weaker c.add_at.result
    (λ e. number_put old new m n k (long ∙ c.self.invariant) (omega (arith, long, c.number_of-home.ensures, c.len.ensures)) refl
    (e ∙ ap (λ (i : ℕ). slice_set rows i (slice_index_or rows i [] ++ k ∷ [])) c.number_of-home.ensures) ∙ ap (λ (list : AmongList'). with_number m k n (numbers_of list n)) c.self.view_is)
    c.add_at.ensures.added

pub returns-in-Ok : goal.returns-in-Ok
returns-in-Ok c n =
    let m = c.args.routine.now in
    let k = c.args.among in
    let rows = map (λ row. row.items) c.self.inside.numbers.items in
    let long = length-map c.self.inside.numbers.items (λ row. row.items) in
    let old : AmongList' = record { routines = c.self.inside.routines; numbers = rows } in
    let new : AmongList' = record { routines = c.add.new.self; numbers = map (λ row. row.items) c.push-2.new.self.items } in
    number_new old new m n k (long ∙ c.self.invariant) (omega (arith, long, c.number_of-home.ensures, c.len.ensures)) c.in-Ok.ensures
    (ap (map (λ row. row.items)) c.in_ok-push-2.ensures.items ∙ map-append (λ row. row.items) c.self.inside.numbers.items _
    ∙ ap (λ (own : List ℕ). rows ++ own ∷ []) (c.in_ok-push.ensures.items ∙ ap (λ (own : List ℕ). own ++ k ∷ []) c.new-own.ensures.items))
    ∙ ap (λ (list : AmongList'). with_number m k n (numbers_of list n)) c.self.view_is
