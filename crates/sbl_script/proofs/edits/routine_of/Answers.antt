use Rattle.std.proofs.Common.{Some, ap, sym, ◌∙◌, string_bytes}
use Rattle.sbl_ast.specs.View.{view_items, view_plain, view_row}
use Rattle.sbl_script.specs.Edits.{is_routine_named}
use Rattle.sbl_script.proofs.Agreement.{first_same}
use Rattle.sbl_script.proofs.Found.{no_other_routine, routine_found}
use Rattle.sbl_script.proofs.edits.routine_of.Goals as goal

pub returns-in-Routine : goal.returns-in-Routine
returns-in-Routine c =
    let b = view_row c.in-Routine.body in
    let p = is_routine_named c.args.name.now in
    let is = view_items c.args.items.now in
    first_same p is ∙ routine_found c.args.name.now is (string_bytes c.in-Routine.name) b.0 b.1 (sym (first_same p is) ∙ c.in_ok-body.ensures ∙ ap (λ x. Some (view_plain x)) c.in-Routine.is)

pub returns-in_default : goal.returns-in_default
returns-in_default c = absurd (no_other_routine c.args.name.now (view_items c.args.items.now) c.in_ok-body.field-0.now c.in_default.not-Routine (sym (first_same (is_routine_named c.args.name.now) (view_items c.args.items.now)) ∙ c.in_ok-body.ensures))
