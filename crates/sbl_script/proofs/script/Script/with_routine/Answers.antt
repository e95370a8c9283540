use Rattle.std.proofs.Common.{rules, ◌≡◌, ◌⊎◌, [], Some, true, map, refl, sym, ap, subst, ◌∙◌}
use Rattle.sbl_text.specs.declared.fault.ScriptFault.TheVariants as fault
use Rattle.sbl_text.specs.Tokens.{placed_of}
use Rattle.sbl_ast.specs.Places.{placed_plain, AreShallow}
use Rattle.sbl_ast.specs.Texts as texts
use Rattle.sbl_ast.specs.Tree.{Plain, routine}
use Rattle.sbl_ast.specs.View.{view_items, view_row}
use Rattle.sbl_resolver.specs.Checks.{fault_of}
use Rattle.sbl_script.specs.ParsedScript.{source_of}
use Rattle.sbl_script.specs.SpelledScript.{AreSpelled, IsSpelled}
use Rattle.sbl_ast.specs.NamedParts.{Routine as body}
use Rattle.sbl_script.specs.Edits.{is_routine_named, items_with, first_of}
use Rattle.sbl_script.specs.Homes.{home_of_body}
use Rattle.sbl_script.proofs.Agreement.{first_same}
use Rattle.sbl_script.proofs.Editing.{body_there, check_refused, text_edited, text_refused, tree_of_same, unread_refused}
use Rattle.sbl_script.proofs.Found.{same_name}
use Rattle.sbl_script.proofs.Shallow.{routine_shallow}
use Rattle.sbl_script.proofs.Spelled.{body_said, read_said}
use Rattle.sbl_script.proofs.script.Script.with_routine.Goals as goal

pub returns-in_err-found-clause-fault : goal.returns-in_err-found-clause-fault
returns-in_err-found-clause-fault c =
    text_refused (source_of c.args.self.now) (body c.args.name.now) (home_of_body (source_of c.args.self.now).items c.args.name.now) c.args.text.now _ c.from_residual.result
    (body_there (source_of c.args.self.now).items c.args.name.now (view_row c.in-Some._replaced.now) (search rules)) c.from_residual.ensures.1 c.in_err-found.ensures.fault

pub returns-in_err-body-clause-fault : goal.returns-in_err-body-clause-fault
returns-in_err-body-clause-fault c =
    unread_refused (source_of c.args.self.now) (body c.args.name.now) (home_of_body (source_of c.args.self.now).items c.args.name.now) c.args.text.now _ c.in_ok-found.found.items _ c.from_residual-in_err-body.result c.deref-2.ensures.value
    (body_there (source_of c.args.self.now).items c.args.name.now (view_row c.in-Some._replaced.now) (search rules)) c.from_residual-in_err-body.ensures.1 c.in_ok-found.ensures.tokens c.in_err-body.ensures.fault

pub with_definition-requires-clause-same : goal.with_definition-requires-clause-same
with_definition-requires-clause-same c = subst (λ (y : Plain). is_routine_named c.args.name.now y ≡ true) (sym c.in_ok-new.ensures) (same_name c.args.name.now)

pub with_definition-requires-clause-shallow : goal.with_definition-requires-clause-shallow
with_definition-requires-clause-shallow c = subst (λ (y : Plain). AreShallow (placed_plain y [])) (sym c.in_ok-new.ensures) (routine_shallow c.args.name.now (view_row c.in_ok-body.body) c.in_ok-body.ensures.tree.1)

pub with_definition-requires-clause-spelled : goal.with_definition-requires-clause-spelled
with_definition-requires-clause-spelled c =
    let s = source_of c.args.self.now in
    let h = home_of_body s.items c.args.name.now in
    let b = view_row c.in-Some._replaced.now in
    let seen : first_of (is_routine_named c.args.name.now) s.items ≡ Some (routine c.args.name.now b.0 b.1) = search rules in
    let own : view_items c.self.inside.items.items ≡ s.items = search rules in
    let x = view_row c.in_ok-body.body in
    let tree = tree_of_same texts.body _ _ x c.deref-2.ensures.value c.in_ok-body.ensures.offered c.in_ok-body.ensures.tree in
    let said = read_said h.state c.args.text.now (map placed_of c.in_ok-found.found.items) texts.body x c.in_ok-found.ensures.tokens tree.1 in
    subst (IsSpelled h.state) (sym c.in_ok-new.ensures) (body_said c.args.name.now s.items b x (subst AreSpelled own c.self.invariant.2) (sym (first_same (is_routine_named c.args.name.now) s.items) ∙ seen) said)

pub returns-in_err-script-clause-fault : goal.returns-in_err-script-clause-fault
returns-in_err-script-clause-fault c =
    let s = source_of c.args.self.now in
    let h = home_of_body s.items c.args.name.now in
    let x = view_row c.in_ok-body.body in
    let f = c.in_err-script.field-0.0 in
    let failed = subst (λ (y : Plain). (f ≡ fault.OutOfMemory) ⊎ (fault_of (items_with (is_routine_named c.args.name.now) y s.items) s.external ≡ Some f)) c.in_ok-new.ensures c.in_err-script.ensures.fault in
    check_refused s (body c.args.name.now) h c.args.text.now c.in_ok-found.found.items x f c.from_residual-in_err-script.result
    (body_there (source_of c.args.self.now).items c.args.name.now (view_row c.in-Some._replaced.now) (search rules)) c.from_residual-in_err-script.ensures.1 c.in_ok-found.ensures.tokens
    (tree_of_same h.text _ _ x c.deref-2.ensures.value c.in_ok-body.ensures.offered c.in_ok-body.ensures.tree) failed

pub returns-clause-script : goal.returns-clause-script
returns-clause-script c =
    let s = source_of c.args.self.now in
    let h = home_of_body s.items c.args.name.now in
    let x = view_row c.in_ok-body.body in
    let items = c.in_ok-script.ensures.items ∙ ap (λ (y : Plain). items_with (is_routine_named c.args.name.now) y s.items) c.in_ok-new.ensures in
    text_edited s (source_of c.in_ok-script.script) (body c.args.name.now) h c.args.text.now c.in_ok-found.found.items x
    (body_there (source_of c.args.self.now).items c.args.name.now (view_row c.in-Some._replaced.now) (search rules)) c.in_ok-found.ensures.tokens
    (tree_of_same h.text _ _ x c.deref-2.ensures.value c.in_ok-body.ensures.offered c.in_ok-body.ensures.tree) items c.in_ok-script.ensures.external c.in_ok-script.ensures.well_declared refl
