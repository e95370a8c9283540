use Rattle.std.proofs.Common.{ℕ, List, map, inl, inr, subst}
use Rattle.std.proofs.lemmas.Result.{err_from_is_err_and}
use Rattle.std.specs.Str.{chars}
use Rattle.sbl_token.specs.declared.token.Token.{Token}
use Rattle.sbl_text.specs.Directives.{start}
use Rattle.sbl_text.specs.Tokens.{ArePlacedFrom, placed_of}
use Rattle.sbl_parser.specs.Reading.{IsReadAs}
use Rattle.sbl_ast.specs.Texts as texts
use Rattle.sbl_ast.specs.View.{view_items}
use Rattle.sbl_script.specs.Reading.{lexemes}
use Rattle.sbl_script.proofs.Places.{unread_bytes, unread_is_fault}
use Rattle.sbl_script.proofs.Spelled.{script_said}
use Rattle.sbl_script.proofs.script.Script.parse.Goals as goal

pub returns-in_err-text-clause-fault : goal.returns-in_err-text-clause-fault
returns-in_err-text-clause-fault c =
    let p = err_from_is_err_and c.from_residual.result c.from_residual.ensures.1 in
    rw (p.1, p.2) (inr (inl (c.in_err-text.ensures.fault start)))

pub returns-in_err-items-clause-fault : goal.returns-in_err-items-clause-fault
returns-in_err-items-clause-fault c =
    let p = err_from_is_err_and c.from_residual-in_err-items.result c.from_residual-in_err-items.ensures.1 in
    let text = c.in_ok-text.ensures.ok in
    let u = unread_bytes c.args.bytes.now c.in_ok-text.text.now _ c.in_ok-found.found.items c.in_err-items.field-0.0 text.0 c.deref.ensures.value text.1 text.2 c.in_ok-found.ensures.placed c.in_err-items.ensures.fault in
    rw (p.1, p.2) (unread_is_fault c.args.bytes.now c.args.external.now (map placed_of c.in_ok-found.found.items) c.in_err-items.field-0.0 u.0 u.1)

pub check_tree-requires-clause-spelled : goal.check_tree-requires-clause-spelled
check_tree-requires-clause-spelled c =
    let items = view_items c.in_ok-items.items.items in
    let ts = map placed_of c.in_ok-found.found.items in
    let text = c.in_ok-text.ensures.ok in
    let read = subst (λ (xs : List Token). IsReadAs texts.script (lexemes (map placed_of xs)) items) c.deref.ensures.value c.in_ok-items.ensures.tree in
    let cut = subst (λ (x : List ℕ). ArePlacedFrom start (chars x) ts) text.0 c.in_ok-found.ensures.placed in
    script_said c.args.bytes.now ts items (record { short = text.1; text = text.2; cut = cut }) read
