use Rattle.std.proofs.Common.{rules, refl, ◌≡◌, ◌⊎◌, List, [], None, Some, true, false, length, map, inr, sym, ap, subst, ◌∙◌}
use Rattle.std.proofs.lemmas.Result.{err_from_is_err_and}
use Rattle.sbl_text.specs.declared.fault.ScriptFault.TheVariants as fault
use Rattle.sbl_token.specs.declared.token.Token.{Token}
use Rattle.sbl_text.specs.Tokens.{placed_of}
use Rattle.sbl_tree_amongs.specs.Amongs.{AmongContents, amongs_of_body}
use Rattle.sbl_ast.specs.Places.{placed_plain, places, AreShallow}
use Rattle.sbl_parser.specs.Reading.{IsReadAs}
use Rattle.sbl_ast.specs.Texts as texts
use Rattle.sbl_ast.specs.Tree.{Item, Plain, routine}
use Rattle.sbl_ast.specs.View.{RowView, view_among, view_items, view_row}
use Rattle.sbl_resolver.specs.Checks.{fault_of}
use Rattle.sbl_script.specs.ParsedScript.{source_of}
use Rattle.sbl_script.specs.Reading.{IsUnread, first_left_out, lexemes}
use Rattle.sbl_script.specs.declared.edit_fault.EditFault.TheVariants as edits
use Rattle.sbl_ast.specs.NamedParts.{Among as among}
use Rattle.sbl_script.specs.Edits.{is_routine_named, items_with, first_of}
use Rattle.sbl_script.specs.Homes.{home_of_among, state_reached}
use Rattle.sbl_script.proofs.Agreement.{edited_out, fault_out, first_same, missing_out}
use Rattle.sbl_script.proofs.Editing as editing
use Rattle.sbl_script.specs.SpelledScript.{AreSpelled, IsSpelled}
use Rattle.sbl_script.proofs.Found.{same_name}
use Rattle.sbl_script.proofs.Shallow.{body_shallow, fits, routine_shallow}
use Rattle.sbl_script.proofs.Spelled.{among_said, read_said}
use Rattle.sbl_script.proofs.script.Script.with_among.Goals as goal

pub nth_among-requires : goal.nth_among-requires
nth_among-requires c =
    let items = (source_of c.args.self.now).items in
    let n = c.args.routine.now in
    let b = view_row c.in-Some.body.now in
    let seen : first_of (is_routine_named n) items ≡ Some (routine n b.0 b.1) = search rules in
    let found = sym (first_same (is_routine_named n) items) ∙ seen in
    let own : view_items c.self.inside.items.items ≡ items = search rules in
    body_shallow n items b (subst (λ (is : List Item). AreShallow (places is)) own c.self.invariant.1) found

pub returns-in_err-found-clause-fault : goal.returns-in_err-found-clause-fault
returns-in_err-found-clause-fault c =
    let p = err_from_is_err_and c.from_residual.result c.from_residual.ensures.1 in
    let s = source_of c.args.self.now in
    let n = c.args.routine.now in
    let k = c.args.k in
    let text = c.args.text.now in
    let b = view_row c.in-Some.body.now in
    let old = view_among c.in-Some-nth_among.replaced.now in
    let d : AmongContents = (c.in-Some-nth_among.depth, old.0, old.1) in
    let h = home_of_among s.items n b k d in
    let seen : first_of (is_routine_named n) s.items ≡ Some (routine n b.0 b.1) = search rules in
    let found = sym (first_same (is_routine_named n) s.items) ∙ seen in
    let there = editing.among_home s.items n k b d found c.in-Some-nth_among.ensures.held in
    rw p.1 (editing.told_as s (among n k) h text _ p.0 there p.2 (editing.text_told s h text _ c.in_err-found.ensures.fault))

pub returns-in_err-among-clause-fault : goal.returns-in_err-among-clause-fault
returns-in_err-among-clause-fault c =
    let p = err_from_is_err_and c.from_residual-in_err-among.result c.from_residual-in_err-among.ensures.1 in
    let s = source_of c.args.self.now in
    let n = c.args.routine.now in
    let k = c.args.k in
    let text = c.args.text.now in
    let b = view_row c.in-Some.body.now in
    let old = view_among c.in-Some-nth_among.replaced.now in
    let d : AmongContents = (c.in-Some-nth_among.depth, old.0, old.1) in
    let h = home_of_among s.items n b k d in
    let seen : first_of (is_routine_named n) s.items ≡ Some (routine n b.0 b.1) = search rules in
    let found = sym (first_same (is_routine_named n) s.items) ∙ seen in
    let there = editing.among_home s.items n k b d found c.in-Some-nth_among.ensures.held in
    let f = c.in_err-among.field-0.0 in
    let ts = map placed_of c.in_ok-found.found.items in
    let unread = subst (λ (xs : List Token). (f ≡ fault.OutOfMemory) ⊎ IsUnread (texts.among c.in-Some-nth_among.depth) (map placed_of xs) (length text) f) c.deref-2.ensures.value c.in_err-among.ensures.fault in
    rw p.1 (editing.told_as s (among n k) h text f p.0 there p.2 (editing.unread_told s h text ts f c.in_ok-found.ensures.tokens unread))

pub with_definition-requires-clause-same : goal.with_definition-requires-clause-same
with_definition-requires-clause-same c =
    subst (λ (y : Plain). is_routine_named c.args.routine.now y ≡ true) (sym c.in_ok-new.ensures) (same_name c.args.routine.now)

pub with_definition-requires-clause-shallow : goal.with_definition-requires-clause-shallow
with_definition-requires-clause-shallow c =
    let items = (source_of c.args.self.now).items in
    let n = c.args.routine.now in
    let b = view_row c.in-Some.body.now in
    let old = view_among c.in-Some-nth_among.replaced.now in
    let d : AmongContents = (c.in-Some-nth_among.depth, old.0, old.1) in
    let seen : first_of (is_routine_named n) items ≡ Some (routine n b.0 b.1) = search rules in
    let found = sym (first_same (is_routine_named n) items) ∙ seen in
    let own : view_items c.self.inside.items.items ≡ items = search rules in
    let shallow = body_shallow n items b (subst (λ (is : List Item). AreShallow (places is)) own c.self.invariant.1) found in
    let put = c.in_ok-body.ensures.shallow shallow (fits c.args.k (amongs_of_body b) d (view_among c.in_ok-among.among) c.in-Some-nth_among.ensures.held c.in_ok-among.ensures.tree.1) in
    subst (λ (y : Plain). AreShallow (placed_plain y [])) (sym c.in_ok-new.ensures) (routine_shallow n (view_row c.in_ok-body.body) put)

pub with_definition-requires-clause-spelled : goal.with_definition-requires-clause-spelled
with_definition-requires-clause-spelled c =
    let s = source_of c.args.self.now in
    let n = c.args.routine.now in
    let b = view_row c.in-Some.body.now in
    let x = view_among c.in_ok-among.among in
    let d = c.in-Some-nth_among.depth in
    let there = state_reached (is_routine_named n) s.items in
    let seen : first_of (is_routine_named n) s.items ≡ Some (routine n b.0 b.1) = search rules in
    let found = sym (first_same (is_routine_named n) s.items) ∙ seen in
    let own : view_items c.self.inside.items.items ≡ s.items = search rules in
    let read = subst (λ (xs : List Token). IsReadAs (texts.among d) (lexemes (map placed_of xs)) x) c.deref-2.ensures.value c.in_ok-among.ensures.tree in
    let said = read_said there c.args.text.now (map placed_of c.in_ok-found.found.items) (texts.among d) x c.in_ok-found.ensures.tokens read in
    let new = c.in_ok-new.ensures ∙ ap (λ (r : RowView). routine n r.0 r.1) c.in_ok-body.ensures.put in
    subst (IsSpelled there) (sym new) (among_said n s.items b c.args.k x d (subst AreSpelled own c.self.invariant.2) found said)

pub returns-in_err-script-clause-fault : goal.returns-in_err-script-clause-fault
returns-in_err-script-clause-fault c =
    let p = err_from_is_err_and c.from_residual-in_err-script.result c.from_residual-in_err-script.ensures.1 in
    let s = source_of c.args.self.now in
    let n = c.args.routine.now in
    let k = c.args.k in
    let text = c.args.text.now in
    let b = view_row c.in-Some.body.now in
    let old = view_among c.in-Some-nth_among.replaced.now in
    let d : AmongContents = (c.in-Some-nth_among.depth, old.0, old.1) in
    let h = home_of_among s.items n b k d in
    let seen : first_of (is_routine_named n) s.items ≡ Some (routine n b.0 b.1) = search rules in
    let found = sym (first_same (is_routine_named n) s.items) ∙ seen in
    let there = editing.among_home s.items n k b d found c.in-Some-nth_among.ensures.held in
    let ts = map placed_of c.in_ok-found.found.items in
    let x = view_among c.in_ok-among.among in
    let offered = subst (λ (xs : List Token). first_left_out (map placed_of xs) ≡ None) c.deref-2.ensures.value c.in_ok-among.ensures.offered in
    let read = subst (λ (xs : List Token). IsReadAs (texts.among c.in-Some-nth_among.depth) (lexemes (map placed_of xs)) x) c.deref-2.ensures.value c.in_ok-among.ensures.tree in
    let f = c.in_err-script.field-0.0 in
    let new = c.in_ok-new.ensures ∙ ap (λ (r : RowView). routine n r.0 r.1) c.in_ok-body.ensures.put in
    let failed = subst (λ (y : Plain). (f ≡ fault.OutOfMemory) ⊎ (fault_of (items_with (is_routine_named n) y s.items) s.external ≡ Some f)) new c.in_err-script.ensures.fault in
    rw p.1 (editing.told_as s (among n k) h text f p.0 there p.2 (editing.check_told s h text ts x f c.in_ok-found.ensures.tokens offered read failed))

pub returns-then-has_as_many_amongs-clause-script : goal.returns-then-has_as_many_amongs-clause-script
returns-then-has_as_many_amongs-clause-script c =
    let s = source_of c.args.self.now in
    let n = c.args.routine.now in
    let k = c.args.k in
    let text = c.args.text.now in
    let b = view_row c.in-Some.body.now in
    let old = view_among c.in-Some-nth_among.replaced.now in
    let d : AmongContents = (c.in-Some-nth_among.depth, old.0, old.1) in
    let h = home_of_among s.items n b k d in
    let seen : first_of (is_routine_named n) s.items ≡ Some (routine n b.0 b.1) = search rules in
    let found = sym (first_same (is_routine_named n) s.items) ∙ seen in
    let there = editing.among_home s.items n k b d found c.in-Some-nth_among.ensures.held in
    let ts = map placed_of c.in_ok-found.found.items in
    let x = view_among c.in_ok-among.among in
    let offered = subst (λ (xs : List Token). first_left_out (map placed_of xs) ≡ None) c.deref-2.ensures.value c.in_ok-among.ensures.offered in
    let read = subst (λ (xs : List Token). IsReadAs (texts.among c.in-Some-nth_among.depth) (lexemes (map placed_of xs)) x) c.deref-2.ensures.value c.in_ok-among.ensures.tree in
    let u = source_of c.in_ok-script.script in
    let new = c.in_ok-new.ensures ∙ ap (λ (r : RowView). routine n r.0 r.1) c.in_ok-body.ensures.put in
    let items = c.in_ok-script.ensures.items ∙ ap (λ (y : Plain). items_with (is_routine_named n) y s.items) new in
    let counted : h.keeps_count x ≡ true = search rules in
    edited_out s (among n k) text u (h, there, editing.substitution_of s u h text ts x true c.in_ok-found.ensures.tokens offered read items c.in_ok-script.ensures.external c.in_ok-script.ensures.well_declared counted)

pub returns-clause-fault : goal.returns-clause-fault
returns-clause-fault c =
    let s = source_of c.args.self.now in
    let n = c.args.routine.now in
    let k = c.args.k in
    let text = c.args.text.now in
    let b = view_row c.in-Some.body.now in
    let old = view_among c.in-Some-nth_among.replaced.now in
    let d : AmongContents = (c.in-Some-nth_among.depth, old.0, old.1) in
    let h = home_of_among s.items n b k d in
    let seen : first_of (is_routine_named n) s.items ≡ Some (routine n b.0 b.1) = search rules in
    let found = sym (first_same (is_routine_named n) s.items) ∙ seen in
    let there = editing.among_home s.items n k b d found c.in-Some-nth_among.ensures.held in
    let ts = map placed_of c.in_ok-found.found.items in
    let x = view_among c.in_ok-among.among in
    let offered = subst (λ (xs : List Token). first_left_out (map placed_of xs) ≡ None) c.deref-2.ensures.value c.in_ok-among.ensures.offered in
    let read = subst (λ (xs : List Token). IsReadAs (texts.among c.in-Some-nth_among.depth) (lexemes (map placed_of xs)) x) c.deref-2.ensures.value c.in_ok-among.ensures.tree in
    let u = source_of c.in_ok-script.script in
    let new = c.in_ok-new.ensures ∙ ap (λ (r : RowView). routine n r.0 r.1) c.in_ok-body.ensures.put in
    let items = c.in_ok-script.ensures.items ∙ ap (λ (y : Plain). items_with (is_routine_named n) y s.items) new in
    let counted : h.keeps_count x ≡ false = search rules in
    inr (fault_out s (among n k) text edits.AmongCount (h, there, u, editing.substitution_of s u h text ts x false c.in_ok-found.ensures.tokens offered read items c.in_ok-script.ensures.external c.in_ok-script.ensures.well_declared counted))

pub returns-in_err-found-clause-missing : goal.returns-in_err-found-clause-missing
returns-in_err-found-clause-missing c =
    let s = source_of c.args.self.now in
    let n = c.args.routine.now in
    let k = c.args.k in
    let b = view_row c.in-Some.body.now in
    let old = view_among c.in-Some-nth_among.replaced.now in
    let d : AmongContents = (c.in-Some-nth_among.depth, old.0, old.1) in
    let h = home_of_among s.items n b k d in
    let seen : first_of (is_routine_named n) s.items ≡ Some (routine n b.0 b.1) = search rules in
    let found = sym (first_same (is_routine_named n) s.items) ∙ seen in
    let there = editing.among_home s.items n k b d found c.in-Some-nth_among.ensures.held in
    λ f missing. editing.not_missing s.items (among n k) h _ there f missing

pub returns-in_err-among-clause-missing : goal.returns-in_err-among-clause-missing
returns-in_err-among-clause-missing c =
    let s = source_of c.args.self.now in
    let n = c.args.routine.now in
    let k = c.args.k in
    let b = view_row c.in-Some.body.now in
    let old = view_among c.in-Some-nth_among.replaced.now in
    let d : AmongContents = (c.in-Some-nth_among.depth, old.0, old.1) in
    let h = home_of_among s.items n b k d in
    let seen : first_of (is_routine_named n) s.items ≡ Some (routine n b.0 b.1) = search rules in
    let found = sym (first_same (is_routine_named n) s.items) ∙ seen in
    let there = editing.among_home s.items n k b d found c.in-Some-nth_among.ensures.held in
    λ f missing. editing.not_missing s.items (among n k) h _ there f missing

pub returns-in_err-body-clause-missing : goal.returns-in_err-body-clause-missing
returns-in_err-body-clause-missing c =
    let s = source_of c.args.self.now in
    let n = c.args.routine.now in
    let k = c.args.k in
    let b = view_row c.in-Some.body.now in
    let old = view_among c.in-Some-nth_among.replaced.now in
    let d : AmongContents = (c.in-Some-nth_among.depth, old.0, old.1) in
    let h = home_of_among s.items n b k d in
    let seen : first_of (is_routine_named n) s.items ≡ Some (routine n b.0 b.1) = search rules in
    let found = sym (first_same (is_routine_named n) s.items) ∙ seen in
    let there = editing.among_home s.items n k b d found c.in-Some-nth_among.ensures.held in
    λ f missing. editing.not_missing s.items (among n k) h _ there f missing

pub returns-in_err-new-clause-missing : goal.returns-in_err-new-clause-missing
returns-in_err-new-clause-missing c =
    let s = source_of c.args.self.now in
    let n = c.args.routine.now in
    let k = c.args.k in
    let b = view_row c.in-Some.body.now in
    let old = view_among c.in-Some-nth_among.replaced.now in
    let d : AmongContents = (c.in-Some-nth_among.depth, old.0, old.1) in
    let h = home_of_among s.items n b k d in
    let seen : first_of (is_routine_named n) s.items ≡ Some (routine n b.0 b.1) = search rules in
    let found = sym (first_same (is_routine_named n) s.items) ∙ seen in
    let there = editing.among_home s.items n k b d found c.in-Some-nth_among.ensures.held in
    λ f missing. editing.not_missing s.items (among n k) h _ there f missing

pub returns-in_err-script-clause-missing : goal.returns-in_err-script-clause-missing
returns-in_err-script-clause-missing c =
    let s = source_of c.args.self.now in
    let n = c.args.routine.now in
    let k = c.args.k in
    let b = view_row c.in-Some.body.now in
    let old = view_among c.in-Some-nth_among.replaced.now in
    let d : AmongContents = (c.in-Some-nth_among.depth, old.0, old.1) in
    let h = home_of_among s.items n b k d in
    let seen : first_of (is_routine_named n) s.items ≡ Some (routine n b.0 b.1) = search rules in
    let found = sym (first_same (is_routine_named n) s.items) ∙ seen in
    let there = editing.among_home s.items n k b d found c.in-Some-nth_among.ensures.held in
    λ f missing. editing.not_missing s.items (among n k) h _ there f missing

pub returns-then-has_as_many_amongs-clause-missing : goal.returns-then-has_as_many_amongs-clause-missing
returns-then-has_as_many_amongs-clause-missing c =
    let s = source_of c.args.self.now in
    let n = c.args.routine.now in
    let k = c.args.k in
    let b = view_row c.in-Some.body.now in
    let old = view_among c.in-Some-nth_among.replaced.now in
    let d : AmongContents = (c.in-Some-nth_among.depth, old.0, old.1) in
    let h = home_of_among s.items n b k d in
    let seen : first_of (is_routine_named n) s.items ≡ Some (routine n b.0 b.1) = search rules in
    let found = sym (first_same (is_routine_named n) s.items) ∙ seen in
    let there = editing.among_home s.items n k b d found c.in-Some-nth_among.ensures.held in
    λ f missing. editing.not_missing s.items (among n k) h _ there f missing

pub returns-clause-missing : goal.returns-clause-missing
returns-clause-missing c =
    let s = source_of c.args.self.now in
    let n = c.args.routine.now in
    let k = c.args.k in
    let b = view_row c.in-Some.body.now in
    let old = view_among c.in-Some-nth_among.replaced.now in
    let d : AmongContents = (c.in-Some-nth_among.depth, old.0, old.1) in
    let h = home_of_among s.items n b k d in
    let seen : first_of (is_routine_named n) s.items ≡ Some (routine n b.0 b.1) = search rules in
    let found = sym (first_same (is_routine_named n) s.items) ∙ seen in
    let there = editing.among_home s.items n k b d found c.in-Some-nth_among.ensures.held in
    λ f missing. editing.not_missing s.items (among n k) h _ there f missing

pub returns-in_default-nth_among-clause-fault : goal.returns-in_default-nth_among-clause-fault
returns-in_default-nth_among-clause-fault c =
    let s = source_of c.args.self.now in
    let n = c.args.routine.now in
    let b = view_row c.in-Some.body.now in
    let seen : first_of (is_routine_named n) s.items ≡ Some (routine n b.0 b.1) = search rules in
    let found = sym (first_same (is_routine_named n) s.items) ∙ seen in
    inr (missing_out s.items (among n c.args.k) edits.NoAmong (editing.no_among s.items n c.args.k b found (rw c.in_default-nth_among.is at c.nth_among.ensures.held)))

pub returns-in_default-nth_among-clause-missing : goal.returns-in_default-nth_among-clause-missing
returns-in_default-nth_among-clause-missing c =
    let s = source_of c.args.self.now in
    let n = c.args.routine.now in
    let b = view_row c.in-Some.body.now in
    let seen : first_of (is_routine_named n) s.items ≡ Some (routine n b.0 b.1) = search rules in
    let found = sym (first_same (is_routine_named n) s.items) ∙ seen in
    λ f missing. editing.missing_told s.items (among n c.args.k) edits.NoAmong _ (editing.no_among s.items n c.args.k b found (rw c.in_default-nth_among.is at c.nth_among.ensures.held)) refl f missing
