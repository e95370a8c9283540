use Rattle.std.proofs.Common.{List, map, sym, subst, ap, ◌∙◌}
use Rattle.sbl_token.specs.declared.token.Token.{Token}
use Rattle.sbl_text.specs.Tokens.{placed_of}
use Rattle.sbl_ast.specs.declared.tree.ScriptItem.{ScriptItem as Item}
use Rattle.sbl_ast.specs.View.{view_items}
use Rattle.sbl_resolver.specs.Laws.{EachPasses}
use Rattle.sbl_resolver.specs.Occurrences.{occurrences_of}
use Rattle.sbl_resolver.specs.Subjects.{IsFirstAfter}
use Rattle.sbl_source_map.specs.SubjectTokens.{subject_tokens}
use Rattle.sbl_source_map.specs.Walks.{range_at}
use Rattle.sbl_source_map.proofs.NoPlaces.{cut_in, is_read, no_place_without_tokens, no_place_without_tree, no_place_without_fault, none_is_never, place_is}
use Rattle.sbl_source_map.proofs.fault_places.place_of_fault.Goals as goal

pub returns-in_default : goal.returns-in_default
returns-in_default c = λ f t h. (rw c.in_default.is at c.text_of.ensures) h.placed h.tokens

pub returns-in_default-2 : goal.returns-in_default-2
returns-in_default-2 c =
    let text = rw c.in-Some.is at c.text_of.ensures in
    no_place_without_tokens c.args.text.now c.in-Some.text.now text.0 (rw c.in_default-2.is at c.in_ok-tokens.ensures.placed)

pub returns-in_default-3 : goal.returns-in_default-3
returns-in_default-3 c =
    let text = rw c.in-Some.is at c.text_of.ensures in
    let cut = rw c.in-Some-2.is at c.in_ok-tokens.ensures.placed in
    no_place_without_tree c.tokens_are_one.ensures.places c.args.text.now (map placed_of c.deref.result.now)
    (cut_in c.args.text.now c.in-Some.text.now c.in-Some-2.tokens.items c.deref.result.now text.0 cut c.deref.ensures.value) (rw c.in_default-3.is at c.in_ok-items.ensures)

pub returns-in_default-4 : goal.returns-in_default-4
returns-in_default-4 c =
    let items = c.in-Some-3.items.items in
    let text = rw c.in-Some.is at c.text_of.ensures in
    let cut = rw c.in-Some-2.is at c.in_ok-tokens.ensures.placed in
    let tree = rw c.in-Some-3.is at c.in_ok-items.ensures in
    let passes = rw c.in_default-4.is at c.in_ok-number.ensures in
    no_place_without_fault c.tokens_are_one.ensures.places c.one_tree.ensures.text c.args.text.now (map placed_of c.deref.result.now) (view_items items)
    (is_read c.args.text.now c.in-Some.text.now c.in-Some-2.tokens.items c.deref.result.now (view_items items) text cut c.deref.ensures.value tree)
    (subst (λ (xs : List Item). EachPasses (occurrences_of (view_items xs))) c.deref-2.ensures.value passes)

pub returns-in-Some-5 : goal.returns-in-Some-5
returns-in-Some-5 c =
    let text = rw c.in-Some.is at c.text_of.ensures in
    let cut = rw c.in-Some-2.is at c.in_ok-tokens.ensures.placed in
    let tree = rw c.in-Some-3.is at c.in_ok-items.ensures in
    let first = rw c.in-Some-4.is at c.in_ok-number.ensures in
    let range = sym c.in-Some-5.is ∙ c.in_ok-begin.ensures in
    place_is c.args.text.now (map placed_of c.deref.result.now) (view_items c.in-Some-3.items.items) c.in-Some-4.number c.in-Some-5.begin c.in-Some-5.end c.in-Some-4.fault
    (is_read c.args.text.now c.in-Some.text.now c.in-Some-2.tokens.items c.deref.result.now (view_items c.in-Some-3.items.items) text cut c.deref.ensures.value tree)
    (subst (λ (xs : List Item). IsFirstAfter (occurrences_of (view_items xs)) c.in-Some-4.number c.in-Some-4.fault) c.deref-2.ensures.value first)
    (range ∙ ap (λ (xs : List Token). range_at c.in-Some-4.number (subject_tokens (map placed_of xs))) (c.deref-3.ensures.value ∙ sym c.deref.ensures.value))

pub returns : goal.returns
returns c =
    let text = rw c.in-Some.is at c.text_of.ensures in
    let cut = rw c.in-Some-2.is at c.in_ok-tokens.ensures.placed in
    let tree = rw c.in-Some-3.is at c.in_ok-items.ensures in
    let first = rw c.in-Some-4.is at c.in_ok-number.ensures in
    let range = sym c.in-None.is ∙ c.in_ok-begin.ensures in
    absurd
    (none_is_never c.args.text.now (map placed_of c.deref.result.now) (view_items c.in-Some-3.items.items) c.in-Some-4.number c.in-Some-4.fault
    (is_read c.args.text.now c.in-Some.text.now c.in-Some-2.tokens.items c.deref.result.now (view_items c.in-Some-3.items.items) text cut c.deref.ensures.value tree)
    (subst (λ (xs : List Item). IsFirstAfter (occurrences_of (view_items xs)) c.in-Some-4.number c.in-Some-4.fault) c.deref-2.ensures.value first)
    (range ∙ ap (λ (xs : List Token). range_at c.in-Some-4.number (subject_tokens (map placed_of xs))) (c.deref-3.ensures.value ∙ sym c.deref.ensures.value)))
