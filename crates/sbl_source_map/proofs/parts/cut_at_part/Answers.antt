use Rattle.std.proofs.Common.{rules, ◌≡◌, ℕ, List, None, Some, length, map, subst, sym}
use Rattle.std.specs.Str.{chars}
use Rattle.sbl_token.specs.declared.token.Token.{Token}
use Rattle.sbl_text.specs.Tokens.{ArePlaced, placed_of}
use Rattle.sbl_source_map.specs.PartTokens.{IsCutAtRange, part_tokens, range_of}
use Rattle.sbl_script.specs.Parts.{view_part}
use Rattle.sbl_source_map.specs.Walks.{InOrder}
use Rattle.sbl_source_map.proofs.PartFacts.{cut_at_found, not_cut, part_found_in_order}
use Rattle.sbl_source_map.proofs.parts.cut_at_part.Goals as goal

pub cut_at_tokens-requires : goal.cut_at_tokens-requires
cut_at_tokens-requires c =
    let ts = map placed_of c.deref.result.now in
    let found = map placed_of c.in-Some-part_tokens.found.now in
    let placed : ArePlaced (chars c.args.text.now) ts = subst (λ (xs : List Token). ArePlaced (chars c.args.text.now) (map placed_of xs)) (sym c.deref.ensures.value) (rw c.in-Some.is at c.in_ok-tokens.ensures.placed) in
    let is : Some found ≡ part_tokens (view_part c.args.part) ts = search rules in
    let bytes : c.as_bytes.result.now ≡ c.args.text.now = search rules in
    subst (λ (bs : List ℕ). InOrder 0 found (length bs)) (sym bytes) (part_found_in_order (view_part c.args.part) c.args.text.now ts found c.utf8.text placed is)

pub returns-in-Some-part_tokens-clause-part : goal.returns-in-Some-part_tokens-clause-part
returns-in-Some-part_tokens-clause-part c =
    let ts = map placed_of c.deref.result.now in
    let found = map placed_of c.in-Some-part_tokens.found.now in
    let placed : ArePlaced (chars c.args.text.now) ts = subst (λ (xs : List Token). ArePlaced (chars c.args.text.now) (map placed_of xs)) (sym c.deref.ensures.value) (rw c.in-Some.is at c.in_ok-tokens.ensures.placed) in
    let is : Some found ≡ part_tokens (view_part c.args.part) ts = search rules in
    let bytes : c.as_bytes.result.now ≡ c.args.text.now = search rules in
    cut_at_found (view_part c.args.part) c.args.text.now ts found c.cut_at_tokens.result placed is
    (subst (λ (bs : List ℕ). IsCutAtRange bs (range_of found) c.cut_at_tokens.result) bytes c.cut_at_tokens.ensures)

pub returns-clause-part : goal.returns-clause-part
returns-clause-part c =
    let ts = map placed_of c.deref.result.now in
    let placed : ArePlaced (chars c.args.text.now) ts = subst (λ (xs : List Token). ArePlaced (chars c.args.text.now) (map placed_of xs)) (sym c.deref.ensures.value) (rw c.in-Some.is at c.in_ok-tokens.ensures.placed) in
    let none : None ≡ part_tokens (view_part c.args.part) ts = search rules in
    not_cut (view_part c.args.part) c.args.text.now ts placed none
