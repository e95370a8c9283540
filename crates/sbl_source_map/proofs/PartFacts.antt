-- The tokens of a part are tokens of the text, one after another, and their range is in the text.
use Rattle.std.proofs.Common.{◌≡◌, ◌∙◌, ◌≤◌, ◌<◌, ◌+◌, ◌-◌, ℕ, suc, Bool, true, false, ◌&&◌, List, [], ◌∷◌, Option, Some, None, length, drop, map, refl, sym, ap, subst, inl, arith}
use Rattle.std.specs.Prelude.{not, zero, if◌then◌else◌, nat_eq, nat_le, take, slice_get, option_and_then, IfSome}
use Rattle.std.proofs.lemmas.List.{length-map, take-map}
use Rattle.std.specs.Option.{option_map, option_or}
use Rattle.std.specs.Str.{bytes_eq, chars, IsUtf8}
use Rattle.std.proofs.lemmas.Str.{encodes-chars}
use Rattle.sbl_token.specs.declared.token.Token.{Token}
use Rattle.sbl_token.specs.Lexemes.{Lexeme}
use Rattle.sbl_text.specs.Directives.{Directives}
use Rattle.sbl_text.specs.Literals.{byte_length}
use Rattle.sbl_text.specs.Tokens.{AreCut, ArePlaced, Piece, PlacedToken, placed_from, placed_of}
use Rattle.sbl_text.specs.inside.TokenParts.{after_piece, put_placed}
use Rattle.sbl_text.proofs.Lists.{bytes_append}
use Rattle.sbl_ast.specs.NamedParts.{Part', Among as among, Routine as body, Grouping as terms}
use Rattle.sbl_source_map.specs.SubjectTokens.{is_among}
use Rattle.sbl_source_map.specs.declared.parts.Excerpt.{Excerpt}
use Rattle.sbl_source_map.specs.PartTokens.{IsCutAtPart, IsCutAtRange, after_first_head, after_head, closes, definition_tokens, depth_after, ends_item, from_among, is_as, is_define, last_end, part_tokens, range_of, until_closed, until_end}
use Rattle.sbl_source_map.specs.Walks.{InOrder}

-- ---- prefixes

pub until_end_prefix : (depth : ℕ) (ts : List PlacedToken) → take (length (until_end depth ts)) ts ≡ until_end depth ts
until_end_prefix depth [] = refl
until_end_prefix depth (t ∷ ts) = by (nat_eq depth 0 && ends_item t.lexeme) (until_end_prefix (depth_after t.lexeme depth) ts)
  where
    by : (b : Bool) → take (length (until_end (depth_after t.lexeme depth) ts)) ts ≡ until_end (depth_after t.lexeme depth) ts
        → take (length (if b then [] else t ∷ until_end (depth_after t.lexeme depth) ts)) (t ∷ ts) ≡ (if b then [] else t ∷ until_end (depth_after t.lexeme depth) ts)
    by true more = refl
    by false more = ap (λ (us : List PlacedToken). t ∷ us) more

pub until_closed_prefix : (depth : ℕ) (ts : List PlacedToken) → take (length (until_closed depth ts)) ts ≡ until_closed depth ts
until_closed_prefix depth [] = refl
until_closed_prefix depth (t ∷ ts) = by (closes t.lexeme && nat_le depth 1) (until_closed_prefix (depth_after t.lexeme depth) ts)
  where
    by : (b : Bool) → take (length (until_closed (depth_after t.lexeme depth) ts)) ts ≡ until_closed (depth_after t.lexeme depth) ts
        → take (length (t ∷ (if b then [] else until_closed (depth_after t.lexeme depth) ts))) (t ∷ ts) ≡ t ∷ (if b then [] else until_closed (depth_after t.lexeme depth) ts)
    by true more = refl
    by false more = ap (λ (us : List PlacedToken). t ∷ us) more

-- the first n tokens, if they are these
pub prefix_is : (ts : List Token) (us : List PlacedToken) (n : ℕ) → n ≡ length us → take (length us) (map placed_of ts) ≡ us
    → (n ≡ length (take n ts)) × (map placed_of (take n ts) ≡ us)
prefix_is ts us n e prefix =
    let same : map placed_of (take n ts) ≡ us = sym (take-map placed_of n ts) ∙ ap (λ (m : ℕ). take m (map placed_of ts)) e ∙ prefix in
    (e ∙ sym (ap length same) ∙ length-map (take n ts) placed_of, same)

-- ---- order

order_ends : (n : ℕ) (ts : List PlacedToken) (end : ℕ) → InOrder n ts end → n ≤ end
order_ends n [] end h = h
order_ends n (t ∷ ts) end h =
    let a = h.0 in
    let b = h.1 in
    let c = order_ends t.end ts end h.2 in omega (arith, a, b, c)

order_before : (n m : ℕ) (ts : List PlacedToken) (end : ℕ) → n ≤ m → InOrder m ts end → InOrder n ts end
order_before n m [] end le h = omega (arith, le, h)
order_before n m (t ∷ ts) end le h = let a = h.0 in (omega (arith, le, a), h.1, h.2)

order_after : (n : ℕ) (t : PlacedToken) (ts : List PlacedToken) (end : ℕ) → InOrder n (t ∷ ts) end → InOrder n ts end
order_after n t ts end h =
    let a = h.0 in
    let b = h.1 in order_before n t.end ts end (omega (arith, a, b)) h.2

end_in_order : (depth n : ℕ) (ts : List PlacedToken) (end : ℕ) → InOrder n ts end → InOrder n (until_end depth ts) end
end_in_order depth n [] end h = h
end_in_order depth n (t ∷ ts) end h = by (nat_eq depth 0 && ends_item t.lexeme) (end_in_order (depth_after t.lexeme depth) t.end ts end h.2)
  where
    by : (b : Bool) → InOrder t.end (until_end (depth_after t.lexeme depth) ts) end → InOrder n (if b then [] else t ∷ until_end (depth_after t.lexeme depth) ts) end
    by true more = order_ends n (t ∷ ts) end h
    by false more = (h.0, h.1, more)

closed_in_order : (depth n : ℕ) (ts : List PlacedToken) (end : ℕ) → InOrder n ts end → InOrder n (until_closed depth ts) end
closed_in_order depth n [] end h = h
closed_in_order depth n (t ∷ ts) end h = by (closes t.lexeme && nat_le depth 1) (closed_in_order (depth_after t.lexeme depth) t.end ts end h.2)
  where
    by : (b : Bool) → InOrder t.end (until_closed (depth_after t.lexeme depth) ts) end → InOrder n (t ∷ (if b then [] else until_closed (depth_after t.lexeme depth) ts)) end
    by true more = (h.0, h.1, order_ends t.end ts end h.2)
    by false more = (h.0, h.1, more)

-- what may be there is in order
abbrev MayBeInOrder : ℕ → Option (List PlacedToken) → ℕ → Type 0
MayBeInOrder n o end = IfSome o (λ ts. InOrder n ts end)

if_in_order : (b : Bool) (n : ℕ) (ts : List PlacedToken) (end : ℕ) → InOrder n ts end → MayBeInOrder n (if b then Some ts else None) end
if_in_order true n ts end h = h
if_in_order false n ts end h = tt

head_in_order : (r : Bool) (name : List ℕ) (n : ℕ) (ts : List PlacedToken) (end : ℕ) → InOrder n ts end → MayBeInOrder n (after_head r name ts) end
head_in_order true name n [] end h = tt
head_in_order true name n (d ∷ []) end h = tt
head_in_order true name n (d ∷ x ∷ []) end h = tt
head_in_order true name n (d ∷ x ∷ a ∷ ts) end h =
    if_in_order (is_define d.lexeme && (bytes_eq x.text name && is_as a.lexeme)) n ts end
    (order_after n a ts end (order_after n x (a ∷ ts) end (order_after n d (x ∷ a ∷ ts) end h)))
head_in_order false name n [] end h = tt
head_in_order false name n (d ∷ []) end h = tt
head_in_order false name n (d ∷ x ∷ []) end h = tt
head_in_order false name n (d ∷ x ∷ t ∷ ts) end h =
    if_in_order (is_define d.lexeme && (bytes_eq x.text name && not (is_as t.lexeme))) n (t ∷ ts) end
    (order_after n x (t ∷ ts) end (order_after n d (x ∷ t ∷ ts) end h))

or_in_order : (n : ℕ) (o p : Option (List PlacedToken)) (end : ℕ) → MayBeInOrder n o end → MayBeInOrder n p end → MayBeInOrder n (option_or o p) end
or_in_order n None p end a b = b
or_in_order n (Some ts) p end a b = a

first_head_in_order : (r : Bool) (name : List ℕ) (n : ℕ) (ts : List PlacedToken) (end : ℕ) → InOrder n ts end → MayBeInOrder n (after_first_head r name ts) end
first_head_in_order r name n [] end h = tt
first_head_in_order r name n (t ∷ ts) end h =
    or_in_order n (after_head r name (t ∷ ts)) (after_first_head r name ts) end (head_in_order r name n (t ∷ ts) end h)
    (first_head_in_order r name n ts end (order_after n t ts end h))

map_in_order : (f : List PlacedToken → List PlacedToken) (n : ℕ) (o : Option (List PlacedToken)) (end : ℕ) → ((ts : List PlacedToken) → InOrder n ts end → InOrder n (f ts) end)
    → MayBeInOrder n o end → MayBeInOrder n (option_map f o) end
map_in_order f n None end k h = tt
map_in_order f n (Some ts) end k h = k ts h

definition_in_order : (r : Bool) (name : List ℕ) (n : ℕ) (ts : List PlacedToken) (end : ℕ) → InOrder n ts end → MayBeInOrder n (definition_tokens r name ts) end
definition_in_order r name n ts end h = map_in_order (until_end 0) n (after_first_head r name ts) end (λ us. end_in_order 0 n us end) (first_head_in_order r name n ts end h)

among_in_order : (k n : ℕ) (ts : List PlacedToken) (end : ℕ) → InOrder n ts end → MayBeInOrder n (from_among k ts) end
among_in_order k n [] end h = tt
among_in_order k n (t ∷ ts) end h =
    let more = order_after n t ts end h in by (is_among t.lexeme) (nat_eq k 1) (among_in_order (k - 1) n ts end more) (among_in_order k n ts end more)
  where
    by : (b d : Bool) → MayBeInOrder n (from_among (k - 1) ts) end → MayBeInOrder n (from_among k ts) end
        → MayBeInOrder n (if b then (if d then Some (t ∷ ts) else from_among (k - 1) ts) else from_among k ts) end
    by true true fewer same = h
    by true false fewer same = fewer
    by false d fewer same = same

then_in_order : (f : List PlacedToken → Option (List PlacedToken)) (n : ℕ) (o : Option (List PlacedToken)) (end : ℕ)
    → ((ts : List PlacedToken) → InOrder n ts end → MayBeInOrder n (f ts) end) → MayBeInOrder n o end → MayBeInOrder n (option_and_then f o) end
then_in_order f n None end k h = tt
then_in_order f n (Some ts) end k h = k ts h

pub part_in_order : (what : Part') (n : ℕ) (ts : List PlacedToken) (end : ℕ) → InOrder n ts end → MayBeInOrder n (part_tokens what ts) end
part_in_order (body name) n ts end h = definition_in_order true name n ts end h
part_in_order (among name k) n ts end h =
    then_in_order (λ us. option_map (until_closed 0) (from_among k us)) n (definition_tokens true name ts) end
    (λ us more. map_in_order (until_closed 0) n (from_among k us) end (λ vs. closed_in_order 0 n vs end) (among_in_order k n us end more))
    (definition_in_order true name n ts end h)
part_in_order (terms name) n ts end h = definition_in_order false name n ts end h

-- ---- the tokens of a text

put_in_order : (n : ℕ) (x : List ℕ) (o : Option Lexeme) (ts : List PlacedToken) (end : ℕ) → InOrder (n + byte_length x) ts end → InOrder n (put_placed n x o ts) end
put_in_order n x None ts end h = order_before n (n + byte_length x) ts end (omega arith) h
put_in_order n x (Some l) ts end h = (omega arith, omega arith, h)

cut_in_order : (s t : Directives) (text rest : List ℕ) (ps : List Piece) (n end : ℕ) → AreCut s text ps t rest → n + byte_length text ≤ end → InOrder n (placed_from n ps) end
cut_in_order s t text rest [] n end c le = omega (arith, le)
cut_in_order s t text rest (p ∷ ps) n end c le =
    let b : byte_length text ≡ byte_length p.text + byte_length c.0 = ap byte_length c.1 ∙ bytes_append p.text c.0 in
    put_in_order n p.text p.lexeme (placed_from (n + byte_length p.text) ps) end
    (cut_in_order (after_piece s p.lexeme) t c.0 rest ps (n + byte_length p.text) end c.4 (omega (arith, b, le)))

pub text_in_order : (text : List ℕ) (ts : List PlacedToken) → IsUtf8 text → ArePlaced (chars text) ts → InOrder 0 ts (length text)
text_in_order text ts utf8 h =
    let e : byte_length (chars text) ≡ length text = ap length (encodes-chars text utf8) in
    subst (λ (us : List PlacedToken). InOrder 0 us (length text)) (sym h.4) (cut_in_order _ h.1 (chars text) [] h.0 0 (length text) h.2 (omega (arith, e)))

-- ---- the range

pub last_in_order : (n : ℕ) (t : PlacedToken) (ts : List PlacedToken) (end : ℕ) → InOrder n (t ∷ ts) end → (t.start ≤ last_end t ts) × (last_end t ts ≤ end)
last_in_order n t [] end h = (h.1, h.2)
last_in_order n t (u ∷ us) end h =
    let a = h.1 in
    let b = h.2.0 in
    let c = last_in_order t.end u us end h.2 in
    let d = c.0 in (omega (arith, a, b, d), c.1)

some_same : (t u : Token) → Some t ≡ Some u → t ≡ u
some_same t u e = cc

-- where the last token ends, by its place in the list
pub last_end_some : (t : PlacedToken) (us : List Token) (w : Token) → slice_get us (length us - 1) ≡ Some w → last_end t (map placed_of us) ≡ w.end
last_end_some t [] w e = absurd cc
last_end_some t (u ∷ []) w e = ap (λ (v : Token). v.end) (some_same u w e)
last_end_some t (u ∷ v ∷ vs) w e =
    let n : suc (length (v ∷ vs) - 1) ≡ length (u ∷ v ∷ vs) - 1 = omega arith in
    last_end_some (placed_of u) (v ∷ vs) w (ap (slice_get (u ∷ v ∷ vs)) n ∙ e)

-- the range of tokens of a text is in the text
pub range_in_order : (ts : List Token) (t : Token) (end : ℕ) → InOrder 0 (map placed_of ts) end → slice_get ts 0 ≡ Some t
    → (t.start ≤ last_end (placed_of t) (map placed_of (drop 1 ts))) × (last_end (placed_of t) (map placed_of (drop 1 ts)) ≤ end)
range_in_order [] t end h e = absurd cc
range_in_order (u ∷ ts) t end h e =
    subst (λ (v : Token). (v.start ≤ last_end (placed_of v) (map placed_of ts)) × (last_end (placed_of v) (map placed_of ts) ≤ end)) (some_same u t e)
    (last_in_order 0 (placed_of u) (map placed_of ts) end h)

-- the same for the number at which they end
pub ends_in_order : (ts : List Token) (t : Token) (us : List Token) (n end : ℕ) → InOrder 0 (map placed_of ts) end → slice_get ts 0 ≡ Some t
    → us ≡ drop 1 ts → n ≡ last_end (placed_of t) (map placed_of us) → (t.start ≤ n) × (n ≤ end)
ends_in_order ts t us n end h e others is =
    let last : n ≡ last_end (placed_of t) (map placed_of (drop 1 ts)) = is ∙ ap (λ (vs : List Token). last_end (placed_of t) (map placed_of vs)) others in
    subst (λ (m : ℕ). (t.start ≤ m) × (m ≤ end)) (sym last) (range_in_order ts t end h e)

-- ---- the text cut at a part

pub part_found_in_order : (what : Part') (text : List ℕ) (ts found : List PlacedToken) → IsUtf8 text → ArePlaced (chars text) ts → Some found ≡ part_tokens what ts → InOrder 0 found (length text)
part_found_in_order what text ts found utf8 placed e =
    subst (λ (o : Option (List PlacedToken)). MayBeInOrder 0 o (length text)) (sym e) (part_in_order what 0 ts (length text) (text_in_order text ts utf8 placed))

pub cut_at_found : (what : Part') (text : List ℕ) (ts found : List PlacedToken) (cut : Option Excerpt) → ArePlaced (chars text) ts → Some found ≡ part_tokens what ts
    → IsCutAtRange text (range_of found) cut → IsCutAtPart what text cut
cut_at_found what text ts found cut placed e h = inl (ts, placed, subst (λ (o : Option (List PlacedToken)). IsCutAtRange text (option_and_then range_of o) cut) e h)

pub not_cut : (what : Part') (text : List ℕ) (ts : List PlacedToken) → ArePlaced (chars text) ts → None ≡ part_tokens what ts → IsCutAtPart what text None
not_cut what text ts placed e = inl (ts, placed, subst (λ (o : Option (List PlacedToken)). IsCutAtRange text (option_and_then range_of o) None) e refl)

-- ---- one token after another

head_after : (r : Bool) (name : List ℕ) (ts : List Token) (i : ℕ) → i < length ts → after_head r name (map placed_of (drop i ts)) ≡ None
    → after_first_head r name (map placed_of (drop (suc i) ts)) ≡ after_first_head r name (map placed_of (drop i ts))
head_after r name [] i lt e = absurd (omega (arith, lt))
head_after r name (t ∷ ts) zero lt e = sym (ap (λ (o : Option (List PlacedToken)). option_or o (after_first_head r name (map placed_of ts))) e)
head_after r name (t ∷ ts) (suc i) lt e = head_after r name ts i (omega (arith, lt)) e

-- the head does not begin at this token
pub past_other : (r : Bool) (name : List ℕ) (ts : List Token) (i : ℕ) → i < length ts → after_head r name (map placed_of (drop i ts)) ≡ None
    → after_first_head r name (map placed_of (drop (i + 1) ts)) ≡ after_first_head r name (map placed_of (drop i ts))
past_other r name ts i lt e =
    let next : i + 1 ≡ suc i = omega arith in
    ap (λ (n : ℕ). after_first_head r name (map placed_of (drop n ts))) next ∙ head_after r name ts i lt e
