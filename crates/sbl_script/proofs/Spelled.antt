-- What a text can say, item by item, and with another definition in the place of one.
use Rattle.std.proofs.Common.{◌≡◌, ℕ, ◌+◌, Bool, true, false, List, [], ◌∷◌, ◌++◌, map, Option, Some, None, if◌then◌else◌, refl, sym, ap, subst, ◌∙◌}
use Rattle.std.specs.Prelude.{◌||◌}
use Rattle.std.specs.List.{list_any}
use Rattle.std.specs.Option.{option_or}
use Rattle.sbl_text.specs.Escapes.{InForce, nothing_set}
use Rattle.sbl_token.specs.Lexemes.{Lexeme}
use Rattle.sbl_text.specs.Directives.{Directives, after, start}
use Rattle.sbl_text.specs.inside.DirectiveParts.{no_directive}
use Rattle.sbl_text.specs.Literals.{byte_length}
use Rattle.sbl_text.specs.Tokens.{PlacedToken, Piece, MayEnd, placed_from, piece_lexemes}
use Rattle.sbl_text.specs.inside.TokenParts.{and_more, put_placed}
use Rattle.sbl_text.specs.SpacedTokens.{IsSaid, AreSaid, after_all}
use Rattle.sbl_text.proofs.Spaced.{tokens_said}
use Rattle.sbl_ast.specs.declared.tree.Base.TheVariants as bases
use Rattle.sbl_ast.specs.Terminal.{lexeme_as}
use Rattle.sbl_token.specs.Lexemes as lex
use Rattle.sbl_token.specs.declared.signs.Sign.TheVariants as signs
use Rattle.sbl_ast.specs.Tree.{Argument, Term, Starter, Groups, among_, Plain, declaration, escapes, macro, routine, grouping, Item, plain, backward}
use Rattle.sbl_ast.specs.Places.{lexemes_of, AtDepth, placed_command, placed_plain, tokens}
use Rattle.sbl_ast.specs.inside.PlaceParts.{placed_plains, placed_items}
use Rattle.sbl_ast.specs.View.{RowView}
use Rattle.sbl_tree_amongs.specs.Amongs.{put_in_body}
use Rattle.sbl_ast.specs.Texts.{Text, TreeOf, body, places_in, script, tokens_of}
use Rattle.sbl_ast.specs.Texts as texts
use Rattle.sbl_parser.specs.Reading.{IsReadAs}
use Rattle.sbl_ast.specs.Spelled.{spelled_command}
use Rattle.sbl_ast.proofs.Lexed.{text_lexed}
use Rattle.sbl_ast.proofs.After.{IsBefore, plain_before}
use Rattle.sbl_ast.proofs.PlacedTokens.{tree_tokens}
use Rattle.sbl_ast.specs.NamedParts as named
use Rattle.sbl_ast.specs.NamedParts.{Part'}
use Rattle.sbl_script.specs.Edits.{changes, is_routine_named, is_grouping_named, escapes_after, items_with, plains_with}
use Rattle.sbl_script.specs.Homes.{Walk, escapes_before, first_in, first_passing, plain_if, walk_to, walk_in, state_reached}
use Rattle.sbl_script.specs.Reading.{HasTokens, lexemes}
use Rattle.sbl_script.specs.SpelledScript.{AreSpelled, IsSpelled}
use Rattle.sbl_script.proofs.Putting.{Each, body_put}
use Rattle.sbl_script.proofs.Quiet.{IsQuiet, among_quiet, body_quiet, names_quiet, terms_quiet}
use Rattle.sbl_script.proofs.Found.{some_plain}
use Rattle.sbl_script.proofs.Shallow.{plains_before}

abbrev Ps : Type 0
Ps = List AtDepth

abbrev lexeme_list : Ps → List Lexeme
lexeme_list ps = tokens ps

abbrev Say : Directives → Ps → Type 0
Say s ps = AreSaid s (lexeme_list ps)

abbrev Then : Directives → Ps → Directives
Then s ps = after_all s (lexeme_list ps)

-- ---- one part after another

prefix : (s : Directives) (ps qs : Ps) → Say s (ps ++ qs) → Say s ps
prefix s [] qs h = tt
prefix s (p ∷ ps) qs h = (h.0, prefix (after s (p.0)) ps qs h.1)

rest_of : (s : Directives) (ps qs : Ps) → Say s (ps ++ qs) → Say (Then s ps) qs
rest_of s [] qs h = h
rest_of s (p ∷ ps) qs h = rest_of (after s (p.0)) ps qs h.1

both : (s : Directives) (ps qs : Ps) → Say s ps → Say (Then s ps) qs → Say s (ps ++ qs)
both s [] qs h g = g
both s (p ∷ ps) qs h g = (h.0, both (after s (p.0)) ps qs h.1 g)

then_both : (s : Directives) (ps qs : Ps) → Then s (ps ++ qs) ≡ Then (Then s ps) qs
then_both s [] qs = refl
then_both s (p ∷ ps) qs = then_both (after s (p.0)) ps qs

part_prefix : (part : Ps → Ps) → IsBefore part → (s : Directives) (r : Ps) → Say s (part r) → Say s (part [])
part_prefix part before s r h = prefix s (part []) r (subst (Say s) (before [] r) h)

part_rest : (part : Ps → Ps) → IsBefore part → (s : Directives) (r : Ps) → Say s (part r) → Say (Then s (part [])) r
part_rest part before s r h = rest_of s (part []) r (subst (Say s) (before [] r) h)

part_with : (part : Ps → Ps) → IsBefore part → (s : Directives) (r : Ps) → Say s (part []) → Say (Then s (part [])) r → Say s (part r)
part_with part before s r h g = subst (Say s) (sym (before [] r)) (both s (part []) r h g)

part_then : (part : Ps → Ps) → IsBefore part → (s : Directives) (r : Ps) → Then s (part r) ≡ Then (Then s (part [])) r
part_then part before s r = ap (Then s) (before [] r) ∙ then_both s (part []) r

-- ---- tokens that set nothing

quiet_then : (e : InForce) (ps : Ps) → Each IsQuiet ps → Then (no_directive e) ps ≡ no_directive e
quiet_then e [] h = refl
quiet_then e (p ∷ ps) h = ap (λ (s : Directives). Then s ps) (h.0 e) ∙ quiet_then e ps h.1

abbrev SaidUnder : InForce → AtDepth → Type 0
SaidUnder e p = IsSaid (no_directive e) (p.0)

each_said : (e : InForce) (ps : Ps) → Each IsQuiet ps → Say (no_directive e) ps → Each (SaidUnder e) ps
each_said e [] q h = tt
each_said e (p ∷ ps) q h = (h.0, each_said e ps q.1 (subst (λ (s : Directives). Say s ps) (q.0 e) h.1))

said_each : (e : InForce) (ps : Ps) → Each IsQuiet ps → Each (SaidUnder e) ps → Say (no_directive e) ps
said_each e [] q h = tt
said_each e (p ∷ ps) q h = (h.0, subst (λ (s : Directives). Say s ps) (sym (q.0 e)) (said_each e ps q.1 h.1))

among_tokens : (a : Starter × Groups) (d : ℕ) → tokens_of (texts.among d) a ≡ map lexeme_as (spelled_command (among_ a.0 a.1) [])
among_tokens a d = text_lexed (texts.among d) a ∙ ap (map lexeme_as) (tree_tokens (among_ a.0 a.1) d [])

among_anywhere : (e : InForce) (a : Starter × Groups) (d f : ℕ) → Say (no_directive e) (placed_command (among_ a.0 a.1) d []) → Say (no_directive e) (placed_command (among_ a.0 a.1) f [])
among_anywhere e a d f h = subst (AreSaid (no_directive e)) (among_tokens a d ∙ sym (among_tokens a f)) h

put_said : (e : InForce) (b : RowView) (k : ℕ) (a : Starter × Groups) (d : ℕ) → Say (no_directive e) (places_in body b) → Say (no_directive e) (placed_command (among_ a.0 a.1) d []) → Say (no_directive e) (places_in body (put_in_body b k a))
put_said e b k a d h g =
    said_each e (places_in body (put_in_body b k a)) (body_quiet (put_in_body b k a))
    (body_put (SaidUnder e) a (λ f. each_said e (placed_command (among_ a.0 a.1) f []) (among_quiet a.0 a.1 f) (among_anywhere e a d f g)) b k (each_said e (places_in body b) (body_quiet b) h))

-- ---- what an item sets

plain_sets : (e : InForce) (x : Plain) → Then (no_directive e) (placed_plain x []) ≡ no_directive (escapes_after e x)
plain_sets e (declaration k ns) = quiet_then e (placed_plain (declaration k ns) []) (names_quiet k ns)
plain_sets e (escapes a b) = refl
plain_sets e (macro n None q) = refl
plain_sets e (macro n (Some bases.Hex) q) = refl
plain_sets e (macro n (Some bases.Decimal) q) = refl
plain_sets e (routine n c os) = quiet_then e (placed_plain (routine n c os) []) ((λ f. refl), ((λ f. refl), ((λ f. refl), body_quiet (c, os))))
plain_sets e (grouping n a ts) = quiet_then e (placed_plain (grouping n a ts) []) ((λ f. refl), ((λ f. refl), terms_quiet a ts))

abbrev all_after : InForce → List Plain → InForce
all_after e [] = e
all_after e (x ∷ xs) = all_after (escapes_after e x) xs

plains_set : (e : InForce) (xs : List Plain) → Then (no_directive e) (placed_plains xs []) ≡ no_directive (all_after e xs)
plains_set e [] = refl
plains_set e (x ∷ xs) =
    part_then (placed_plain x) (plain_before x) (no_directive e) (placed_plains xs []) ∙ ap (λ (s : Directives). Then s (placed_plains xs [])) (plain_sets e x) ∙ plains_set (escapes_after e x) xs

items_settle : (is : List Item) (e : InForce) → (f : InForce) × (Then (no_directive e) (placed_items is []) ≡ no_directive f)
items_settle [] e = (e, refl)
items_settle (plain x ∷ is) e =
    let more = placed_items is [] in
    let r = items_settle is (escapes_after e x) in
    (r.0, part_then (placed_plain x) (plain_before x) (no_directive e) more ∙ ap (λ (s : Directives). Then s more) (plain_sets e x) ∙ r.1)
items_settle (backward xs ∷ is) e =
    let more = (lex.sign signs.Close, 0) ∷ placed_items is [] in
    let r = items_settle is (all_after e xs) in
    (r.0, part_then (placed_plains xs) (plains_before xs) (no_directive e) more ∙ ap (λ (s : Directives). Then s more) (plains_set e xs) ∙ r.1)

after_plain : (e : InForce) (x : Plain) (r : Ps) → Say (no_directive e) (placed_plain x r) → Say (no_directive (escapes_after e x)) r
after_plain e x r h = subst (λ (s : Directives). Say s r) (plain_sets e x) (part_rest (placed_plain x) (plain_before x) (no_directive e) r h)

-- ---- with another definition

sets_nothing : (d : Part') (x : Plain) (e : InForce) → changes d x ≡ true → escapes_after e x ≡ e
sets_nothing d (routine m c os) e h = refl
sets_nothing d (grouping m a ts) e h = refl
sets_nothing d (declaration k ns) e h = refl
sets_nothing (named.Routine n) _ e h = absurd cc
sets_nothing (named.Among n k) _ e h = absurd cc
sets_nothing (named.Grouping n) _ e h = absurd cc

step_same : (e : InForce) (x : Plain) (r q : Ps) → (Say (no_directive (escapes_after e x)) r → Say (no_directive (escapes_after e x)) q) → Say (no_directive e) (placed_plain x r) → Say (no_directive e) (placed_plain x q)
step_same e x r q f h =
    part_with (placed_plain x) (plain_before x) (no_directive e) q (part_prefix (placed_plain x) (plain_before x) (no_directive e) r h) (subst (λ (s : Directives). Say s q) (sym (plain_sets e x)) (f (after_plain e x r h)))

step_new : (e : InForce) (x y : Plain) (r q : Ps) → escapes_after e x ≡ e → escapes_after e y ≡ e → Say (no_directive e) (placed_plain y []) → (Say (no_directive e) r → Say (no_directive e) q) → Say (no_directive e) (placed_plain x r) → Say (no_directive e) (placed_plain y q)
step_new e x y r q i j hy f h =
    let after_it = subst (λ (g : InForce). Say (no_directive g) r) i (after_plain e x r h) in
    part_with (placed_plain y) (plain_before y) (no_directive e) q hy (subst (λ (s : Directives). Say s q) (sym (plain_sets e y ∙ ap no_directive j)) (f after_it))

plains_same : (xs : List Plain) (e : InForce) (r q : Ps) → (Say (no_directive (all_after e xs)) r → Say (no_directive (all_after e xs)) q) → Say (no_directive e) (placed_plains xs r) → Say (no_directive e) (placed_plains xs q)
plains_same [] e r q f h = f h
plains_same (x ∷ xs) e r q f h = step_same e x (placed_plains xs r) (placed_plains xs q) (λ z. plains_same xs (escapes_after e x) r q f z) h

module _ (d : Part') (y : Plain) (new : changes d y ≡ true) where
  abbrev p : Plain → Bool
  p = changes d

  abbrev InPlains : List Plain → InForce → Ps → Ps → Type 0
  InPlains xs e r q = list_any p xs ≡ true → Say (no_directive (walk_in p xs e).0) (placed_plain y []) → Say (no_directive e) (placed_plains xs r) → Say (no_directive e) (placed_plains (plains_with p y xs) q)

  plains_new : (xs : List Plain) (e : InForce) (r q : Ps) → list_any p xs ≡ true → Say (no_directive (walk_in p xs e).0) (placed_plain y []) → (Say (no_directive (all_after e xs)) r → Say (no_directive (all_after e xs)) q)
      → Say (no_directive e) (placed_plains xs r) → Say (no_directive e) (placed_plains (plains_with p y xs) q)
  plains_new [] e r q any hy f h = absurd cc
  plains_new (x ∷ xs) e r q any hy f h = go (p x) refl any hy (λ a l z. plains_new xs (escapes_after e x) r q a l f z) where
    go : (here : Bool) → p x ≡ here → here || list_any p xs ≡ true → Say (no_directive (if here then (e, true) else walk_in p xs (escapes_after e x)).0) (placed_plain y []) → InPlains xs (escapes_after e x) r q
        → Say (no_directive e) (placed_plains (if here then y ∷ xs else x ∷ plains_with p y xs) q)
    go true i a l more =
        let g = subst (λ (z : InForce). Say (no_directive (all_after z xs)) r → Say (no_directive (all_after z xs)) q) (sets_nothing d x e i) f in
        step_new e x y (placed_plains xs r) (placed_plains xs q) (sets_nothing d x e i) (sets_nothing d y e new) l (λ z. plains_same xs e r q g z) h
    go false i a l more = step_same e x (placed_plains xs r) (placed_plains (plains_with p y xs) q) (λ z. more a l z) h

-- an item that passes is reached; if none does, all items were gone through
in_held : (p : Plain → Bool) (xs : List Plain) (e : InForce) → (walk_in p xs e).1 ≡ list_any p xs
in_held p [] e = refl
in_held p (x ∷ xs) e = go (p x) (in_held p xs (escapes_after e x)) where
  go : (here : Bool) → (walk_in p xs (escapes_after e x)).1 ≡ list_any p xs → (if here then (e, true) else walk_in p xs (escapes_after e x)).1 ≡ (here || list_any p xs)
  go true more = refl
  go false more = more

not_held : (p : Plain → Bool) (xs : List Plain) (e : InForce) → list_any p xs ≡ false → (walk_in p xs e).0 ≡ all_after e xs
not_held p [] e h = refl
not_held p (x ∷ xs) e h = go (p x) h (λ l. not_held p xs (escapes_after e x) l) where
  go : (here : Bool) → (here || list_any p xs) ≡ false → (list_any p xs ≡ false → (walk_in p xs (escapes_after e x)).0 ≡ all_after (escapes_after e x) xs) → (if here then (e, true) else walk_in p xs (escapes_after e x)).0 ≡ all_after (escapes_after e x) xs
  go true l more = absurd cc
  go false l more = more l

module _ (d : Part') (y : Plain) (new : changes d y ≡ true) where
  abbrev q : Plain → Bool
  q = changes d

  abbrev InItems : List Item → InForce → Type 0
  InItems is e = Say (no_directive (walk_to q is e).0) (placed_plain y []) → Say (no_directive e) (placed_items is []) → Say (no_directive e) (placed_items (items_with q y is) [])

  items_said : (is : List Item) (e : InForce) → Say (no_directive (walk_to q is e).0) (placed_plain y []) → Say (no_directive e) (placed_items is []) → Say (no_directive e) (placed_items (items_with q y is) [])
  items_said [] e hy h = h
  items_said (plain x ∷ is) e hy h = go (q x) refl hy (λ l z. items_said is (escapes_after e x) l z) where
    go : (here : Bool) → q x ≡ here → Say (no_directive (if here then (e, true) else walk_to q is (escapes_after e x)).0) (placed_plain y []) → InItems is (escapes_after e x) → Say (no_directive e) (placed_items (if here then plain y ∷ is else plain x ∷ items_with q y is) [])
    go true i l more = step_new e x y (placed_items is []) (placed_items is []) (sets_nothing d x e i) (sets_nothing d y e new) l (λ z. z) h
    go false i l more = step_same e x (placed_items is []) (placed_items (items_with q y is) []) (λ z. more l z) h
  items_said (backward xs ∷ is) e hy h = go (list_any q xs) refl (λ l z. items_said is (all_after e xs) l z) where
    found : (here : Bool) → list_any q xs ≡ here → Say (no_directive (if here then walk_in q xs e else walk_to q is (walk_in q xs e).0).0) (placed_plain y [])
    found here i = subst (λ (u : Bool). Say (no_directive (if u then walk_in q xs e else walk_to q is (walk_in q xs e).0).0) (placed_plain y [])) (in_held q xs e ∙ i) hy

    go : (here : Bool) → list_any q xs ≡ here → InItems is (all_after e xs) → Say (no_directive e) (placed_items (if here then backward (plains_with q y xs) ∷ is else backward xs ∷ items_with q y is) [])
    go true i more =
        let rest = (lex.sign signs.Close, 0) ∷ placed_items is [] in
        (h.0, (h.1.0, plains_new d y new xs e rest rest i (found true i) (λ z. z) h.1.1))
    go false i more =
        let l = subst (λ (f : InForce). Say (no_directive (walk_to q is f).0) (placed_plain y [])) (not_held q xs e i) (found false i) in
        (h.0, (h.1.0, plains_same xs e ((lex.sign signs.Close, 0) ∷ placed_items is []) ((lex.sign signs.Close, 0) ∷ placed_items (items_with q y is) []) (λ z. (z.0, more l z.1)) h.1.1))

-- ---- a definition that there is

or_either : (a b o : Option Plain) → option_or (option_or a b) o ≡ option_or a (option_or b o)
or_either None b o = refl
or_either (Some x) b o = refl

first_said : (p : Plain → Bool) (x : Plain) (e : InForce) (y : Plain) (o : Option Plain) (later : Walk) (F : Walk → Walk) → (Say (no_directive e) (placed_plain y []) → Say (no_directive (F (e, true)).0) (placed_plain y [])) → option_or (plain_if p x) o ≡ Some y
    → Say (no_directive e) (placed_plain x []) → (o ≡ Some y → Say (no_directive (F later).0) (placed_plain y [])) → Say (no_directive (F (if p x then (e, true) else later)).0) (placed_plain y [])
first_said p x e y o later F f is h more = go (p x) is where
  go : (here : Bool) → option_or (if here then Some x else None) o ≡ Some y → Say (no_directive (F (if here then (e, true) else later)).0) (placed_plain y [])
  go true g = f (subst (λ (z : Plain). Say (no_directive e) (placed_plain z [])) (some_plain x y g) h)
  go false g = more g

in_said : (p : Plain → Bool) (xs : List Plain) (e : InForce) (y : Plain) (o : Option Plain) (r : Ps) (later : InForce → Walk) → option_or (first_in p xs) o ≡ Some y → Say (no_directive e) (placed_plains xs r)
    → (o ≡ Some y → Say (no_directive (all_after e xs)) r → Say (no_directive (later (all_after e xs)).0) (placed_plain y [])) → Say (no_directive (if (walk_in p xs e).1 then walk_in p xs e else later (walk_in p xs e).0).0) (placed_plain y [])
in_said p [] e y o r later is h more = more is h
in_said p (x ∷ xs) e y o r later is h more =
    first_said p x e y (option_or (first_in p xs) o) (walk_in p xs (escapes_after e x)) (λ (z : Walk). if z.1 then z else later z.0) (λ l. l) (sym (or_either (plain_if p x) (first_in p xs) o) ∙ is) (part_prefix (placed_plain x) (plain_before x) (no_directive e) (placed_plains xs r) h)
    (λ i. in_said p xs (escapes_after e x) y o r later i (after_plain e x (placed_plains xs r) h) more)

found_said : (p : Plain → Bool) (is : List Item) (e : InForce) (y : Plain) → first_passing p is ≡ Some y → Say (no_directive e) (placed_items is []) → Say (no_directive (walk_to p is e).0) (placed_plain y [])
found_said p [] e y i h = absurd cc
found_said p (plain x ∷ is) e y i h =
    first_said p x e y (first_passing p is) (walk_to p is (escapes_after e x)) (λ (z : Walk). z) (λ l. l) i (part_prefix (placed_plain x) (plain_before x) (no_directive e) (placed_items is []) h)
    (λ j. found_said p is (escapes_after e x) y j (after_plain e x (placed_items is []) h))
found_said p (backward xs ∷ is) e y i h = in_said p xs e y (first_passing p is) ((lex.sign signs.Close, 0) ∷ placed_items is []) (λ (f : InForce). walk_to p is f) i h.1.1 (λ j z. found_said p is (all_after e xs) y j z.1)

-- ---- what is read

said_there : (ps : List Piece) (place : ℕ) → map (λ (x : PlacedToken). x.lexeme) (placed_from place ps) ≡ piece_lexemes ps
said_there [] place = refl
said_there (p ∷ ps) place = go p.lexeme (said_there ps (place + byte_length p.text)) where
  go : (o : Option Lexeme) → map (λ (x : PlacedToken). x.lexeme) (placed_from (place + byte_length p.text) ps) ≡ piece_lexemes ps → map (λ (x : PlacedToken). x.lexeme) (put_placed place p.text o (placed_from (place + byte_length p.text) ps)) ≡ and_more o (piece_lexemes ps)
  go None more = more
  go (Some l) more = ap (λ (ls : List Lexeme). l ∷ ls) more

pub read_said : (s : Directives) (bytes : List ℕ) (ts : List PlacedToken) (w : Text) (x : TreeOf w) → HasTokens s bytes ts → IsReadAs w (lexemes ts) x → AreSaid s (tokens_of w x)
read_said s bytes ts w x has read =
    let cut = has.cut in
    let is : tokens_of w x ≡ piece_lexemes cut.0 = read.0 ∙ ap (map (λ (z : PlacedToken). z.lexeme)) cut.4 ∙ said_there cut.0 0 in
    subst (AreSaid s) (sym is) (tokens_said s bytes (piece_lexemes cut.0) has.text (cut.0, cut.1, cut.2, cut.3, refl)).0

-- ---- scripts

pub script_said : (bytes : List ℕ) (ts : List PlacedToken) (items : List Item) → HasTokens start bytes ts → IsReadAs script (lexemes ts) items → AreSpelled items
script_said bytes ts items has read = read_said start bytes ts script items has read

pub definition_replaced : (d : Part') (y : Plain) (items : List Item) → changes d y ≡ true → AreSpelled items → IsSpelled (state_reached (changes d) items) y → AreSpelled (items_with (changes d) y items)
definition_replaced d y items new h hy = items_said d y new items nothing_set hy h

-- a routine with another body, or with another among in it, and a grouping with other terms
pub body_said : (n : List ℕ) (items : List Item) (b new : RowView) → AreSpelled items → first_passing (is_routine_named n) items ≡ Some (routine n b.0 b.1) → AreSaid (state_reached (is_routine_named n) items) (tokens_of body new)
    → IsSpelled (state_reached (is_routine_named n) items) (routine n new.0 new.1)
body_said n items b new h is piece_lexemes =
    let old = found_said (is_routine_named n) items nothing_set (routine n b.0 b.1) is h in
    (old.0, (old.1.0, (old.1.1.0, piece_lexemes)))

pub among_said : (n : List ℕ) (items : List Item) (b : RowView) (k : ℕ) (a : Starter × Groups) (d : ℕ) → AreSpelled items → first_passing (is_routine_named n) items ≡ Some (routine n b.0 b.1)
    → AreSaid (state_reached (is_routine_named n) items) (tokens_of (texts.among d) a) → IsSpelled (state_reached (is_routine_named n) items) (routine n (put_in_body b k a).0 (put_in_body b k a).1)
among_said n items b k a d h is ha =
    let old = found_said (is_routine_named n) items nothing_set (routine n b.0 b.1) is h in
    body_said n items b (put_in_body b k a) h is (put_said (escapes_before (is_routine_named n) items) b k a d old.1.1.1 ha)

pub terms_said : (n : List ℕ) (items : List Item) (a : Argument) (ts : List Term) (x : Argument × List Term) → AreSpelled items → first_passing (is_grouping_named n) items ≡ Some (grouping n a ts)
    → AreSaid (state_reached (is_grouping_named n) items) (tokens_of texts.terms x) → IsSpelled (state_reached (is_grouping_named n) items) (grouping n x.0 x.1)
terms_said n items a ts x h is piece_lexemes =
    let old = found_said (is_grouping_named n) items nothing_set (grouping n a ts) is h in
    (old.0, (old.1.0, piece_lexemes))

-- a text may end after a script
pub ends : (items : List Item) → MayEnd (after_all start (lexemes_of items))
ends items =
    let r = items_settle items nothing_set in
    subst MayEnd (sym r.1) (λ i. cc)
