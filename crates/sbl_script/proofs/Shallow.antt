-- A script is nowhere too deep with another definition that is not.
use Rattle.std.proofs.Common.{◌≡◌, ◌≤◌, ℕ, Bool, true, false, List, [], ◌∷◌, Option, Some, None, if◌then◌else◌, refl, ap, subst, ◌∙◌, arith}
use Rattle.std.specs.List.{list_any}
use Rattle.std.specs.Option.{option_or}
use Rattle.sbl_tree_amongs.specs.Amongs.{FitsAt, AmongContents, nth_held}
use Rattle.sbl_token.specs.Lexemes as lex
use Rattle.sbl_token.specs.declared.signs.Sign.TheVariants as signs
use Rattle.sbl_ast.specs.Tree.{Argument, Term, Plain, routine, grouping, Item, plain, backward, Starter, Groups, among_}
use Rattle.sbl_ast.specs.Places.{AtDepth, placed_command, placed_plain, AreShallow}
use Rattle.sbl_ast.specs.inside.PlaceParts.{placed_plains, placed_items}
use Rattle.sbl_ast.specs.Texts.{among, body, terms, places_in}
use Rattle.sbl_ast.specs.View.{RowView}
use Rattle.sbl_ast.proofs.After.{IsBefore, by_itself, after_it, with_after, plain_before}
use Rattle.sbl_script.proofs.Found.{some_plain}
use Rattle.sbl_script.specs.Edits.{is_routine_named, items_with, plains_with}
use Rattle.sbl_script.specs.Homes.{first_in, first_passing, plain_if}

abbrev Ps : Type 0
Ps = List AtDepth

pub plains_before : (xs : List Plain) → IsBefore (placed_plains xs)
plains_before [] r q = refl
plains_before (x ∷ xs) r q = ap (placed_plain x) (plains_before xs r q) ∙ plain_before x (placed_plains xs r) q

plains_shallow : (p : Plain → Bool) (y : Plain) (xs : List Plain) → AreShallow (placed_plain y []) → AreShallow (placed_plains xs []) → AreShallow (placed_plains (plains_with p y xs) [])
plains_shallow p y [] hy h = h
plains_shallow p y (x ∷ xs) hy h = go (p x) (plains_shallow p y xs hy (after_it (placed_plain x) (plain_before x) (placed_plains xs []) h)) where
  rest : Ps
  rest = placed_plains xs []

  go : (here : Bool) → AreShallow (placed_plains (plains_with p y xs) []) → AreShallow (placed_plains (if here then y ∷ xs else x ∷ plains_with p y xs) [])
  go true more = with_after (placed_plain y) (plain_before y) rest hy (after_it (placed_plain x) (plain_before x) rest h)
  go false more = with_after (placed_plain x) (plain_before x) (placed_plains (plains_with p y xs) []) (by_itself (placed_plain x) (plain_before x) rest h) more

pub items_shallow : (p : Plain → Bool) (y : Plain) (is : List Item) → AreShallow (placed_plain y []) → AreShallow (placed_items is []) → AreShallow (placed_items (items_with p y is) [])
items_shallow p y [] hy h = h
items_shallow p y (plain x ∷ is) hy h = go (p x) (items_shallow p y is hy (after_it (placed_plain x) (plain_before x) (placed_items is []) h)) where
  rest : Ps
  rest = placed_items is []

  go : (here : Bool) → AreShallow (placed_items (items_with p y is) []) → AreShallow (placed_items (if here then plain y ∷ is else plain x ∷ items_with p y is) [])
  go true more = with_after (placed_plain y) (plain_before y) rest hy (after_it (placed_plain x) (plain_before x) rest h)
  go false more = with_after (placed_plain x) (plain_before x) (placed_items (items_with p y is) []) (by_itself (placed_plain x) (plain_before x) rest h) more
items_shallow p y (backward xs ∷ is) hy h =
    let rest = (lex.sign signs.Close, 0) ∷ placed_items is [] in
    let own = by_itself (placed_plains xs) (plains_before xs) rest h.1.1 in
    let tail = after_it (placed_plains xs) (plains_before xs) rest h.1.1 in
    go (list_any p xs) own tail (items_shallow p y is hy tail.1) where
      go : (here : Bool) → AreShallow (placed_plains xs []) → AreShallow ((lex.sign signs.Close, 0) ∷ placed_items is []) → AreShallow (placed_items (items_with p y is) []) → AreShallow (placed_items (if here then backward (plains_with p y xs) ∷ is else backward xs ∷ items_with p y is) [])
      go true own tail more = let ys = plains_with p y xs in (h.0, (h.1.0, with_after (placed_plains ys) (plains_before ys) ((lex.sign signs.Close, 0) ∷ placed_items is []) (plains_shallow p y xs hy own) tail))
      go false own tail more = (h.0, (h.1.0, with_after (placed_plains xs) (plains_before xs) ((lex.sign signs.Close, 0) ∷ placed_items (items_with p y is) []) own (tail.0, more)))

-- ---- a definition in a script that is nowhere too deep

if_shallow : (p : Plain → Bool) (x y : Plain) → AreShallow (placed_plain x []) → plain_if p x ≡ Some y → AreShallow (placed_plain y [])
if_shallow p x y h is = go (p x) is where
  go : (here : Bool) → (if here then Some x else None) ≡ Some y → AreShallow (placed_plain y [])
  go true e = subst (λ (z : Plain). AreShallow (placed_plain z [])) (some_plain x y e) h
  go false e = absurd cc

either_shallow : (o rest : Option Plain) (y : Plain) → (o ≡ Some y → AreShallow (placed_plain y [])) → (rest ≡ Some y → AreShallow (placed_plain y [])) → option_or o rest ≡ Some y → AreShallow (placed_plain y [])
either_shallow (Some x) rest y f g is = f is
either_shallow None rest y f g is = g is

in_shallow : (p : Plain → Bool) (xs : List Plain) (y : Plain) → AreShallow (placed_plains xs []) → first_in p xs ≡ Some y → AreShallow (placed_plain y [])
in_shallow p [] y h is = absurd cc
in_shallow p (x ∷ xs) y h is =
    either_shallow (plain_if p x) (first_in p xs) y (λ e. if_shallow p x y (by_itself (placed_plain x) (plain_before x) (placed_plains xs []) h) e) (λ e. in_shallow p xs y (after_it (placed_plain x) (plain_before x) (placed_plains xs []) h) e) is

pub first_shallow : (p : Plain → Bool) (items : List Item) (y : Plain) → AreShallow (placed_items items []) → first_passing p items ≡ Some y → AreShallow (placed_plain y [])
first_shallow p [] y h is = absurd cc
first_shallow p (plain x ∷ items) y h is =
    either_shallow (plain_if p x) (first_passing p items) y (λ e. if_shallow p x y (by_itself (placed_plain x) (plain_before x) (placed_items items []) h) e) (λ e. first_shallow p items y (after_it (placed_plain x) (plain_before x) (placed_items items []) h) e) is
first_shallow p (backward xs ∷ items) y h is =
    let rest = (lex.sign signs.Close, 0) ∷ placed_items items [] in
    let inner = after_it (placed_plains xs) (plains_before xs) rest h.1.1 in
    either_shallow (first_in p xs) (first_passing p items) y (λ e. in_shallow p xs y (by_itself (placed_plains xs) (plains_before xs) rest h.1.1) e) (λ e. first_shallow p items y inner.1 e) is

-- a routine with a body that is not too deep, and a grouping
pub routine_shallow : (n : List ℕ) (b : RowView) → AreShallow (places_in body b) → AreShallow (placed_plain (routine n b.0 b.1) [])
routine_shallow n b hb = let top : 0 ≤ 64 = omega arith in (top, (top, (top, hb)))

pub grouping_shallow : (n : List ℕ) (a : Argument) (ts : List Term) → AreShallow (places_in terms (a, ts)) → AreShallow (placed_plain (grouping n a ts) [])
grouping_shallow n a ts h = let top : 0 ≤ 64 = omega arith in (top, (top, h))

pub body_shallow : (n : List ℕ) (items : List Item) (b : RowView) → AreShallow (placed_items items []) → first_passing (is_routine_named n) items ≡ Some (routine n b.0 b.1) → AreShallow (places_in body b)
body_shallow n items b h is = (first_shallow (is_routine_named n) items (routine n b.0 b.1) h is).1.1.1

-- what is read where an among stands may stand there
held_one : (o : Option AmongContents) (d g : AmongContents) → o ≡ Some d → o ≡ Some g → d ≡ g
held_one o d g e f = cc

pub fits : (k : ℕ) (hs : List AmongContents) (d : AmongContents) (a : Starter × Groups) → nth_held k hs ≡ Some d → AreShallow (places_in (among d.0) a) → FitsAt k hs a
fits k hs d a there h g is = subst (λ (z : AmongContents). AreShallow (placed_command (among_ a.0 a.1) z.0 [])) (held_one (nth_held k hs) d g there is) h
