-- What several runs meet and take together.
use Rattle.std.proofs.Common.{◌≡◌, ◌∙◌, ◌||◌, ℕ, Bool, true, false, List, [], ◌∷◌, ◌++◌, ◌+◌, map, refl, sym, ap, ap₂}
use Rattle.std.specs.List.{list_any}
use Rattle.sbl_rows.proofs.Putting.{or_false, or_shift}
use Rattle.sbl_rows.specs.Setting.{Setting}
use Rattle.sbl_machine.specs.BuiltFrom.{is_affected_by, meets}
use Rattle.sbl_semantics.specs.Outcome.{touches_of}
use Rattle.sbl_semantics.specs.TouchedItems.{item_of_touch, names_of, touched_items}
use Rattle.sbl_ast.specs.NamedParts.{Part'}
use Rattle.sbl_machine.proofs.TouchedOrder.{any_ordered}
use Rattle.sbl_uses.specs.Unused.{is_met}

pub or_assoc : (a b c : Bool) → ((a || b) || c) ≡ (a || (b || c))
or_assoc true b c = refl
or_assoc false b c = refl

pub or_turn : (a b c : Bool) → ((a || b) || c) ≡ (b || (a || c))
or_turn true true c = refl
or_turn true false c = refl
or_turn false b c = refl

pub or_last : (a : Bool) → (a || false) ≡ a
or_last = or_false

pub any_append : {A : Type 0} (test : A → Bool) (xs ys : List A) → list_any test (xs ++ ys) ≡ (list_any test xs || list_any test ys)
any_append test [] ys = refl
any_append test (x ∷ xs) ys = ap (λ (b : Bool). test x || b) (any_append test xs ys) ∙ sym (or_assoc (test x) (list_any test xs) (list_any test ys))

-- the last of some values is taken away
pub any_popped : {A B : Type 0} (f : A → B) (test : B → Bool) (xs : List A) (x : A) (rest : Bool) → (list_any test (map f (xs ++ x ∷ [])) || rest) ≡ (list_any test (map f xs) || (test (f x) || rest))
any_popped f test [] x rest = ap (λ (b : Bool). b || rest) (or_last (test (f x)))
any_popped f test (y ∷ ys) x rest =
    or_assoc (test (f y)) (list_any test (map f (ys ++ x ∷ []))) rest
    ∙ ap (λ (b : Bool). test (f y) || b) (any_popped f test ys x rest)
    ∙ sym (or_assoc (test (f y)) (list_any test (map f ys)) (test (f x) || rest))

pub met_one : (s : Setting) (x : Part') (w : List ℕ) → list_any (is_affected_by s.script x) (touched_items s.script w s.limit) ≡ meets x s.script w s.limit
unfolding meets touched_items
met_one s x w = any_ordered (is_affected_by s.script x) (map (item_of_touch (names_of s.script)) (touches_of s.script w s.limit))

pub met_words : (s : Setting) (x : Part') (words : List (List ℕ)) → list_any (λ (w : List ℕ). list_any (is_affected_by s.script x) (touched_items s.script w s.limit)) words ≡ is_met s words x
met_words s x [] = refl
met_words s x (w ∷ words) = ap₂ (λ (a b : Bool). a || b) (met_one s x w) (met_words s x words)

pub or_prefix : (a b c : Bool) → (a || (b || c)) ≡ ((b || a) || c)
or_prefix = or_shift

pub or_both : (a b c : Bool) → (b || (a || c)) ≡ ((a || b) || c)
or_both a b c = or_prefix b a c
