-- The next among of a region is one of its commands, or else the one that follows them.
use Rattle.std.proofs.Common.{◌≡◌, ℕ, inl, inr, refl, subst}
use Rattle.std.specs.Prelude.{Option, Some, None}
use Rattle.std.proofs.lemmas.Option.{same_Some}
use Rattle.sbl_semantics.specs.Regions.{among_at, number_after, number_after_others, first, first_others, first_rows}
use Rattle.sbl_semantics.specs.Landmarks.{Among, mode_under}
use Rattle.sbl_ast.specs.Tree as trees
use Rattle.sbl_ast.specs.Tree.{bracket, simple_, literal_, name_, non_, prefixed, counted, move_, named, splice_, setlimit_, assign_, compare_, compare_values_, among_, no_rows, row, no_others, joined}
use Rattle.sbl_ast.specs.declared.mode.Mode.{Mode}
use Rattle.sbl_uses.specs.TreeAmongs.{IsIn, IsInOthers, IsInRows}

module _ (P : Among → Type 0) where
  pub none_is : (a : Among) → None ≡ Some a → P a
  none_is a e = let no : ⊥ = cc in absurd no

  mutual
    pub first_is : (t : trees.Command) (r : Mode) (k : ℕ) (n : Option Among) → ((a : Among) → IsIn a r k t → P a) → ((a : Among) → n ≡ Some a → P a) → (a : Among) → first r t k n ≡ Some a → P a
    first_is (bracket rs) r k n p q a e = rows_are rs r k n p q a e
    first_is (prefixed x c) r k n p q a e = first_is c (mode_under x r) k n p q a e
    first_is (counted x f c) r k n p q a e = first_is c r k n p q a e
    first_is (setlimit_ b c) r k n p q a e =
        first_is b r k (first r c (number_after b k) n) (λ y j. p y (inl j)) (first_is c r (number_after b k) n (λ y j. p y (inr j)) q) a e
    first_is (among_ st gs) r k n p q a e = subst P (same_Some (among_at r k gs) a e) (p (among_at r k gs) (inl refl))
    first_is (simple_ x) r k n p q a e = q a e
    first_is (literal_ x) r k n p q a e = q a e
    first_is (name_ x) r k n p q a e = q a e
    first_is (non_ b x) r k n p q a e = q a e
    first_is (move_ x f) r k n p q a e = q a e
    first_is (named x y) r k n p q a e = q a e
    first_is (splice_ x y) r k n p q a e = q a e
    first_is (assign_ x o f) r k n p q a e = q a e
    first_is (compare_ x o f) r k n p q a e = q a e
    first_is (compare_values_ f o g) r k n p q a e = q a e

    pub rows_are : (rs : trees.Rows) (r : Mode) (k : ℕ) (n : Option Among) → ((a : Among) → IsInRows a r k rs → P a) → ((a : Among) → n ≡ Some a → P a) → (a : Among) → first_rows r rs k n ≡ Some a → P a
    rows_are no_rows r k n p q a e = q a e
    rows_are (row c os rs) r k n p q a e =
        first_is c r k (first_others r os (number_after c k) (first_rows r rs (number_after_others os (number_after c k)) n)) (λ y j. p y (inl j))
        (others_are os r (number_after c k) (first_rows r rs (number_after_others os (number_after c k)) n) (λ y j. p y (inr (inl j)))
        (rows_are rs r (number_after_others os (number_after c k)) n (λ y j. p y (inr (inr j))) q)) a e

    pub others_are : (os : trees.Others) (r : Mode) (k : ℕ) (n : Option Among) → ((a : Among) → IsInOthers a r k os → P a) → ((a : Among) → n ≡ Some a → P a) → (a : Among) → first_others r os k n ≡ Some a → P a
    others_are no_others r k n p q a e = q a e
    others_are (joined j c os) r k n p q a e =
        first_is c r k (first_others r os (number_after c k) n) (λ y i. p y (inl i)) (others_are os r (number_after c k) n (λ y i. p y (inr i)) q) a e
