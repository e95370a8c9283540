-- The marks beside the touches of a run.
use Rattle.std.proofs.Common.{◌≡◌, ℕ, zero, suc, ◌<◌, ◌≤◌, Bool, true, false, List, [], ◌∷◌, ◌++◌, length, map, Result, Ok, Err, refl, sym, ap, subst, ◌∙◌, arith}
use Rattle.std.specs.declared.alloc.AllocError.{AllocError}
use Rattle.std.specs.Prelude.{◌&&◌, ◌||◌, IfOk, nat_eq, if◌then◌else◌, slice_index_or, slice_set}
use Rattle.std.specs.List.{list_any}
use Rattle.std.proofs.lemmas.Bool.{true≢false, eqb-true, eq-eqb, ne_eqb}
use Rattle.std.proofs.lemmas.List.{get_or-set_same, get_or-set_other}
use Rattle.std.proofs.lemmas.List.Folds.{list_any-append}
use Rattle.sbl_semantics.specs.declared.touch.Touch.{Touch}
use Rattle.sbl_semantics.specs.declared.touch.Touch.TheVariants.{Entered, Searched, Tested}
use Rattle.sbl_run_state.specs.Marks.{mark_at, mark_in, AreMarked}
use Rattle.sbl_semantics.specs.Touches.{same_touch, with_touch}

-- ---- lists

-- one more element that is as what stands past the end
pub push_default : {A : Type 0} (d : A) (xs : List A) (j : ℕ) → slice_index_or (xs ++ (d ∷ [])) j d ≡ slice_index_or xs j d
push_default d [] zero = refl
push_default d [] (suc j) = refl
push_default d (x ∷ xs) zero = refl
push_default d (x ∷ xs) (suc j) = push_default d xs j

pub row_is : {V : Type 0} (f : V → List ℕ) (xs : List V) (i : ℕ) (v : V) → i < length xs → v ≡ slice_index_or xs i v → f v ≡ slice_index_or (map f xs) i []
row_is f [] i v l e = absurd (omega arith)
row_is f (x ∷ xs) zero v l e = ap f e
row_is f (x ∷ xs) (suc i) v l e = row_is f xs i v (omega arith) e

set_past : {A : Type 0} (xs : List A) (i : ℕ) (y : A) → length xs ≤ i → slice_set xs i y ≡ xs
set_past [] i y l = refl
set_past (x ∷ xs) zero y l = absurd (omega arith)
set_past (x ∷ xs) (suc i) y l = ap (λ zs. x ∷ zs) (set_past xs i y (omega arith))

-- ---- one more touch

or_false : (b : Bool) → (b || false) ≡ b
or_false true = refl
or_false false = refl

or_true : (b : Bool) → (b || true) ≡ true
or_true true = refl
or_true false = refl

-- whether a touch is one of these and one more
any_more : (x y : Touch) (ts : List Touch) → list_any (same_touch x) (ts ++ (y ∷ [])) ≡ (list_any (same_touch x) ts || same_touch x y)
any_more x y ts = list_any-append (same_touch x) ts (y ∷ []) ∙ ap (λ b. list_any (same_touch x) ts || b) (or_false (same_touch x y))

last_is : (x y : Touch) (ts : List Touch) → same_touch x y ≡ true → list_any (same_touch x) (ts ++ (y ∷ [])) ≡ true
last_is x y ts e = any_more x y ts ∙ ap (λ b. list_any (same_touch x) ts || b) e ∙ or_true _

last_is_not : (x y : Touch) (ts : List Touch) → same_touch x y ≡ false → list_any (same_touch x) (ts ++ (y ∷ [])) ≡ list_any (same_touch x) ts
last_is_not x y ts e = any_more x y ts ∙ ap (λ b. list_any (same_touch x) ts || b) e ∙ or_false _

pub with_by : (x : Touch) (ts : List Touch) (b : Bool) → list_any (same_touch x) ts ≡ b → with_touch x ts ≡ (if b then ts else ts ++ (x ∷ []))
with_by x ts b p = ap (λ c. if c then ts else ts ++ (x ∷ [])) p

differ : (i j : ℕ) → nat_eq j i ≡ false → j ≡ i → ⊥
differ i j e p = true≢false (sym (eq-eqb j i p) ∙ e)

and_true : (a b : Bool) → a ≡ true → b ≡ true → (a && b) ≡ true
and_true a b p q = ap (λ x. x && b) p ∙ q

and_false : (a b : Bool) → a ≡ true → b ≡ false → (a && b) ≡ false
and_false a b p q = ap (λ x. x && b) p ∙ q

-- ---- a mark that is set

set_mark : (round : ℕ) (marks : List ℕ) (i j : ℕ) (x : Touch) (ts : List Touch) (y : Touch) (e : Bool) → nat_eq j i ≡ e → same_touch x y ≡ e → i < length marks → nat_eq (mark_at marks j) round ≡ list_any (same_touch x) ts → nat_eq (mark_at (slice_set marks i round) j) round ≡ list_any (same_touch x) (ts ++ (y ∷ []))
set_mark round marks i j x ts y true h s l b =
    ap (λ n. nat_eq (mark_at (slice_set marks i round) n) round) (eqb-true j i h)
    ∙ ap (λ m. nat_eq m round) (get_or-set_same marks i round 0 l)
    ∙ eq-eqb round round refl
    ∙ sym (last_is x y ts s)
set_mark round marks i j x ts y false h s l b =
    ap (λ m. nat_eq m round) (get_or-set_other marks i j round 0 (differ i j h)) ∙ b ∙ sym (last_is_not x y ts s)

set_by_now : (round : ℕ) (marks : List ℕ) (i j : ℕ) (e : Bool) → nat_eq j i ≡ e → i < length marks → mark_at marks j ≤ round → mark_at (slice_set marks i round) j ≤ round
set_by_now round marks i j true h l b =
    let e : mark_at (slice_set marks i round) j ≡ round = ap (mark_at (slice_set marks i round)) (eqb-true j i h) ∙ get_or-set_same marks i round 0 l in
    omega (arith, e)
set_by_now round marks i j false h l b = omega (arith, b, get_or-set_other marks i j round 0 (differ i j h))

-- marks that were grown
pub grown_marks : (round : ℕ) (ts : List Touch) (entered more : List ℕ) (searched others : List (List ℕ)) (tested further : List ℕ) → AreMarked round ts entered searched tested → ((i : ℕ) → mark_at more i ≡ mark_at entered i) → ((i k : ℕ) → mark_in others i k ≡ mark_in searched i k) → ((g : ℕ) → mark_at further g ≡ mark_at tested g) → AreMarked round ts more others further
grown_marks round ts entered more searched others tested further h same alike too =
    record {
      begun = h.begun;
      routines = λ i. ap (λ m. nat_eq m round) (same i) ∙ h.routines i;
      amongs = λ i k. ap (λ m. nat_eq m round) (alike i k) ∙ h.amongs i k;
      groupings = λ g. ap (λ m. nat_eq m round) (too g) ∙ h.groupings g;
      entered_by_now = λ i. omega (arith, same i, h.entered_by_now i);
      searched_by_now = λ i k. omega (arith, alike i k, h.searched_by_now i k);
      tested_by_now = λ g. omega (arith, too g, h.tested_by_now g);
    }

pub entered_marks : (round : ℕ) (ts : List Touch) (entered : List ℕ) (searched : List (List ℕ)) (tested : List ℕ) (i : ℕ) → AreMarked round ts entered searched tested → i < length entered → AreMarked round (ts ++ (Entered i ∷ [])) (slice_set entered i round) searched tested
entered_marks round ts entered searched tested i h l =
    record {
      begun = h.begun;
      routines = λ j. set_mark round entered i j (Entered j) ts (Entered i) _ refl refl l (h.routines j);
      amongs = λ j k. h.amongs j k ∙ sym (last_is_not (Searched j k) (Entered i) ts refl);
      groupings = λ g. h.groupings g ∙ sym (last_is_not (Tested g) (Entered i) ts refl);
      entered_by_now = λ j. set_by_now round entered i j _ refl l (h.entered_by_now j);
      searched_by_now = h.searched_by_now;
      tested_by_now = h.tested_by_now;
    }

pub tested_marks : (round : ℕ) (ts : List Touch) (entered : List ℕ) (searched : List (List ℕ)) (tested : List ℕ) (g : ℕ) → AreMarked round ts entered searched tested → g < length tested → AreMarked round (ts ++ (Tested g ∷ [])) entered searched (slice_set tested g round)
tested_marks round ts entered searched tested g h l =
    record {
      begun = h.begun;
      routines = λ j. h.routines j ∙ sym (last_is_not (Entered j) (Tested g) ts refl);
      amongs = λ j k. h.amongs j k ∙ sym (last_is_not (Searched j k) (Tested g) ts refl);
      groupings = λ j. set_mark round tested g j (Tested j) ts (Tested g) _ refl refl l (h.groupings j);
      entered_by_now = h.entered_by_now;
      searched_by_now = h.searched_by_now;
      tested_by_now = λ j. set_by_now round tested g j _ refl l (h.tested_by_now j);
    }

-- the same in a row
set_row : (round : ℕ) (rows : List (List ℕ)) (i k j l : ℕ) (ts : List Touch) (e : Bool) → nat_eq j i ≡ e → i < length rows → k < length (slice_index_or rows i []) → ((j l : ℕ) → nat_eq (mark_in rows j l) round ≡ list_any (same_touch (Searched j l)) ts) → nat_eq (mark_in (slice_set rows i (slice_set (slice_index_or rows i []) k round)) j l) round ≡ list_any (same_touch (Searched j l)) (ts ++ (Searched i k ∷ []))
set_row round rows i k j l ts true h a b g =
    let marks = slice_index_or rows i [] in
    let is = eqb-true j i h in
    ap (λ n. nat_eq (mark_in (slice_set rows i (slice_set marks k round)) n l) round) is
    ∙ ap (λ ms. nat_eq (mark_at ms l) round) (get_or-set_same rows i (slice_set marks k round) [] a)
    ∙ set_mark round marks k l (Searched i l) ts (Searched i k) _ refl (ap (λ b. b && nat_eq l k) (eq-eqb i i refl)) b (g i l)
    ∙ sym (ap (λ n. list_any (same_touch (Searched n l)) (ts ++ (Searched i k ∷ []))) is)
set_row round rows i k j l ts false h a b g =
    let marks = slice_index_or rows i [] in
    ap (λ ms. nat_eq (mark_at ms l) round) (get_or-set_other rows i j (slice_set marks k round) [] (differ i j h))
    ∙ g j l
    ∙ sym (last_is_not (Searched j l) (Searched i k) ts (ap (λ b. b && nat_eq l k) h))

set_row_by_now : (round : ℕ) (rows : List (List ℕ)) (i k j l : ℕ) (e : Bool) → nat_eq j i ≡ e → i < length rows → k < length (slice_index_or rows i []) → ((j l : ℕ) → mark_in rows j l ≤ round) → mark_in (slice_set rows i (slice_set (slice_index_or rows i []) k round)) j l ≤ round
set_row_by_now round rows i k j l true h a b g =
    let marks = slice_index_or rows i [] in
    let e : mark_in (slice_set rows i (slice_set marks k round)) j l ≡ mark_at (slice_set marks k round) l =
    ap (λ n. mark_in (slice_set rows i (slice_set marks k round)) n l) (eqb-true j i h) ∙ ap (λ ms. mark_at ms l) (get_or-set_same rows i (slice_set marks k round) [] a) in
    omega (arith, e, set_by_now round marks k l _ refl b (g i l))
set_row_by_now round rows i k j l false h a b g =
    let e = ap (λ ms. mark_at ms l) (get_or-set_other rows i j (slice_set (slice_index_or rows i []) k round) [] (differ i j h)) in
    omega (arith, e, g j l)

pub searched_marks : (round : ℕ) (ts : List Touch) (entered : List ℕ) (searched : List (List ℕ)) (tested : List ℕ) (i k : ℕ) → AreMarked round ts entered searched tested → i < length searched → k < length (slice_index_or searched i []) → AreMarked round (ts ++ (Searched i k ∷ [])) entered (slice_set searched i (slice_set (slice_index_or searched i []) k round)) tested
searched_marks round ts entered searched tested i k h a b =
    record {
      begun = h.begun;
      routines = λ j. h.routines j ∙ sym (last_is_not (Entered j) (Searched i k) ts refl);
      amongs = λ j l. set_row round searched i k j l ts _ refl a b h.amongs;
      groupings = λ g. h.groupings g ∙ sym (last_is_not (Tested g) (Searched i k) ts refl);
      entered_by_now = h.entered_by_now;
      searched_by_now = λ j l. set_row_by_now round searched i k j l _ refl a b h.searched_by_now;
      tested_by_now = h.tested_by_now;
    }

-- ---- another round

earlier : (mark round next : ℕ) → mark ≤ round → round < next → nat_eq mark next ≡ false
earlier mark round next a b = ne_eqb mark next (λ e. omega (arith, e, a, b))

-- in a later round nothing is touched
pub later_marks : (round next : ℕ) (ts : List Touch) (entered : List ℕ) (searched : List (List ℕ)) (tested : List ℕ) → AreMarked round ts entered searched tested → round < next → AreMarked next [] entered searched tested
later_marks round next ts entered searched tested h l =
    record {
      begun = omega (arith, l);
      routines = λ i. earlier _ round next (h.entered_by_now i) l;
      amongs = λ i k. earlier _ round next (h.searched_by_now i k) l;
      groupings = λ g. earlier _ round next (h.tested_by_now g) l;
      entered_by_now = λ i. omega (arith, h.entered_by_now i, l);
      searched_by_now = λ i k. omega (arith, h.searched_by_now i k, l);
      tested_by_now = λ g. omega (arith, h.tested_by_now g, l);
    }

-- the first round, without marks
pub first_marks : AreMarked 1 [] [] [] []
first_marks =
    record {
      begun = omega arith;
      routines = λ i. refl;
      amongs = λ i k. refl;
      groupings = λ g. refl;
      entered_by_now = λ i. omega arith;
      searched_by_now = λ i k. omega arith;
      tested_by_now = λ g. omega arith;
    }

-- ---- rows that were grown

pub same_row : (rows : List (List ℕ)) (i : ℕ) (marks : List ℕ) (j l : ℕ) (e : Bool) → nat_eq j i ≡ e → i < length rows → ((l : ℕ) → mark_at marks l ≡ mark_in rows i l) → mark_in (slice_set rows i marks) j l ≡ mark_in rows j l
same_row rows i marks j l true h a g =
    let is = eqb-true j i h in
    ap (λ n. mark_in (slice_set rows i marks) n l) is ∙ ap (λ ms. mark_at ms l) (get_or-set_same rows i marks [] a) ∙ g l ∙ sym (ap (λ n. mark_in rows n l) is)
same_row rows i marks j l false h a g = ap (λ ms. mark_at ms l) (get_or-set_other rows i j marks [] (differ i j h))

length_set : {A : Type 0} (xs : List A) (i : ℕ) (y : A) → length (slice_set xs i y) ≡ length xs
length_set [] i y = refl
length_set (x ∷ xs) zero y = refl
length_set (x ∷ xs) (suc i) y = ap suc (length_set xs i y)

row_set : {V : Type 0} (f : V → List ℕ) (xs : List V) (i : ℕ) (v : V) → i < length xs → slice_index_or (map f (slice_set xs i v)) i [] ≡ f v
row_set f [] i v l = absurd (omega arith)
row_set f (x ∷ xs) zero v l = refl
row_set f (x ∷ xs) (suc i) v l = row_set f xs i v (omega arith)

pub mark_there : {V : Type 0} (f : V → List ℕ) (r : Result (Unit {0}) AllocError) (xs : List V) (i k : ℕ) (v : V) → i < length xs → IfOk r (λ x. k < length (f v)) → IfOk r (λ x. (i < length (slice_set xs i v)) × (k < length (slice_index_or (map f (slice_set xs i v)) i [])))
mark_there f (Ok u) xs i k v l h = (omega (arith, l, length_set xs i v), subst (λ ms. k < length ms) (sym (row_set f xs i v l)) h)
mark_there f (Err e) xs i k v l h = tt
