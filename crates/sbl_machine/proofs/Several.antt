-- What is built from one of several groupings, and what one of several items affects.
use Rattle.std.proofs.Common.{◌≡◌, ◌∙◌, ◌||◌, ◌&&◌, ℕ, Bool, true, false, List, [], ◌∷◌, ◌++◌, map, refl, sym, ap, ⊎_elim}
use Rattle.std.specs.Prelude.{if◌then◌else◌}
use Rattle.std.specs.List.{AllByRecursion, list_all, list_any}
use Rattle.std.specs.Str.{bytes_eq}
use Rattle.std.proofs.lemmas.Bool.{eq-eqb, true≢false, or_cases, or_left, or_right}
use Rattle.std.proofs.Math.Path.{fun_ext}
use Rattle.sbl_ast.specs.Order.{ItemInMode, in_order}
use Rattle.sbl_ast.specs.Tree.{Argument, written_out, by_name, Term, term, Plain, grouping}
use Rattle.sbl_resolver.specs.Checks.{WellDeclared}
use Rattle.sbl_resolver.specs.Laws.{WellDeclaredPasses}
use Rattle.sbl_semantics.specs.Items.{is_member}
use Rattle.sbl_machine.specs.BuiltFrom.{any_names, IsClosed, IsClosedAt, and_built, is_affected_by, affected_by, meets, meets_one}
use Rattle.sbl_machine.specs.inside.BuiltFromParts.{names}
use Rattle.sbl_machine.specs.inside.BuiltFromParts.{built_on, built_after}
use Rattle.sbl_machine.specs.DifferLaws.{OneAffects, OneMeets}
use Rattle.sbl_semantics.specs.Outcome.{touches_of}
use Rattle.sbl_semantics.specs.TouchedItems.{item_of_touch, names_of}
use Rattle.sbl_ast.specs.NamedParts.{Part', Routine, Among, Grouping}
use Rattle.sbl_machine.proofs.BuiltFrom.{affected_closed, built_more}
use Rattle.sbl_semantics.proofs.SameSelf.{also, name_self}
use Rattle.sbl_ast.specs.Source.{Source}

-- ---- one of a list

pub or_false : (a : Bool) → (a || false) ≡ a
or_false true = refl
or_false false = refl

or_cross : (a b c d : Bool) → ((a || b) || (c || d)) ≡ ((a || c) || (b || d))
or_cross true b c d = refl
or_cross false true true d = refl
or_cross false true false d = refl
or_cross false false c d = refl

and_over_or : (a b c : Bool) → ((a && c) || (b && c)) ≡ ((a || b) && c)
and_over_or true true true = refl
and_over_or true true false = refl
and_over_or true false true = refl
and_over_or true false false = refl
and_over_or false b c = refl

module _ {X : Type 0} where
  any_none : (xs : List X) → list_any (λ x. false) xs ≡ false
  any_none [] = refl
  any_none (x ∷ xs) = any_none xs

  any_or : (p q : X → Bool) (xs : List X) → list_any (λ x. p x || q x) xs ≡ (list_any p xs || list_any q xs)
  any_or p q [] = refl
  any_or p q (x ∷ xs) = ap (λ (b : Bool). (p x || q x) || b) (any_or p q xs) ∙ or_cross (p x) (q x) (list_any p xs) (list_any q xs)

  any_and : (p : X → Bool) (c : Bool) (xs : List X) → list_any (λ x. p x && c) xs ≡ (list_any p xs && c)
  any_and p c [] = refl
  any_and p c (x ∷ xs) = ap (λ (b : Bool). (p x && c) || b) (any_and p c xs) ∙ and_over_or (p x) (list_any p xs) c

  any_then : (p q : X → Bool) → ((x : X) → p x ≡ true → q x ≡ true) → (xs : List X) → list_any p xs ≡ true → list_any q xs ≡ true
  any_then p q f [] h = absurd (true≢false (sym h))
  any_then p q f (x ∷ xs) h = ⊎_elim (λ e. or_left (q x) _ (f x e)) (λ e. or_right (q x) _ (any_then p q f xs e)) (or_cases (p x) _ h)

  -- each of a list is related to one of a list that has it
  each_has : (p : X → X → Bool) → ((x : X) → p x x ≡ true) → (xs zs : List X) → ((y : X) → list_any (λ x. p x y) xs ≡ true → list_any (λ x. p x y) zs ≡ true) → list_all (λ y. list_any (λ x. p x y) zs) xs ≡ true
  each_has p own [] zs h = refl
  each_has p own (x ∷ xs) zs h = also _ _ (h x (or_left (p x x) _ (own x))) (each_has p own xs zs (λ y e. h y (or_right (p x y) _ e)))

-- ---- terms that name one of several

module _ {X : Type 0} (choose : X → List ℕ → Bool) (xs : List X) where
  abbrev is_chosen : List ℕ → Bool
  is_chosen m = list_any (λ x. choose x m) xs

  name_any : (a : Argument) → names is_chosen a ≡ list_any (λ x. names (choose x) a) xs
  name_any (written_out q) = sym (any_none xs)
  name_any (by_name n) = refl

  names_any : (ts : List Term) → any_names is_chosen ts ≡ list_any (λ x. any_names (choose x) ts) xs
  names_any [] = sym (any_none xs)
  names_any (term o a ∷ ts) = (λ i. name_any a i || names_any ts i) ∙ sym (any_or (λ x. names (choose x) a) (λ x. any_names (choose x) ts) xs)

  built_on_any : (a : Argument) (ts : List Term) → built_on is_chosen a ts ≡ list_any (λ x. built_on (choose x) a ts) xs
  built_on_any a ts = (λ i. name_any a i || names_any ts i) ∙ sym (any_or (λ x. names (choose x) a) (λ x. any_names (choose x) ts) xs)

-- ---- closed sets together are closed

module _ {X : Type 0} (picked : X → Part' → Bool) (xs : List X) where
  abbrev one_picks : Part' → Bool
  one_picks y = list_any (λ x. picked x y) xs

  closed_at : (x : Plain) → ((k : X) → IsClosedAt (picked k) x) → IsClosedAt one_picks x
  closed_at (grouping n a ts) each =
      λ h. any_then (λ k. built_on (λ m. picked k (Grouping m)) a ts) (λ k. picked k (Grouping n)) each xs (sym (built_on_any (λ k m. picked k (Grouping m)) xs a ts) ∙ h)
  closed_at _ each = tt

  closed_in : (is : List ItemInMode) → ((k : X) → AllByRecursion (λ x. IsClosedAt (picked k) x.plain) is) → AllByRecursion (λ x. IsClosedAt one_picks x.plain) is
  closed_in [] each = tt
  closed_in (x ∷ is) each = (closed_at x.plain (λ k. (each k).0), closed_in is (λ k. (each k).1))

pub several_closed : WellDeclaredPasses → (s : Source) → WellDeclared s.items s.external → (xs : List Part') → IsClosed (affected_by s xs) s
several_closed passes s well xs = closed_in (is_affected_by s) xs (in_order s.items) (λ x. affected_closed passes s well x)

-- ---- an item affects itself

affects_itself : (s : Source) (x : Part') → is_affected_by s x x ≡ true
affects_itself s (Routine n) = name_self n
affects_itself s (Among n k) = also _ _ (name_self n) (eq-eqb k k refl)
affects_itself s (Grouping n) = built_more (in_order s.items) (n ∷ []) n (ap (λ (b : Bool). if b then true else false) (name_self n))

pub all_affected : (s : Source) (xs : List Part') → list_all (affected_by s xs) xs ≡ true
all_affected s xs = each_has (is_affected_by s) (affects_itself s) xs xs (λ y h. h)

-- ---- one item

pub one_affects : OneAffects
one_affects s x y = or_false (is_affected_by s x y)

pub one_meets : OneMeets
unfolding meets meets_one
one_meets x s word limit = ap (λ (p : Part' → Bool). list_any p (map (item_of_touch (names_of s)) (touches_of s word limit))) (fun_ext (one_affects s x))

-- ---- what is built from several groupings

added_by : (b : Bool) (x r n : List ℕ) (ms : List (List ℕ)) → is_member (ms ++ r ∷ []) n ≡ (is_member ms n || bytes_eq r n) → (if b then true else is_member (ms ++ r ∷ []) n) ≡ ((if b then true else is_member ms n) || bytes_eq r n)
added_by true x r n ms h = refl
added_by false x r n ms h = h

itself : (b : Bool) → (if b then true else false) ≡ b
itself true = refl
itself false = refl

-- one name more
pub is_member_more : (ms : List (List ℕ)) (r n : List ℕ) → is_member (ms ++ r ∷ []) n ≡ (is_member ms n || bytes_eq r n)
is_member_more [] r n = itself (bytes_eq r n)
is_member_more (x ∷ ms) r n = added_by (bytes_eq x n) x r n ms (is_member_more ms r n)

if_built : (b : Bool) (r n : List ℕ) (ms : List (List ℕ)) → is_member (if b then ms ++ r ∷ [] else ms) n ≡ (is_member ms n || (b && bytes_eq r n))
if_built true r n ms = is_member_more ms r n
if_built false r n ms = sym (or_false (is_member ms n))

module _ {X : Type 0} (xs : List X) where
  -- a name is one of these exactly if it is one of those of an x
  abbrev AreOf : List (List ℕ) → (X → List (List ℕ)) → Type 0
  AreOf ms of = (n : List ℕ) → is_member ms n ≡ list_any (λ x. is_member (of x) n) xs

  item_of_several : (y : Plain) (ms : List (List ℕ)) (of : X → List (List ℕ)) → AreOf ms of → AreOf (and_built y ms) (λ x. and_built y (of x))
  item_of_several (grouping r a ts) ms of are n =
      let on : built_on (is_member ms) a ts ≡ list_any (λ x. built_on (is_member (of x)) a ts) xs = ap (λ (c : List ℕ → Bool). built_on c a ts) (fun_ext are) ∙ built_on_any (λ x. is_member (of x)) xs a ts in
      if_built (built_on (is_member ms) a ts) r n ms
      ∙ (λ i. are n i || (on i && bytes_eq r n))
      ∙ ap (λ (b : Bool). list_any (λ x. is_member (of x) n) xs || b) (sym (any_and (λ x. built_on (is_member (of x)) a ts) (bytes_eq r n) xs))
      ∙ sym (any_or (λ x. is_member (of x) n) (λ x. built_on (is_member (of x)) a ts && bytes_eq r n) xs)
      ∙ ap (λ (p : X → Bool). list_any p xs) (fun_ext (λ x. sym (if_built (built_on (is_member (of x)) a ts) r n (of x))))
  item_of_several _ ms of are n = are n

  built_of : (is : List ItemInMode) (ms : List (List ℕ)) (of : X → List (List ℕ)) → AreOf ms of → AreOf (built_after is ms) (λ x. built_after is (of x))
  built_of [] ms of are = are
  built_of (y ∷ is) ms of are = built_of is (and_built y.plain ms) (λ x. and_built y.plain (of x)) (item_of_several y.plain ms of are)

alone : (ms : List (List ℕ)) → AreOf ms ms (λ n. n ∷ [])
alone [] n = refl
alone (m ∷ ms) n = by (bytes_eq m n) (alone ms n)
  where
    by : (b : Bool) → is_member ms n ≡ list_any (λ k. is_member (k ∷ []) n) ms → (if b then true else is_member ms n) ≡ ((if b then true else false) || list_any (λ k. is_member (k ∷ []) n) ms)
    by true h = refl
    by false h = h

-- a grouping is built from one of several exactly if it is built from one of them alone
pub built_from_several : (is : List ItemInMode) (ms : List (List ℕ)) (n : List ℕ) → is_member (built_after is ms) n ≡ list_any (λ m. is_member (built_after is (m ∷ [])) n) ms
built_from_several is ms n = built_of ms is ms (λ m. m ∷ []) (alone ms) n
