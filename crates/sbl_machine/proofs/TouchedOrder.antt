-- Items in order: each that was there is there.
use Rattle.std.proofs.Common.{◌≡◌, ◌∙◌, ◌||◌, Bool, true, false, List, [], ◌∷◌, map, refl, sym, ap, subst}
use Rattle.std.specs.List.{list_any}
use Rattle.std.specs.declared.cmp.Ordering.{Ordering}
use Rattle.std.specs.declared.cmp.Ordering.TheVariants.{Less, Equal, Greater}
use Rattle.std.specs.Ordering.{match_ordering, nat_cmp, ordering_then}
use Rattle.std.specs.Cmp.Lexicographic.{slice_cmp}
use Rattle.std.specs.BTreeSet.{insert_key}
use Rattle.std.proofs.lemmas.Map.Lookups.{exact_bytes, exact_unsigned}
use Rattle.sbl_semantics.specs.TouchedItems.{item_cmp}
use Rattle.sbl_ast.specs.Folds.{foldr}
use Rattle.sbl_ast.specs.NamedParts.{Part', Routine, Among, Grouping}

pub then_equal : (o p : Ordering) → ordering_then o p ≡ Equal → (o ≡ Equal) × (p ≡ Equal)
then_equal Less p h = let never : Less ≡ Equal = h in absurd cc
then_equal Equal p h = (refl, h)
then_equal Greater p h = let never : Greater ≡ Equal = h in absurd cc

-- items that the order does not tell apart are one
pub item_exact : (x y : Part') → item_cmp x y ≡ Equal → x ≡ y
item_exact (Routine m) (Routine n) h = ap Routine (exact_bytes m n h)
item_exact (Routine m) (Among n l) h = let never : Less ≡ Equal = h in absurd cc
item_exact (Routine m) (Grouping n) h = let never : Less ≡ Equal = h in absurd cc
item_exact (Among m k) (Routine n) h = let never : Greater ≡ Equal = h in absurd cc
item_exact (Among m k) (Grouping n) h = let never : Less ≡ Equal = h in absurd cc
item_exact (Grouping m) (Routine n) h = let never : Greater ≡ Equal = h in absurd cc
item_exact (Grouping m) (Among n l) h = let never : Greater ≡ Equal = h in absurd cc
item_exact (Grouping m) (Grouping n) h = ap Grouping (exact_bytes m n h)
item_exact (Among m k) (Among n l) h =
    let both = then_equal (slice_cmp nat_cmp m n) (nat_cmp k l) h in
    ap (λ x. Among x k) (exact_bytes m n both.0) ∙ ap (Among n) (exact_unsigned k l both.1)

pub or_again : (a b : Bool) → (a || b) ≡ (a || (a || b))
or_again true b = refl
or_again false b = refl

pub or_swap : (a b c : Bool) → (a || (b || c)) ≡ (b || (a || c))
or_swap true true c = refl
or_swap true false c = refl
or_swap false b c = refl

pub any_inserted : (test : Part' → Bool) (xs : List Part') (k : Part') → list_any test (insert_key item_cmp xs k) ≡ (test k || list_any test xs)
any_inserted test [] k = refl
any_inserted test (x ∷ xs) k = by (item_cmp k x) refl (any_inserted test xs k)
  where
    by : (o : Ordering) → item_cmp k x ≡ o → list_any test (insert_key item_cmp xs k) ≡ (test k || list_any test xs)
        → list_any test (match_ordering (item_cmp k x) (k ∷ x ∷ xs) (x ∷ xs) (x ∷ insert_key item_cmp xs k)) ≡ (test k || (test x || list_any test xs))
    by Less h rest = rw h refl
    by Equal h rest = rw h (subst (λ (y : Part'). (test x || list_any test xs) ≡ (test y || (test x || list_any test xs))) (sym (item_exact k x h)) (or_again (test x) (list_any test xs)))
    by Greater h rest = rw h (ap (λ (b : Bool). test x || b) rest ∙ or_swap (test x) (test k) (list_any test xs))

-- items in order, each once
abbrev pub in_item_order : List Part' → List Part'
in_item_order xs = foldr (λ x ys. insert_key item_cmp ys x) [] xs

-- one of the items passes exactly where one of those in order does
pub any_ordered : (test : Part' → Bool) (xs : List Part') → list_any test (in_item_order xs) ≡ list_any test xs
any_ordered test [] = refl
any_ordered test (x ∷ xs) = any_inserted test (in_item_order xs) x ∙ ap (λ (b : Bool). test x || b) (any_ordered test xs)

pub any-mapped : {A B : Type 0} (f : A → B) (test : B → Bool) (xs : List A) → list_any test (map f xs) ≡ list_any (λ x. test (f x)) xs
any-mapped f test [] = refl
any-mapped f test (x ∷ xs) = ap (λ (b : Bool). test (f x) || b) (any-mapped f test xs)
