-- Numbers of pairs: of a list with one more, of two lists, of all pairs.
use Rattle.std.proofs.Common.{◌≡◌, ◌∙◌, ◌+◌, ◌*◌, ◌-◌, ◌/◌, ◌≤◌, ◌<◌, ◌^◌, ◌++◌, Bool, true, false, not, cond, ℕ, suc, List, [], ◌∷◌, length, arith, refl, ap}
use Rattle.std.specs.List.{count_by}
use Rattle.std.proofs.lemmas.List.{length-map, map-append}
use Rattle.std.proofs.lemmas.List.Sums.{count_by-le-length, sum_by-append, sum_by-cons, sum_by_push}
use Rattle.sbl_rows.specs.declared.stem_class.StemPair.{StemPair}
use Rattle.sbl_rows.specs.Classes.{Pair}
use Rattle.sbl_rows.specs.Families.{all_of, any_two, other_stem, pairs_across, pairs_between, pairs_in, pairs_within, same_stem}
use Rattle.sbl_rows.specs.Grouping.{view_pair, view_pairs}

abbrev Test : Type 0
Test = Pair → Pair → Bool

pub count-cons : (p : Pair → Bool) (x : Pair) (xs : List Pair) → count_by p (x ∷ xs) ≡ cond (p x) 1 0 + count_by p xs
count-cons p x xs = sum_by-cons (λ z. cond (p z) 1 0) x xs

-- one word more: it makes a pair with each before it
pub pairs-push : (t : Test) (xs : List Pair) (x : Pair) → pairs_in t (xs ++ x ∷ []) ≡ pairs_in t xs + count_by (λ y. t y x) xs
pairs-push t [] x = refl
pairs-push t (y ∷ xs) x =
    let a : count_by (t y) (xs ++ x ∷ []) ≡ count_by (t y) xs + cond (t y x) 1 0 = sum_by_push (λ z. cond (t y z) 1 0) xs x in
    let b : pairs_in t (xs ++ x ∷ []) ≡ pairs_in t xs + count_by (λ z. t z x) xs = pairs-push t xs x in
    let d : count_by (λ z. t z x) (y ∷ xs) ≡ cond (t y x) 1 0 + count_by (λ z. t z x) xs = count-cons (λ z. t z x) y xs in
    omega arith

-- the pairs of two lists together
pub pairs-append : (t : Test) (xs ys : List Pair) → pairs_in t (xs ++ ys) ≡ pairs_in t xs + pairs_between t xs ys + pairs_in t ys
pairs-append t [] ys = omega arith
pairs-append t (x ∷ xs) ys =
    let a : count_by (t x) (xs ++ ys) ≡ count_by (t x) xs + count_by (t x) ys = sum_by-append (λ z. cond (t x z) 1 0) xs ys in
    let b : pairs_in t (xs ++ ys) ≡ pairs_in t xs + pairs_between t xs ys + pairs_in t ys = pairs-append t xs ys in
    let d : pairs_between t (x ∷ xs) ys ≡ count_by (t x) ys + pairs_between t xs ys = sum_by-cons (λ p. count_by (t p) ys) x xs in
    omega arith

-- the pairs of all words are those within families and those across
pub pairs-all : (t : Test) (families : List (List Pair)) → pairs_in t (all_of families) ≡ pairs_within t families + pairs_across t families
pairs-all t [] = refl
pairs-all t (f ∷ families) =
    let a : pairs_in t (f ++ all_of families) ≡ pairs_in t f + pairs_between t f (all_of families) + pairs_in t (all_of families) = pairs-append t f (all_of families) in
    let b : pairs_in t (all_of families) ≡ pairs_within t families + pairs_across t families = pairs-all t families in
    let d : pairs_within t (f ∷ families) ≡ pairs_in t f + pairs_within t families = sum_by-cons (pairs_in t) f families in
    omega arith

count-all : (x : Pair) (xs : List Pair) → count_by (any_two x) xs ≡ length xs
count-all x [] = refl
count-all x (y ∷ xs) =
    let a : count_by (any_two x) (y ∷ xs) ≡ 1 + count_by (any_two x) xs = count-cons (any_two x) y xs in
    let b : count_by (any_two x) xs ≡ length xs = count-all x xs in
    omega arith

square-suc : (n : ℕ) → suc n * suc n ≡ n * n + 2 * n + 1
square-suc n = grind arith

-- a list of n words has n (n - 1) / 2 pairs
pub pairs-any : (xs : List Pair) → 2 * pairs_in any_two xs + length xs ≡ length xs * length xs
pairs-any [] = refl
pairs-any (x ∷ xs) =
    let a : count_by (any_two x) xs ≡ length xs = count-all x xs in
    let b : 2 * pairs_in any_two xs + length xs ≡ length xs * length xs = pairs-any xs in
    let d : suc (length xs) * suc (length xs) ≡ length xs * length xs + 2 * length xs + 1 = square-suc (length xs) in
    omega arith

pub pairs-le : (t : Test) (xs : List Pair) → pairs_in t xs ≤ pairs_in any_two xs
pairs-le t [] = omega arith
pairs-le t (x ∷ xs) =
    let a : count_by (t x) xs ≤ length xs = count_by-le-length (t x) xs in
    let b : count_by (any_two x) xs ≡ length xs = count-all x xs in
    let d : pairs_in t xs ≤ pairs_in any_two xs = pairs-le t xs in
    omega arith

square-le : (n m : ℕ) → n ≤ m → n * n ≤ m * m
square-le n m h = grind arith

-- the pairs of a list that fits into memory
pub pairs-fit : (xs : List Pair) → length xs < 2 ^ 64 → pairs_in any_two xs < 2 ^ 127
pairs-fit xs h =
    let a : 2 * pairs_in any_two xs + length xs ≡ length xs * length xs = pairs-any xs in
    let b : length xs * length xs ≤ 18446744073709551615 * 18446744073709551615 = square-le (length xs) 18446744073709551615 (omega arith) in
    omega arith

count-either : (p : Pair → Bool) (xs : List Pair) → count_by p xs + count_by (λ x. not (p x)) xs ≡ length xs
count-either p [] = refl
count-either p (x ∷ xs) =
    let a : count_by p (x ∷ xs) ≡ cond (p x) 1 0 + count_by p xs = count-cons p x xs in
    let b : count_by (λ z. not (p z)) (x ∷ xs) ≡ cond (not (p x)) 1 0 + count_by (λ z. not (p z)) xs = count-cons (λ z. not (p z)) x xs in
    let d : count_by p xs + count_by (λ z. not (p z)) xs ≡ length xs = count-either p xs in
    let e : cond (p x) 1 0 + cond (not (p x)) 1 0 ≡ 1 = one (p x) in
    omega arith
  where
    one : (b : Bool) → cond b 1 0 + cond (not b) 1 0 ≡ 1
    one true = refl
    one false = refl

-- a pair shares a stem or has two
pub pairs-either : (xs : List Pair) → pairs_in same_stem xs + pairs_in other_stem xs ≡ pairs_in any_two xs
pairs-either [] = refl
pairs-either (x ∷ xs) =
    let a : count_by (same_stem x) xs + count_by (other_stem x) xs ≡ length xs = count-either (same_stem x) xs in
    let b : count_by (any_two x) xs ≡ length xs = count-all x xs in
    let d : pairs_in same_stem xs + pairs_in other_stem xs ≡ pairs_in any_two xs = pairs-either xs in
    omega arith

pub within-either : (families : List (List Pair)) → pairs_within same_stem families + pairs_within other_stem families ≡ pairs_within any_two families
within-either [] = refl
within-either (f ∷ families) =
    let a : pairs_within same_stem (f ∷ families) ≡ pairs_in same_stem f + pairs_within same_stem families = sum_by-cons (pairs_in same_stem) f families in
    let b : pairs_within other_stem (f ∷ families) ≡ pairs_in other_stem f + pairs_within other_stem families = sum_by-cons (pairs_in other_stem) f families in
    let d : pairs_within any_two (f ∷ families) ≡ pairs_in any_two f + pairs_within any_two families = sum_by-cons (pairs_in any_two) f families in
    let e : pairs_in same_stem f + pairs_in other_stem f ≡ pairs_in any_two f = pairs-either f in
    let g : pairs_within same_stem families + pairs_within other_stem families ≡ pairs_within any_two families = within-either families in
    omega arith

pub half : (n p : ℕ) → 2 * p + n ≡ n * n → (n * n - n) / 2 ≡ p
half n p e = omega arith

-- the pairs of two lists that fit into memory together
pub both-fit : (xs ys zs : List Pair) → zs ≡ xs ++ ys → length zs < 2 ^ 64 → pairs_in any_two xs + pairs_in any_two ys < 2 ^ 127
both-fit xs ys zs e h =
    let a : pairs_in any_two zs ≡ pairs_in any_two xs + pairs_between any_two xs ys + pairs_in any_two ys = ap (pairs_in any_two) e ∙ pairs-append any_two xs ys in
    let b : pairs_in any_two zs < 2 ^ 127 = pairs-fit zs h in
    omega arith

-- what is counted within families is not more than the pairs of all words
pub within-at : (t : Test) (families : List (List Pair)) (words : List Pair) (n : ℕ) → words ≡ all_of families → n ≡ pairs_within t families → n ≤ pairs_in any_two words
within-at t families words n e h =
    let a : pairs_in t (all_of families) ≡ pairs_within t families + pairs_across t families = pairs-all t families in
    let b : pairs_in t (all_of families) ≤ pairs_in any_two (all_of families) = pairs-le t (all_of families) in
    let d : pairs_in any_two words ≡ pairs_in any_two (all_of families) = ap (pairs_in any_two) e in
    omega arith

-- the pairs of the words of a family and of those before it are few enough to be added
pub together-fit : (before family after : List StemPair) → after ≡ before ++ family → length after < 2 ^ 64 → pairs_in any_two (view_pairs before) + pairs_in any_two (view_pairs family) < 2 ^ 127
together-fit before family after e h =
    let same : length (view_pairs after) ≡ length after = length-map after view_pair in
    both-fit (view_pairs before) (view_pairs family) (view_pairs after) (ap view_pairs e ∙ map-append view_pair before family) (omega arith)

-- a count of the pairs of all words is of those within families and of those across them
pub within-across : (t : Test) (families : List (List Pair)) (words counted : List StemPair) (n : ℕ) → n ≡ pairs_in t (view_pairs counted) → counted ≡ words → view_pairs words ≡ all_of families
    → n ≡ pairs_within t families + pairs_across t families
within-across t families words counted n is same all = is ∙ ap (λ (l : List StemPair). pairs_in t (view_pairs l)) same ∙ ap (pairs_in t) all ∙ pairs-all t families
