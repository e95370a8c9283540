-- Strings in the order of their characters, and their prefixes.
use Rattle.std.proofs.Common.{◌≡◌, ℕ, zero, suc, ◌<◌, ◌≤◌, Bool, true, false, List, [], ◌∷◌, length, take, refl, sym, ap, ◌∙◌, arith, get_or}
use Rattle.std.specs.Prelude.{nat_eq, nat_lt}
use Rattle.std.specs.List.{starts_with}
use Rattle.std.specs.declared.cmp.Ordering.{Ordering}
use Rattle.std.specs.declared.cmp.Ordering.TheVariants.{Less, Equal, Greater}
use Rattle.std.specs.Ordering.{is_gt, nat_cmp, ordering_then}
use Rattle.std.specs.Cmp.{tied_itself, nat_cmp_total}
use Rattle.std.specs.Cmp.Lexicographic.{slice_cmp}
use Rattle.std.proofs.lemmas.Cmp.{ranked}
use Rattle.std.proofs.lemmas.List.{length-take, take_all}
use Rattle.std.proofs.lemmas.Bool.{ltb-true, ltb-false, eqb-true, eqb-false}
use Rattle.std.specs.Bool.{MatchBool}
use Rattle.sbl_program.specs.Linked.{IsCommon}
use Rattle.sbl_program.proofs.Fits.{prefix_is, prefix_length, taken_prefix, take_take}

level : (a : ℕ) (r : Ordering) → is_gt (ordering_then (nat_cmp a a) r) ≡ is_gt r
level a r = ap (λ o. is_gt (ordering_then o r)) (tied_itself nat_cmp_total a)

-- a prefix does not stand after what it is a prefix of
take_upto : (n : ℕ) (x : List ℕ) → is_gt (slice_cmp nat_cmp (take n x) x) ≡ false
take_upto zero [] = refl
take_upto zero (a ∷ x) = refl
take_upto (suc n) [] = refl
take_upto (suc n) (a ∷ x) = level a (slice_cmp nat_cmp (take n x) x) ∙ take_upto n x

pub prefix_upto : (x f : List ℕ) → starts_with nat_eq x f ≡ true → is_gt (slice_cmp nat_cmp f x) ≡ false
prefix_upto x f h = ap (λ t. is_gt (slice_cmp nat_cmp t x)) (prefix_is x f h) ∙ take_upto (length f) x

-- and a string stands after its shorter prefixes
take_after : (n : ℕ) (x : List ℕ) → n < length x → is_gt (slice_cmp nat_cmp x (take n x)) ≡ true
take_after n [] h = absurd (omega arith)
take_after zero (a ∷ x) h = refl
take_after (suc n) (a ∷ x) h = level a (slice_cmp nat_cmp x (take n x)) ∙ take_after n x (omega arith)

pub prefix_not_after : (x f : List ℕ) → starts_with nat_eq x f ≡ true → length f < length x → is_gt (slice_cmp nat_cmp x f) ≡ true
prefix_not_after x f h l = ap (λ t. is_gt (slice_cmp nat_cmp x t)) (prefix_is x f h) ∙ take_after (length f) x l

pub true_or_false : (b : Bool) → b ≡ true → b ≡ false → ⊥
true_or_false b p q = let e : true ≡ false = sym p ∙ q in cc

upto_first : (a b : ℕ) (o r : Ordering) → o ≡ nat_cmp a b → is_gt (ordering_then o r) ≡ false → a ≤ b
upto_first a b Less r e h = let l : a < b = ranked a b Less e in omega arith
upto_first a b Equal r e h = let l : a ≡ b = ranked a b Equal e in omega arith
upto_first a b Greater r e h = absurd (true_or_false true refl h)

-- what stands between a prefix of x and x has that prefix too
take_between : (n : ℕ) (x p : List ℕ) → n ≤ length x → is_gt (slice_cmp nat_cmp (take n x) p) ≡ false → is_gt (slice_cmp nat_cmp p x) ≡ false → take n x ≡ take n p
take_between zero x p l h k = refl
take_between (suc n) [] p l h k = absurd (omega arith)
take_between (suc n) (a ∷ x) [] l h k = absurd (true_or_false true refl h)
take_between (suc n) (a ∷ x) (b ∷ p) l h k =
    let up : a ≤ b = upto_first a b (nat_cmp a b) (slice_cmp nat_cmp (take n x) p) refl h in
    let down : b ≤ a = upto_first b a (nat_cmp b a) (slice_cmp nat_cmp p x) refl k in
    let same : a ≡ b = omega arith in
    let h2 : is_gt (slice_cmp nat_cmp (take n x) p) ≡ false = sym (level a (slice_cmp nat_cmp (take n x) p)) ∙ ap (λ c. is_gt (ordering_then (nat_cmp a c) (slice_cmp nat_cmp (take n x) p))) same ∙ h in
    let k2 : is_gt (slice_cmp nat_cmp p x) ≡ false = sym (level a (slice_cmp nat_cmp p x)) ∙ ap (λ c. is_gt (ordering_then (nat_cmp c a) (slice_cmp nat_cmp p x))) same ∙ k in
    ap (λ t. a ∷ t) (take_between n x p (omega arith) h2 k2) ∙ ap (λ c. c ∷ take n p) same

pub between : (x f p : List ℕ) → starts_with nat_eq x f ≡ true → is_gt (slice_cmp nat_cmp f p) ≡ false → is_gt (slice_cmp nat_cmp p x) ≡ false → starts_with nat_eq p f ≡ true
between x f p h lower upper =
    let n = length f in
    let l : n ≤ length x = prefix_length x f h in
    let is : f ≡ take n x = prefix_is x f h in
    let both : take n x ≡ take n p = take_between n x p l (ap (λ t. is_gt (slice_cmp nat_cmp t p)) (sym is) ∙ lower) upper in
    let e : f ≡ take n p = is ∙ both in
    let long : n ≤ length p = let m : length f ≡ length (take n p) = ap length e in omega (arith, m, length-take n p) in
    taken_prefix p f n long e

-- of two prefixes the shorter is a prefix of the longer
pub shorter_prefix : (x f g : List ℕ) → starts_with nat_eq x f ≡ true → starts_with nat_eq x g ≡ true → length f ≤ length g → starts_with nat_eq g f ≡ true
shorter_prefix x f g h k l =
    let e : f ≡ take (length f) g = prefix_is x f h ∙ sym (take_take (length f) (length g) x l) ∙ ap (take (length f)) (sym (prefix_is x g k)) in
    taken_prefix g f (length f) l e

-- prefixes of one length are the same
pub same_prefix : (x f g : List ℕ) → starts_with nat_eq x f ≡ true → starts_with nat_eq x g ≡ true → length f ≡ length g → f ≡ g
same_prefix x f g h k n = prefix_is x f h ∙ ap (λ l. take l x) n ∙ sym (prefix_is x g k)

pub itself : (x : List ℕ) → starts_with nat_eq x x ≡ true
itself x = taken_prefix x x (length x) (omega arith) (sym (take_whole x))
  where
    take_whole : (x : List ℕ) → take (length x) x ≡ x
    take_whole [] = refl
    take_whole (a ∷ x) = ap (λ t. a ∷ t) (take_whole x)

-- ---- by what a text and a string have in common

pub not_after : (x t : List ℕ) (n : ℕ) → IsCommon x t n → length t ≤ n → is_gt (slice_cmp nat_cmp t x) ≡ false
not_after x t n common l =
    let e : t ≡ take n x = sym (take_all n t l) ∙ sym common.same in
    ap (λ y. is_gt (slice_cmp nat_cmp y x)) e ∙ take_upto n x

pub after_all : (x t : List ℕ) (n : ℕ) → IsCommon x t n → length x ≤ n → n < length t → is_gt (slice_cmp nat_cmp t x) ≡ true
after_all x t n common l k =
    let e : x ≡ take n t = sym (take_all n x l) ∙ common.same in
    ap (λ y. is_gt (slice_cmp nat_cmp t y)) e ∙ take_after n t k

apart_first : (a b : ℕ) (o r : Ordering) (t : Bool) → o ≡ nat_cmp b a → nat_lt a b ≡ t → (a ≡ b → ⊥) → t ≡ is_gt (ordering_then o r)
apart_first a b Less r true e h f = let l : b < a = ranked b a Less e in absurd (omega (arith, l, ltb-true a b h))
apart_first a b Less r false e h f = refl
apart_first a b Equal r t e h f = let l : b ≡ a = ranked b a Equal e in absurd (f (sym l))
apart_first a b Greater r true e h f = refl
apart_first a b Greater r false e h f = let l : a < b = ranked b a Greater e in absurd (omega (arith, l, ltb-false a b h))

apart_at : (n : ℕ) (x t : List ℕ) → n < length x → n < length t → take n x ≡ take n t → (get_or x n 0 ≡ get_or t n 0 → ⊥) → nat_lt (get_or x n 0) (get_or t n 0) ≡ is_gt (slice_cmp nat_cmp t x)
apart_at n [] t h k e f = absurd (omega arith)
apart_at n (a ∷ x) [] h k e f = absurd (omega arith)
apart_at zero (a ∷ x) (b ∷ t) h k e f = apart_first a b (nat_cmp b a) (slice_cmp nat_cmp t x) (nat_lt a b) refl refl f
apart_at (suc n) (a ∷ x) (b ∷ t) h k e f =
    let same : a ≡ b = cc in
    let rest : take n x ≡ take n t = cc in
    apart_at n x t (omega arith) (omega arith) rest f ∙ sym (level b (slice_cmp nat_cmp t x)) ∙ ap (λ c. is_gt (ordering_then (nat_cmp b c) (slice_cmp nat_cmp t x))) (sym same)

pub after_by : (x t : List ℕ) (n : ℕ) → IsCommon x t n → n < length x → n < length t → nat_lt (get_or x n 0) (get_or t n 0) ≡ is_gt (slice_cmp nat_cmp t x)
after_by x t n common h k = apart_at n x t h k common.same (common.apart h k)

get_or_take : (n l : ℕ) (x : List ℕ) → n < l → get_or (take l x) n 0 ≡ get_or x n 0
get_or_take n zero x h = absurd (omega arith)
get_or_take n (suc l) [] h = refl
get_or_take zero (suc l) (a ∷ x) h = refl
get_or_take (suc n) (suc l) (a ∷ x) h = get_or_take n l x (omega arith)

pub prefix_or : (x t : List ℕ) (n below : ℕ) (b : Bool) → IsCommon x t n → length t < below → nat_eq n (length t) ≡ b → MatchBool b ((starts_with nat_eq x t ≡ true) × (length t < below)) (starts_with nat_eq x t ≡ true → below ≤ length t)
prefix_or x t n below true common l e =
    let same : n ≡ length t = eqb-true n (length t) e in
    let is : t ≡ take n x = sym (take_all n t (omega (arith, same))) ∙ sym common.same in
    (taken_prefix x t n common.in_x is, l)
prefix_or x t n below false common l e = λ prefix.
    let other : n ≡ length t → ⊥ = eqb-false n (length t) e in
    let k : n < length t = omega (arith, common.in_text, other) in
    let h : n < length x = omega (arith, k, prefix_length x t prefix) in
    let is : t ≡ take (length t) x = prefix_is x t prefix in
    let reads : get_or x n 0 ≡ get_or t n 0 = sym (get_or_take n (length t) x k) ∙ ap (λ y. get_or y n 0) (sym is) in
    absurd (common.apart h k reads)
