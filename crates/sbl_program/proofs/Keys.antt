-- The order of keys is the order of their strings.
use Rattle.std.proofs.Common.{◌≡◌, ℕ, zero, suc, ◌<◌, ◌≤◌, Bool, true, false, List, [], ◌∷◌, ◌++◌, length, Some, refl, sym, ap, ◌∙◌, arith, get_or}
use Rattle.std.specs.Prelude.{nat_eq, nat_lt, slice_get}
use Rattle.std.specs.declared.cmp.Ordering.{Ordering}
use Rattle.std.specs.declared.cmp.Ordering.TheVariants.{Less, Equal, Greater}
use Rattle.std.specs.Ordering.{is_gt, nat_cmp, ordering_reverse, ordering_then}
use Rattle.std.specs.Cmp.{nat_cmp_total, tied_itself}
use Rattle.std.specs.Cmp.Lexicographic.{nat_list_cmp_total, slice_cmp}
use mathlib.Core.Path.{subst}
use Rattle.std.proofs.lemmas.Option.{slice_get-get_or, slice_get_within}
use Rattle.std.proofs.lemmas.Cmp.{ranked}
use Rattle.std.proofs.lemmas.Bool.{ltb-true, ltb-false, eqb-false}
use Rattle.sbl_program.specs.Keys.{AreKeys, IsKey, IsKeyCount, KeysRise, digit}
use Rattle.sbl_program.specs.Linked.{Rise}
use Rattle.sbl_program.proofs.Chain.{before_or_here}
use Rattle.sbl_program.proofs.Fits.{some_text}
use Rattle.sbl_program.proofs.Order.{true_or_false}

-- ---- digits

pub digit_at : (x : List ℕ) (i : ℕ) → i < length x → digit x i ≡ suc (get_or x i 0)
digit_at [] i h = absurd (omega (arith, h))
digit_at (c ∷ cs) zero h = refl
digit_at (c ∷ cs) (suc i) h = digit_at cs i (omega (arith, h))

pub digit_past : (x : List ℕ) (i : ℕ) → length x ≤ i → digit x i ≡ 0
digit_past [] i h = refl
digit_past (c ∷ cs) zero h = absurd (omega (arith, h))
digit_past (c ∷ cs) (suc i) h = digit_past cs i (omega (arith, h))

-- ---- the first digits that differ decide

greater : (a b : ℕ) (o r : Ordering) → o ≡ nat_cmp b a → a < b → ordering_then o r ≡ Greater
greater a b Less r e h = let l : b < a = ranked b a Less e in absurd (omega (arith, h, l))
greater a b Equal r e h = let l : b ≡ a = ranked b a Equal e in absurd (omega (arith, h, l))
greater a b Greater r e h = refl

sorts_after : (n : ℕ) (x t : List ℕ) → ((i : ℕ) → i < n → digit x i ≡ digit t i) → digit x n < digit t n → slice_cmp nat_cmp t x ≡ Greater
sorts_after n [] [] same h = absurd (omega (arith, h))
sorts_after n [] (b ∷ t) same h = refl
sorts_after n (a ∷ x) [] same h = absurd (omega (arith, h))
sorts_after zero (a ∷ x) (b ∷ t) same h = greater a b (nat_cmp b a) (slice_cmp nat_cmp t x) refl (omega (arith, h))
sorts_after (suc n) (a ∷ x) (b ∷ t) same h =
    let first : suc a ≡ suc b = same 0 (omega arith) in
    let level : a ≡ b = omega (arith, first) in
    let rest : slice_cmp nat_cmp t x ≡ Greater = sorts_after n x t (λ i l. same (suc i) (omega (arith, l))) h in
    ap (λ c. ordering_then (nat_cmp b c) (slice_cmp nat_cmp t x)) level ∙ ap (λ o. ordering_then o (slice_cmp nat_cmp t x)) (tied_itself nat_cmp_total b) ∙ rest

only_zero : (P : ℕ → Type 0) → P 0 → (i : ℕ) → i < 1 → P i
only_zero P p zero l = p
only_zero P p (suc i) l = absurd (omega (arith, l))

zero_and_one : (P : ℕ → Type 0) → P 0 → P 1 → (i : ℕ) → i < 2 → P i
zero_and_one P p q zero l = p
zero_and_one P p q (suc zero) l = q
zero_and_one P p q (suc (suc i)) l = absurd (omega (arith, l))

-- ---- keys decide

pub key_less : (x t : List ℕ) (k l : ℕ) → IsKey x k → IsKey t l → k < l → slice_cmp nat_cmp t x ≡ Greater
key_less x t k l a b less = by_first (nat_lt (digit x 0) (digit t 0)) refl
  where
    same_first : digit t 0 ≤ digit x 0 → digit x 0 ≡ digit t 0
    same_first h = omega (arith, h, less, a.is, b.is, a.second, a.third, b.second, b.third)

    same_second : digit x 0 ≡ digit t 0 → digit t 1 ≤ digit x 1 → digit x 1 ≡ digit t 1
    same_second e h = omega (arith, e, h, less, a.is, b.is, a.third, b.third)

    less_third : digit x 0 ≡ digit t 0 → digit x 1 ≡ digit t 1 → digit x 2 < digit t 2
    less_third e f = omega (arith, e, f, less, a.is, b.is)

    by_second : digit x 0 ≡ digit t 0 → (c : Bool) → nat_lt (digit x 1) (digit t 1) ≡ c → slice_cmp nat_cmp t x ≡ Greater
    by_second e true c = sorts_after 1 x t (only_zero (λ i. digit x i ≡ digit t i) e) (ltb-true (digit x 1) (digit t 1) c)
    by_second e false c =
        let f : digit x 1 ≡ digit t 1 = same_second e (ltb-false (digit x 1) (digit t 1) c) in
        sorts_after 2 x t (zero_and_one (λ i. digit x i ≡ digit t i) e f) (less_third e f)

    by_first : (c : Bool) → nat_lt (digit x 0) (digit t 0) ≡ c → slice_cmp nat_cmp t x ≡ Greater
    by_first true c = sorts_after 0 x t (λ i l. absurd (omega (arith, l))) (ltb-true (digit x 0) (digit t 0) c)
    by_first false c = by_second (same_first (ltb-false (digit x 0) (digit t 0) c)) (nat_lt (digit x 1) (digit t 1)) refl

pub by_keys : (x t : List ℕ) (k l : ℕ) → IsKey x k → IsKey t l → nat_eq l k ≡ false → nat_lt k l ≡ is_gt (slice_cmp nat_cmp t x)
by_keys x t k l a b other = by (nat_lt k l) refl
  where
    by : (c : Bool) → nat_lt k l ≡ c → c ≡ is_gt (slice_cmp nat_cmp t x)
    by true c = sym (ap is_gt (key_less x t k l a b (ltb-true k l c)))
    by false c =
        let more : l < k = omega (arith, ltb-false k l c, eqb-false l k other) in
        sym (ap is_gt (nat_list_cmp_total.antisymm t x ∙ ap ordering_reverse (key_less t x l k b a more)))

-- ---- the keys of rows

pub key_at : (texts : List (List ℕ)) (keys : List ℕ) (k d : ℕ) (text : List ℕ) → AreKeys texts keys → slice_get texts k ≡ Some text → IsKey text (get_or keys k d)
key_at texts keys k d text are at =
    let inside : k < length keys = omega (arith, are.long, slice_get_within texts k text at) in
    are.own k text (get_or keys k d) at (slice_get-get_or keys k d inside)

-- one more key
pub keys_more : (texts : List (List ℕ)) (keys : List ℕ) (i key : ℕ) (own : List ℕ) → length keys ≡ i → slice_get texts i ≡ Some own → IsKey own key → ((k : ℕ) (text : List ℕ) (l : ℕ) → slice_get texts k ≡ Some text → slice_get keys k ≡ Some l → IsKey text l) → (k : ℕ) (text : List ℕ) (l : ℕ) → slice_get texts k ≡ Some text → slice_get (keys ++ (key ∷ [])) k ≡ Some l → IsKey text l
keys_more texts keys i key own n at is are k text l there e =
    before_or_here keys key l k (IsKey text l) e (λ o. are k text l there o) (λ here same.
    let same_text : own ≡ text = some_text own text (sym at ∙ ap (slice_get texts) (sym (here ∙ n)) ∙ there) in
    subst (λ v. IsKey v l) same_text (subst (λ m. IsKey own m) (sym same) is))

pub keys_rise : (texts : List (List ℕ)) (keys : List ℕ) → Rise texts → AreKeys texts keys → KeysRise keys
keys_rise texts keys rise are j k l inside = by (nat_lt (get_or keys k 0) (get_or keys j 0)) refl
  where
    by : (c : Bool) → nat_lt (get_or keys k 0) (get_or keys j 0) ≡ c → get_or keys j 0 ≤ get_or keys k 0
    by true c =
        let u = get_or texts j [] in
        let v = get_or texts k [] in
        let at_j : slice_get texts j ≡ Some u = slice_get-get_or texts j [] (omega (arith, l, inside, are.long)) in
        let at_k : slice_get texts k ≡ Some v = slice_get-get_or texts k [] (omega (arith, inside, are.long)) in
        let turned = key_less v u (get_or keys k 0) (get_or keys j 0) (key_at texts keys k 0 v are at_k) (key_at texts keys j 0 u are at_j) (ltb-true (get_or keys k 0) (get_or keys j 0) c) in
        absurd (true_or_false (is_gt (slice_cmp nat_cmp u v)) (ap is_gt turned) (rise j k u v l at_j at_k))
    by false c = ltb-false (get_or keys k 0) (get_or keys j 0) c

-- the rows with greater keys sort after the text read
pub after_by_key : (texts : List (List ℕ)) (keys : List ℕ) (x : List ℕ) (key n : ℕ) → IsKey x key → AreKeys texts keys → IsKeyCount keys key n → (j : ℕ) (v : List ℕ) → n ≤ j → slice_get texts j ≡ Some v → is_gt (slice_cmp nat_cmp v x) ≡ true
after_by_key texts keys x key n own are count j v l at =
    let inside : j < length keys = omega (arith, are.long, slice_get_within texts j v at) in
    ap is_gt (key_less x v key (get_or keys j 0) own (key_at texts keys j 0 v are at) (count.following j l inside))
