-- Codes of characters, and numbers between white space.
use Rattle.std.proofs.Common.{◌≡◌, ℕ, ◌+◌, ◌*◌, ◌<◌, ◌≤◌, Bool, true, false, List, [], ◌∷◌, ◌++◌, length, take, drop, get_or, Option, Some, None, refl, sym, ap, ◌∙◌, arith, append_assoc}
use Rattle.std.specs.Prelude.{◌&&◌, nat_lt, nat_le, if◌then◌else◌, unwrap_or, filter, option_map, option_and_then}
use Rattle.std.specs.List.{list_all, position, position_or_len, slice_split}
use Rattle.std.specs.Char.{digit_value}
use Rattle.std.proofs.lemmas.Bool.Decides.{nat_tests}
use Rattle.std.proofs.lemmas.List.{length-append}
use Rattle.std.proofs.Math.Seq.{take-append_seam, drop-append_seam}
use Rattle.sbl_text.specs.Classes.{is_white}
use Rattle.sbl_text.specs.Codes.{value_in, is_scalar, code_of, numbers_in, all_codes}
use Rattle.sbl_text.specs.inside.CodeParts.{write_scalar}
use Rattle.sbl_text.proofs.Cuts.{and_false}
use Rattle.sbl_text.proofs.Lists.{append_nil}

-- ---- one code

value_grows : (base n : ℕ) (cs : List ℕ) → 1 ≤ base → n ≤ value_in base n cs
value_grows base n [] h = omega arith
value_grows base n (c ∷ cs) h =
    let r = value_grows base (n * base + digit_value c) cs h in
    let m = at_least n base h in omega arith
  where
    at_least : (n b : ℕ) → 1 ≤ b → n ≤ n * b
    at_least n b h = grind arith

not_scalar : (n : ℕ) → 0x10FFFF < n → is_scalar n ≡ false
not_scalar n h = grind (arith, nat_tests)

no_code : (base most : ℕ) (ds : List ℕ) → write_scalar base 0 ds ≡ false → None ≡ code_of base most ds
no_code base most ds h = rw (h, and_false (nat_lt 0 (length ds) && nat_le (length ds) most)) refl

pub too_large_code : (base most v d r : ℕ) (now ds : List ℕ) → 2 ≤ base → 1 ≤ length now → r ≡ get_or now 0 r → d ≡ digit_value r → write_scalar base v now ≡ write_scalar base 0 ds
    → 0x10FFFF < v * base + d → None ≡ code_of base most ds
too_large_code base most v d r [] ds b l i j k h = absurd (omega (arith, l))
too_large_code base most v d r (x ∷ xs) ds b l i j k h =
    let g = value_grows base (v * base + digit_value x) xs (omega arith) in
    let e : d ≡ digit_value x = j ∙ ap digit_value i in
    let large : 0x10FFFF < value_in base (v * base + digit_value x) xs = omega (arith, e, h, g) in
    let f : write_scalar base v (x ∷ xs) ≡ false =
    ap (λ (b : Bool). list_all (λ c. nat_lt (digit_value c) base) (x ∷ xs) && b) (not_scalar (value_in base (v * base + digit_value x) xs) large)
    ∙ and_false (list_all (λ c. nat_lt (digit_value c) base) (x ∷ xs)) in
    no_code base most ds (sym k ∙ f)

-- ---- numbers

abbrev runs : List ℕ → List (List ℕ)
runs cs = slice_split is_white cs

abbrev nonempty_of : List (List ℕ) → List (List ℕ)
nonempty_of rs = filter (λ r. nat_lt 0 (length r)) rs

abbrev RunOf : List ℕ → Type 0
RunOf cs = (w : List ℕ) × (rest : List ℕ) × (rs : List (List ℕ)) × (cs ≡ w ++ rest) × (length w ≡ position_or_len is_white cs) × (runs rest ≡ [] ∷ rs) × (runs cs ≡ w ∷ rs)

run_at : (c : ℕ) (cs : List ℕ) (b : Bool) → is_white c ≡ b → RunOf cs → RunOf (c ∷ cs)
run_at c cs true h r = ([], c ∷ cs, runs cs, refl, rw h refl, rw h refl, rw h refl)
run_at c cs false h r =
    (c ∷ r.0, r.1, r.2, ap (λ (t : List ℕ). c ∷ t) r.3, rw h (omega (arith, r.4)), r.5, rw (h, r.6) refl)

run_of : (cs : List ℕ) → RunOf cs
run_of [] = ([], [], [], refl, refl, refl, refl)
run_of (c ∷ cs) = run_at c cs (is_white c) refl (run_of cs)

end_at : (n l : ℕ) (b : Bool) → nat_lt n l ≡ b → n ≤ l → unwrap_or (if b then Some n else None) l ≡ n
end_at n l true h k = refl
end_at n l false h k = grind (arith, nat_tests)

end_is : (cs : List ℕ) → unwrap_or (position is_white cs) (length cs) ≡ position_or_len is_white cs
end_is cs = end_at (position_or_len is_white cs) (length cs) (nat_lt (position_or_len is_white cs) (length cs)) refl (within (run_of cs))
  where
    within : RunOf cs → position_or_len is_white cs ≤ length cs
    within r = omega (arith, r.4, ap length r.3, length-append r.0 r.1)

-- the run at the start is a number, unless it is empty
pub run_found : (cs : List ℕ) (n : ℕ) → n ≡ unwrap_or (position is_white cs) (length cs) → (n ≤ length cs) × ((n ≡ 0 → ⊥) → numbers_in cs ≡ take n cs ∷ numbers_in (drop n cs))
run_found cs n is =
    let r = run_of cs in
    let l : n ≡ length r.0 = is ∙ end_is cs ∙ sym r.4 in
    let t : take n cs ≡ r.0 = ap (λ (m : ℕ). take m cs) l ∙ ap (take (length r.0)) r.3 ∙ take-append_seam r.0 r.1 in
    let d : drop n cs ≡ r.1 = ap (λ (m : ℕ). drop m cs) l ∙ ap (drop (length r.0)) r.3 ∙ drop-append_seam r.0 r.1 in
    (omega (arith, l, ap length r.3, length-append r.0 r.1), λ some. ap nonempty_of r.6 ∙ keeps r.0 r.2 (λ z. some (l ∙ z)) ∙ ap (λ (x : List ℕ). x ∷ nonempty_of r.2) (sym t) ∙ ap (λ (y : List (List ℕ)). take n cs ∷ y) (sym (ap (λ (x : List ℕ). nonempty_of (runs x)) d ∙ ap nonempty_of r.5)))
  where
    keeps : (w : List ℕ) (rs : List (List ℕ)) → (length w ≡ 0 → ⊥) → nonempty_of (w ∷ rs) ≡ w ∷ nonempty_of rs
    keeps [] rs h = absurd (h refl)
    keeps (c ∷ w) rs h = let some : nat_lt 0 (length (c ∷ w)) ≡ true = grind (arith, nat_tests) in rw some refl

pub white_first : (cs : List ℕ) (n : ℕ) → n ≡ unwrap_or (position is_white cs) (length cs) → n ≡ 0 → 0 < length cs → numbers_in cs ≡ numbers_in (drop 1 cs)
white_first [] n is z l = absurd (omega arith)
white_first (c ∷ cs) n is z l = at (is_white c) refl
  where
    at : (b : Bool) → is_white c ≡ b → numbers_in (c ∷ cs) ≡ numbers_in cs
    at true h = rw h refl
    at false h = absurd (let e : n ≡ 1 + position_or_len is_white cs = is ∙ end_is (c ∷ cs) ∙ rw h refl in omega (arith, e, z))

-- ---- many codes

abbrev both : Option ℕ → Option (List ℕ) → Option (List ℕ)
both o p = option_and_then (λ c. option_map (λ cs. c ∷ cs) p) o

abbrev pub with_prefix : List ℕ → Option (List ℕ) → Option (List ℕ)
with_prefix xs None = None
with_prefix xs (Some ys) = Some (xs ++ ys)

prefix_empty : (o : Option (List ℕ)) → with_prefix [] o ≡ o
prefix_empty None = refl
prefix_empty (Some ys) = refl

pub none_yet_coded : (o : Option (List ℕ)) (xs : List ℕ) → xs ≡ [] → with_prefix xs o ≡ o
none_yet_coded o xs h = ap (λ (t : List ℕ). with_prefix t o) h ∙ prefix_empty o

prefix_more : (xs : List ℕ) (c : ℕ) (o : Option (List ℕ)) → with_prefix (xs ++ c ∷ []) o ≡ with_prefix xs (both (Some c) o)
prefix_more xs c None = refl
prefix_more xs c (Some ys) = ap Some (append_assoc xs (c ∷ []) ys)

pub one_coded : (base most c : ℕ) (cs run more xs ys : List ℕ) (total : Option (List ℕ)) → numbers_in cs ≡ run ∷ numbers_in more → with_prefix xs (all_codes base most (numbers_in cs)) ≡ total
    → Some c ≡ code_of base most run → ys ≡ xs ++ c ∷ [] → with_prefix ys (all_codes base most (numbers_in more)) ≡ total
one_coded base most c cs run more xs ys total is whole code put =
    ap (λ (t : List ℕ). with_prefix t (all_codes base most (numbers_in more))) put ∙ prefix_more xs c (all_codes base most (numbers_in more))
    ∙ ap (λ (o : Option ℕ). with_prefix xs (both o (all_codes base most (numbers_in more)))) code ∙ ap (λ (t : List (List ℕ)). with_prefix xs (all_codes base most t)) (sym is) ∙ whole

pub not_coded : (base most : ℕ) (cs run more xs : List ℕ) (total : Option (List ℕ)) → numbers_in cs ≡ run ∷ numbers_in more → with_prefix xs (all_codes base most (numbers_in cs)) ≡ total
    → None ≡ code_of base most run → total ≡ None
not_coded base most cs run more xs total is whole code =
    sym whole ∙ ap (λ (t : List (List ℕ)). with_prefix xs (all_codes base most t)) is ∙ ap (λ (o : Option ℕ). with_prefix xs (both o (all_codes base most (numbers_in more)))) (sym code)

pub all_coded : (base most : ℕ) (cs xs : List ℕ) (total : Option (List ℕ)) → length cs ≡ 0 → with_prefix xs (all_codes base most (numbers_in cs)) ≡ total → total ≡ Some xs
all_coded base most [] xs total e whole = sym whole ∙ ap Some (append_nil xs)
all_coded base most (c ∷ cs) xs total e whole = absurd (omega (arith, e))

pub run_split : (cs : List ℕ) (n : ℕ) (x y : List ℕ) → n ≡ unwrap_or (position is_white cs) (length cs) → x ≡ take n cs → y ≡ drop n cs → length x ≡ n → (length x ≡ 0 → ⊥) → numbers_in cs ≡ x ∷ numbers_in y
run_split cs n x y is prefix back l some =
    (run_found cs n is).1 (λ z. some (l ∙ z)) ∙ ap (λ (t : List ℕ). t ∷ numbers_in (drop n cs)) (sym prefix) ∙ ap (λ (t : List ℕ). x ∷ numbers_in t) (sym back)
