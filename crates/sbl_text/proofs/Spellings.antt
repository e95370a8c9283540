-- Insertions and their names.
use Rattle.std.proofs.Common.{◌≡◌, ℕ, ◌-◌, ◌<◌, ◌≤◌, Bool, true, false, List, [], ◌∷◌, ◌++◌, length, take, drop, get_or, Option, Some, None, Err, refl, sym, ap, ◌∙◌, arith, ◌⊎◌, inl, inr}
use Rattle.std.specs.Prelude.{not, ◌&&◌, ◌==◌, nat_lt, if◌then◌else◌}
use Rattle.std.specs.List.{list_all, position, position_or_len}
use Rattle.std.proofs.lemmas.Bool.Decides.{nat_tests}
use Rattle.std.proofs.lemmas.List.{length-append}
use Rattle.std.proofs.Math.Seq.{take-append_seam, drop-append_seam, take-length}
use Rattle.sbl_text.specs.declared.escapes.Inserts.{Inserts}
use Rattle.sbl_text.specs.declared.fault.ScriptFault.TheVariants as fault
use Rattle.sbl_text.specs.Codes.{code_of}
use Rattle.sbl_text.specs.Escapes.{opens, closes}
use Rattle.sbl_text.specs.Literals.{character_named, is_closed}
use Rattle.sbl_text.specs.inside.LiteralParts.{code_or_fault}

-- ---- the character that is named

other : (n m : ℕ) → (n ≡ m → ⊥) → (n == m) ≡ false
other n m h = grind (arith, nat_tests)

pub named_empty : (e : Option Inserts) (name : List ℕ) → length name < 1 → character_named e name ≡ Err fault.UnknownEscape
named_empty e [] l = refl
named_empty e (c ∷ cs) l = absurd (omega (arith, l))

pub named_one : (e : Option Inserts) (name : List ℕ) (r : ℕ) → 1 ≤ length name → length name < 2 → r ≡ get_or name 0 r → (r ≡ 39 → ⊥) → opens e r ≡ false → character_named e name ≡ Err fault.UnknownEscape
named_one e [] r l m is h o = absurd (omega (arith, l))
named_one e (c ∷ d ∷ cs) r l m is h o = absurd (omega (arith, m))
named_one e (c ∷ []) r l m is h o = rw (other c 39 (λ i. h (is ∙ i)), ap (opens e) (sym is) ∙ o) refl

rest_of : {A : Type 0} (n : ℕ) (cs : List A) → n ≡ length cs → take n cs ≡ cs
rest_of n cs h = ap (λ (m : ℕ). take m cs) h ∙ take-length cs

pub named_code : (e : Option Inserts) (name : List ℕ) (u p : ℕ) (o : Option ℕ) → 2 ≤ length name → u ≡ get_or name 0 u → p ≡ get_or name 1 p → u ≡ 85 → p ≡ 43
    → o ≡ code_of 16 6 (take (length name - 2) (drop 2 name)) → character_named e name ≡ code_or_fault o
named_code e [] u p o l i j a b k = absurd (omega (arith, l))
named_code e (c ∷ []) u p o l i j a b k = absurd (omega (arith, l))
named_code e (c ∷ d ∷ cs) u p o l i j a b k =
    let x : c ≡ 85 = sym i ∙ a in let y : d ≡ 43 = sym j ∙ b in
    let t : take (length (c ∷ d ∷ cs) - 2) cs ≡ cs = rest_of (length (c ∷ d ∷ cs) - 2) cs (omega arith) in
    rw (x, y) (ap code_or_fault (sym (k ∙ ap (code_of 16 6) t)))

pub named_other : (e : Option Inserts) (name : List ℕ) (u p : ℕ) → 2 ≤ length name → u ≡ get_or name 0 u → p ≡ get_or name 1 p → (u ≡ 85 → ⊥) ⊎ (p ≡ 43 → ⊥) → character_named e name ≡ Err fault.UnknownEscape
named_other e [] u p l i j h = absurd (omega (arith, l))
named_other e (c ∷ []) u p l i j h = absurd (omega (arith, l))
named_other e (c ∷ d ∷ cs) u p l i j (inl h) = rw (other c 85 (λ k. h (i ∙ k))) refl
named_other e (c ∷ d ∷ cs) u p l i j (inr h) = at (c == 85) (d == 43) (other d 43 (λ k. h (j ∙ k)))
  where
    at : (a b : Bool) → b ≡ false → (if a && b then code_or_fault (code_of 16 6 cs) else Err fault.UnknownEscape) ≡ Err fault.UnknownEscape
    at true b z = rw z refl
    at false b z = refl

-- ---- the first of a kind

abbrev Head : (ℕ → Bool) → List ℕ → Type 0
Head p [] = Unit {0}
Head p (c ∷ cs) = p c ≡ true

abbrev First : (ℕ → Bool) → List ℕ → Type 0
First p cs = (w : List ℕ) × (rest : List ℕ) × (cs ≡ w ++ rest) × (length w ≡ position_or_len p cs) × (list_all (λ c. not (p c)) w ≡ true) × Head p rest

first_at : (p : ℕ → Bool) (c : ℕ) (cs : List ℕ) (b : Bool) → p c ≡ b → First p cs → First p (c ∷ cs)
first_at p c cs true h r = ([], c ∷ cs, refl, rw h refl, refl, h)
first_at p c cs false h r = (c ∷ r.0, r.1, ap (λ (t : List ℕ). c ∷ t) r.2, rw h (omega (arith, r.3)), rw h r.4, r.5)

first : (p : ℕ → Bool) (cs : List ℕ) → First p cs
first p [] = ([], [], refl, refl, refl, tt)
first p (c ∷ cs) = first_at p c cs (p c) refl (first p cs)

-- ---- the end of an insertion

closed_past_at : (e : Option Inserts) (c : ℕ) (w rest : List ℕ) (b : Bool) → closes e c ≡ b → not b && list_all (λ d. not (closes e d)) w ≡ true
    → (list_all (λ d. not (closes e d)) w ≡ true → is_closed e true (w ++ rest) ≡ is_closed e true rest) → is_closed e (not (closes e c)) (w ++ rest) ≡ is_closed e true rest
closed_past_at e c w rest true k i more = absurd (cc)
closed_past_at e c w rest false k i more = rw k (more i)

closed_past : (e : Option Inserts) (w rest : List ℕ) → list_all (λ c. not (closes e c)) w ≡ true → is_closed e true (w ++ rest) ≡ is_closed e true rest
closed_past e [] rest h = refl
closed_past e (c ∷ w) rest h = closed_past_at e c w rest (closes e c) refl h (closed_past e w rest)

none_at : (n l : ℕ) (b : Bool) → nat_lt n l ≡ b → (let o : Option ℕ = if b then Some n else None in o) ≡ None → l ≤ n
none_at n l true h k = absurd (cc)
none_at n l false h k = grind (arith, nat_tests)

some_at : (n l m : ℕ) (b : Bool) → nat_lt n l ≡ b → (let o : Option ℕ = if b then Some n else None in o) ≡ Some m → (n ≡ m) × (n < l)
some_at n l m true h k = (cc, grind (arith, nat_tests))
some_at n l m false h k = absurd (cc)

open_at_end : (e : Option Inserts) (t : List ℕ) → length t ≡ 0 → is_closed e true t ≡ false
open_at_end e [] z = refl
open_at_end e (c ∷ t) z = absurd (omega (arith, z))

pub never_closed : (e : Option Inserts) (cs : List ℕ) → None ≡ position (closes e) cs → is_closed e true cs ≡ false
never_closed e cs h =
    let r = first (closes e) cs in
    let p = position_or_len (closes e) cs in
    let l = none_at p (length cs) (nat_lt p (length cs)) refl (sym h) in
    let z : length r.1 ≡ 0 = omega (arith, l, r.3, ap length r.2, length-append r.0 r.1) in
    ap (is_closed e true) r.2 ∙ closed_past e r.0 r.1 r.4 ∙ open_at_end e r.1 z

abbrev Parts : Option Inserts → List ℕ → List ℕ → ℕ → List ℕ → Type 0
Parts e cs name b after =
    (cs ≡ name ++ b ∷ after) × (closes e b ≡ true) × (list_all (λ c. not (closes e c)) name ≡ true) × (is_closed e true cs ≡ is_closed e false after)

whole : (e : Option Inserts) (cs name back : List ℕ) (b : ℕ) (w rest : List ℕ) → 1 ≤ length back → b ≡ get_or back 0 b → cs ≡ w ++ rest → list_all (λ c. not (closes e c)) w ≡ true
    → Head (closes e) rest → name ≡ w → back ≡ rest → Parts e cs name b (take (length back - 1) (drop 1 back))
whole e cs name back b w [] l is i y k x z = absurd (omega (arith, l, ap length z))
whole e cs name back b w (c ∷ after) l is i y k x z =
    let same : b ≡ c = is ∙ ap (λ (t : List ℕ). get_or t 0 b) z in
    let t : take (length back - 1) (drop 1 back) ≡ after = ap (λ (t : List ℕ). take (length t - 1) (drop 1 t)) z ∙ rest_of (length (c ∷ after) - 1) after (omega arith) in
    let shut : closes e b ≡ true = ap (closes e) same ∙ k in
    let parts : cs ≡ name ++ b ∷ take (length back - 1) (drop 1 back) =
    i ∙ ap (λ (v : List ℕ). v ++ c ∷ after) (sym x) ∙ ap (λ (d : ℕ). name ++ d ∷ after) (sym same) ∙ ap (λ (v : List ℕ). name ++ b ∷ v) (sym t) in
    let free : list_all (λ d. not (closes e d)) name ≡ true = ap (list_all (λ d. not (closes e d))) x ∙ y in (
      parts,
      shut,
      free,
      ap (is_closed e true) parts ∙ closed_past e name (b ∷ take (length back - 1) (drop 1 back)) free ∙ ap (λ (v : Bool). is_closed e (not v) (take (length back - 1) (drop 1 back))) shut,
    )

-- the parts of what stands after an opening character
pub name_parts : (e : Option Inserts) (cs name back : List ℕ) (n b : ℕ) → Some n ≡ position (closes e) cs → name ≡ take n cs → back ≡ drop n cs → 1 ≤ length back → b ≡ get_or back 0 b
    → Parts e cs name b (take (length back - 1) (drop 1 back))
name_parts e cs name back n b h prefix following l is =
    let r = first (closes e) cs in
    let p = position_or_len (closes e) cs in
    let s = some_at p (length cs) n (nat_lt p (length cs)) refl (sym h) in
    let m : n ≡ length r.0 = sym s.0 ∙ sym r.3 in
    let x : name ≡ r.0 = prefix ∙ ap (λ (k : ℕ). take k cs) m ∙ ap (take (length r.0)) r.2 ∙ take-append_seam r.0 r.1 in
    let z : back ≡ r.1 = following ∙ ap (λ (k : ℕ). drop k cs) m ∙ ap (drop (length r.0)) r.2 ∙ drop-append_seam r.0 r.1 in
    whole e cs name back b r.0 r.1 l is r.2 r.4 r.5 x z
