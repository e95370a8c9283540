-- The parts of a spelling so far.
use Rattle.std.proofs.Common.{◌≡◌, ℕ, ◌+◌, ◌-◌, ◌<◌, ◌≤◌, ◌^◌, Bool, true, false, List, [], ◌∷◌, ◌++◌, length, take, drop, get_or, Option, Result, Ok, Err, refl, sym, ap, subst, ◌∙◌, arith, append_assoc, ◌⊎◌, inl, inr}
use Rattle.std.specs.Prelude.{MatchResult, not, ◌==◌, encode_utf8}
use Rattle.std.specs.List.{list_all}
use Rattle.std.specs.Char.{len_utf8}
use Rattle.std.proofs.lemmas.Bool.Decides.{nat_tests}
use Rattle.std.proofs.lemmas.List.{length-append}
use Rattle.std.proofs.Math.Seq.{take-length}
use Rattle.std.proofs.lemmas.Str.{length-encode}
use Rattle.sbl_text.specs.declared.escapes.Inserts.{Inserts}
use Rattle.sbl_text.specs.declared.fault.ScriptFault.{ScriptFault}
use Rattle.sbl_text.specs.declared.fault.ScriptFault.TheVariants as fault
use Rattle.sbl_text.specs.Escapes.{InForce, opens, closes}
use Rattle.sbl_text.specs.Literals.{byte_length, insertion_value, IsInsertion, IsPlain, Part, IsPart, AreParts, Means, IsWrong, FirstWrong, is_closed, IsLiteral}
use Rattle.sbl_text.specs.inside.LiteralParts.{Refusal, values}
use Rattle.sbl_text.proofs.Lists.{append_nil, bytes_append}

parts_more : (e : InForce) (text rest following : List ℕ) (ps : List Part) (p : Part) → AreParts e text ps rest → rest ≡ p.text ++ following → IsPart e p → AreParts e text (ps ++ p ∷ []) following
parts_more e text rest following [] p a is h = (following, a ∙ is, h, refl)
parts_more e text rest following (q ∷ ps) p a is h = (a.0, a.1, a.2, parts_more e a.0 rest following ps p a.3 is h)

values_more : (ps : List Part) (p : Part) → values (ps ++ p ∷ []) ≡ values ps ++ p.value
values_more [] p = append_nil p.value
values_more (q ∷ ps) p = ap (λ (t : List ℕ). q.value ++ t) (values_more ps p) ∙ sym (append_assoc q.value (values ps) p.value)

-- what was read of a spelling, and what it gave
abbrev pub Read : InForce → List ℕ → ℕ → List ℕ → List ℕ → ℕ → Type 0
Read e spelling place rest value at =
    (before : List ℕ) × (ps : List Part) × (spelling ≡ before ++ rest) × AreParts e spelling ps rest × (value ≡ values ps) × (at ≡ place + byte_length before) × (is_closed e.inserts false rest ≡ true)

pub none_read : (e : InForce) (spelling : List ℕ) (place : ℕ) (value : List ℕ) → value ≡ [] → is_closed e.inserts false spelling ≡ true → Read e spelling place spelling value place
none_read e spelling place value h k = ([], [], refl, refl, h, omega arith, k)

pub part_read : (e : InForce) (spelling rest following value more x w : List ℕ) (place at next : ℕ) → Read e spelling place rest value at → rest ≡ x ++ following
    → IsPlain e x w ⊎ ((name : List ℕ) × IsInsertion e x name × (insertion_value e name ≡ Ok w)) → more ≡ value ++ w → next ≡ at + byte_length x → is_closed e.inserts false following ≡ true
    → Read e spelling place following more next
part_read e spelling rest following value more x w place at next r is h v n k =
    let p : Part = record { text = x; value = w } in (
      r.0 ++ x,
      r.1 ++ p ∷ [],
      r.2 ∙ ap (λ (t : List ℕ). r.0 ++ t) is ∙ sym (append_assoc r.0 x following),
      parts_more e spelling rest following r.1 p r.3 is h,
      v ∙ ap (λ (t : List ℕ). t ++ w) r.4 ∙ sym (values_more r.1 p),
      (let b = bytes_append r.0 x in omega (arith, n, r.5, b)),
      k,
    )

pub wrong_read : (e : InForce) (spelling rest value : List ℕ) (place at : ℕ) (f : ScriptFault) → Read e spelling place rest value at → IsWrong e rest at f → FirstWrong e spelling place f
wrong_read e spelling rest value place at f r h = (r.0, rest, r.1, r.2, r.3, subst (λ (n : ℕ). IsWrong e rest n f) r.5 h)

pub all_read : (e : InForce) (spelling rest value : List ℕ) (place at : ℕ) → Read e spelling place rest value at → length rest < 1 → Means e spelling value
all_read e spelling [] value place at r l = (r.1, r.3, r.4)
all_read e spelling (c ∷ rest) value place at r l = absurd (omega (arith, l))

-- ---- one turn of reading

pub split_rest : (rest : List ℕ) (r : ℕ) → 1 ≤ length rest → r ≡ get_or rest 0 r → rest ≡ r ∷ take (length rest - 1) (drop 1 rest)
split_rest [] r l is = absurd (omega (arith, l))
split_rest (c ∷ cs) r l is =
    let t : take (length (c ∷ cs) - 1) cs ≡ cs = ap (λ (n : ℕ). take n cs) (let n : length (c ∷ cs) - 1 ≡ length cs = omega arith in n) ∙ take-length cs in
    ap (λ (d : ℕ). d ∷ cs) (sym is) ∙ ap (λ (v : List ℕ). r ∷ v) (sym t)

closed_after : (i : Option Inserts) (r : ℕ) (cs : List ℕ) (b f : Bool) → (r == 39) ≡ false → (r == 10) ≡ f → opens i r ≡ b → is_closed i false (r ∷ cs) ≡ true → is_closed i b cs ≡ true
closed_after i r cs b true q n o h = absurd (let k : is_closed i false (r ∷ cs) ≡ false = rw (q, n) refl in cc)
closed_after i r cs b false q n o h =
    let k : is_closed i false (r ∷ cs) ≡ is_closed i (opens i r) cs = rw (q, n) refl in
    ap (λ (v : Bool). is_closed i v cs) (sym o) ∙ sym k ∙ h

not_quote : (r : ℕ) → (r ≡ 39 → ⊥) → (r == 39) ≡ false
not_quote r h = grind (arith, nat_tests)

one_byte_length : (r n : ℕ) → n ≡ len_utf8 r → byte_length (r ∷ []) ≡ n
one_byte_length r n h = length-append (encode_utf8 r) [] ∙ (let e = length-encode r in omega (arith, e, h))

pub plain_read : (e : InForce) (i : Option Inserts) (spelling rest following value more : List ℕ) (place at n r : ℕ) → Read e spelling place rest value at → i ≡ e.inserts → rest ≡ r ∷ following
    → (r ≡ 39 → ⊥) → opens i r ≡ false → more ≡ value ++ r ∷ [] → n ≡ len_utf8 r → Read e spelling place following more (at + n)
plain_read e i spelling rest following value more place at n r s j is q o v m =
    let p : opens e.inserts r ≡ false = ap (λ (k : Option Inserts). opens k r) (sym j) ∙ o in
    part_read e spelling rest following value more (r ∷ []) (r ∷ []) place at (at + n) s is (inl (r, refl, not_quote r q, p, refl)) v (ap (λ (k : ℕ). at + k) (sym (one_byte_length r n m)))
    (closed_after e.inserts r following false (r == 10) (not_quote r q) refl p (subst (λ (t : List ℕ). is_closed e.inserts false t ≡ true) is s.6))

-- what an insertion takes
abbrev pub Taken : InForce → List ℕ → List ℕ → List ℕ → ℕ → ℕ → Type 0
Taken e rest name after r b = (rest ≡ (r ∷ (name ++ b ∷ [])) ++ after) × IsInsertion e (r ∷ (name ++ b ∷ [])) name × (is_closed e.inserts false rest ≡ true → is_closed e.inserts false after ≡ true)

pub insert_taken : (e : InForce) (i : Option Inserts) (rest following name after : List ℕ) (r b : ℕ) → i ≡ e.inserts → rest ≡ r ∷ following → (r ≡ 39 → ⊥) → opens i r ≡ true
    → (following ≡ name ++ b ∷ after) × (closes i b ≡ true) × (list_all (λ c. not (closes i c)) name ≡ true) × (is_closed i true following ≡ is_closed i false after) → Taken e rest name after r b
insert_taken e i rest following name after r b j is q o h =
    let o' : opens e.inserts r ≡ true = ap (λ (k : Option Inserts). opens k r) (sym j) ∙ o in (
      is ∙ ap (λ (t : List ℕ). r ∷ t) (h.0 ∙ sym (append_assoc name (b ∷ []) after)),
      (r, b, refl, not_quote r q, o', ap (λ (k : Option Inserts). closes k b) (sym j) ∙ h.1, ap (λ (k : Option Inserts). list_all (λ c. not (closes k c)) name) (sym j) ∙ h.2),
      λ k. ap (λ (k : Option Inserts). is_closed k false after) (sym j) ∙ sym h.3 ∙ ap (λ (k : Option Inserts). is_closed k true following) j
          ∙ closed_after e.inserts r following true (r == 10) (not_quote r q) refl o' (subst (λ (t : List ℕ). is_closed e.inserts false t ≡ true) is k),
    )

insertion_bytes : (name : List ℕ) (r b n m k : ℕ) → n ≡ len_utf8 r → m ≡ byte_length name → k ≡ len_utf8 b → byte_length (r ∷ (name ++ b ∷ [])) ≡ n + m + k
insertion_bytes name r b n m k x y z =
    let p = bytes_append (r ∷ []) (name ++ b ∷ []) in
    let q = bytes_append name (b ∷ []) in
    let u = one_byte_length r n x in
    let v = one_byte_length b k z in omega (arith, p, q, u, v, y)

pub insertion_read : (e : InForce) (spelling rest name after value more w : List ℕ) (place at n m k r b : ℕ) → Read e spelling place rest value at → Taken e rest name after r b
    → (insertion_value e name ≡ Ok w) → more ≡ value ++ w → n ≡ len_utf8 r → m ≡ byte_length name → k ≡ len_utf8 b → Read e spelling place after more (at + (n + m + k))
insertion_read e spelling rest name after value more w place at n m k r b s t i v x y z =
    part_read e spelling rest after value more (r ∷ (name ++ b ∷ [])) w place at (at + (n + m + k)) s t.0 (inr (name, t.1, i)) v
    (ap (λ (l : ℕ). at + l) (sym (insertion_bytes name r b n m k x y z))) (t.2 s.6)

pub insertion_wrong : (e : InForce) (spelling rest name after value : List ℕ) (place at r b : ℕ) (f : ScriptFault) → Read e spelling place rest value at → Taken e rest name after r b
    → (f ≡ fault.OutOfMemory) ⊎ ((g : Refusal) × (insertion_value e name ≡ Err g) × (f ≡ g at)) → (f ≡ fault.OutOfMemory) ⊎ FirstWrong e spelling place f
insertion_wrong e spelling rest name after value place at r b f s t (inl h) = inl h
insertion_wrong e spelling rest name after value place at r b f s t (inr h) =
    inr (wrong_read e spelling rest value place at f s (inr (r ∷ (name ++ b ∷ []), name, after, t.0, t.1, h.0, h.1, h.2)))

-- there is room for the places
pub room_for : (e : InForce) (spelling rest following value x : List ℕ) (place at : ℕ) → Read e spelling place rest value at → rest ≡ x ++ following → place + byte_length spelling < 2 ^ 64 → at + byte_length x < 2 ^ 64
room_for e spelling rest following value x place at s is h =
    let a = ap byte_length s.2 ∙ bytes_append s.0 rest in
    let b = ap byte_length is ∙ bytes_append x following in omega (arith, a, b, s.5, h)

pub room_for_one : (e : InForce) (spelling rest following value : List ℕ) (place at n r : ℕ) → Read e spelling place rest value at → rest ≡ r ∷ following → n ≡ len_utf8 r → place + byte_length spelling < 2 ^ 64 → at + n < 2 ^ 64
room_for_one e spelling rest following value place at n r s is m h =
    subst (λ (k : ℕ). at + k < 2 ^ 64) (one_byte_length r n m) (room_for e spelling rest following value (r ∷ []) place at s is h)

pub room_for_name : (e : InForce) (spelling rest name after value : List ℕ) (place at n m k r b : ℕ) → Read e spelling place rest value at → Taken e rest name after r b
    → n ≡ len_utf8 r → m ≡ byte_length name → k ≡ len_utf8 b → place + byte_length spelling < 2 ^ 64 → at + (n + m + k) < 2 ^ 64
room_for_name e spelling rest name after value place at n m k r b s t x y z h =
    subst (λ (l : ℕ). at + l < 2 ^ 64) (insertion_bytes name r b n m k x y z) (room_for e spelling rest after value (r ∷ (name ++ b ∷ [])) place at s t.0 h)

pub name_fits : (e : InForce) (spelling rest name after value : List ℕ) (place at r b : ℕ) → Read e spelling place rest value at → Taken e rest name after r b → place + byte_length spelling < 2 ^ 64
    → byte_length name < 2 ^ 64
name_fits e spelling rest name after value place at r b s t h =
    let k = room_for_name e spelling rest name after value place at (len_utf8 r) (byte_length name) (len_utf8 b) r b s t refl refl refl h in omega (arith, k)

-- ---- a whole spelling

pub closed_as : (e : InForce) (i : Option Inserts) (x cs : List ℕ) (r b : Bool) → i ≡ e.inserts → x ≡ cs → r ≡ is_closed i false x → r ≡ b → is_closed e.inserts false cs ≡ b
closed_as e i x cs r b j is h k = sym (ap (λ (t : List ℕ). is_closed e.inserts false t) is) ∙ sym (ap (λ (k : Option Inserts). is_closed k false x) j) ∙ sym h ∙ k

wrong_literal : (e : InForce) (x cs : List ℕ) (f : ScriptFault) → x ≡ cs → is_closed e.inserts false cs ≡ true → (f ≡ fault.OutOfMemory) ⊎ FirstWrong e x 0 f → (f ≡ fault.OutOfMemory) ⊎ IsLiteral e cs (Err f)
wrong_literal e x cs f is k (inl h) = inl h
wrong_literal e x cs f is k (inr h) = inr (inr (k, subst (λ (t : List ℕ). FirstWrong e t 0 f) is h))

pub literal_read : {V : Type 0} (view : V → List ℕ) (e : InForce) (x cs : List ℕ) (r : Result V ScriptFault) → x ≡ cs → is_closed e.inserts false cs ≡ true
    → MatchResult r (λ v. Means e x (view v)) (λ f. (f ≡ fault.OutOfMemory) ⊎ FirstWrong e x 0 f)
    → MatchResult r (λ v. IsLiteral e cs (Ok (view v))) (λ f. (f ≡ fault.OutOfMemory) ⊎ IsLiteral e cs (Err f))
literal_read view e x cs (Ok v) is k h = (k, subst (λ (t : List ℕ). Means e t (view v)) is h)
literal_read view e x cs (Err f) is k h = wrong_literal e x cs f is k h
