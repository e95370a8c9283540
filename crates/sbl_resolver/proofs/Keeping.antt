-- One more name or string that the checks meet.
use Rattle.std.proofs.Common.{◌≡◌, ℕ, Bool, true, false, cond, ◌||◌, ◌&&◌, nat_eq, List, Option, Some, None, is_some, refl, sym, ap, subst, ◌∙◌, arith, if◌then◌else◌}
use Rattle.std.specs.declared.cmp.Ordering.{Ordering}
use Rattle.std.specs.declared.cmp.Ordering.TheVariants.{Less, Equal, Greater}
use Rattle.std.specs.Option.{option_or}
use Rattle.std.specs.Str.{bytes_eq}
use Rattle.std.specs.Ordering.{nat_cmp, is_eq, ordering_then}
use Rattle.std.specs.Cmp.{IsEquivalence}
use Rattle.std.specs.Cmp.Lexicographic.{slice_cmp}
use Rattle.std.specs.BTreeMap as tree
use Rattle.std.specs.BTreeSet as sorted
use denote.Ref.{Bor}
use Rattle.std.proofs.lemmas.Bool.Decides.{nat_tests}
use Rattle.std.proofs.lemmas.Cmp.{nat_list_eq_equiv}
use Rattle.std.proofs.lemmas.Slice.Eq.{bytes_eq-Decides}
use Rattle.std.proofs.lemmas.Map.Text.{btree_map_updates_str, is_eq-slice_cmp}
use Rattle.sbl_resolver.specs.MetNames.{at_name, has_string}

abbrev pub order : Bor (List ℕ) → Bor (List ℕ) → Ordering
order x y = slice_cmp nat_cmp x.now y.now

same : (xs ys : List ℕ) → bytes_eq xs ys ≡ true → xs ≡ ys
same xs ys e = (bytes_eq-Decides xs ys).0 e

none_more : {X : Type 0} (o : Option X) → o ≡ option_or o None
none_more (Some x) = refl
none_more None = refl

-- a name that has a value keeps it
pub kept_already : {X : Type 0} (m : tree.BTreeMap (Bor (List ℕ)) X) (name : List ℕ) (w : X) → is_some (at_name m name) ≡ true → (n : List ℕ) → at_name m n ≡ option_or (at_name m n) (if bytes_eq n name then Some w else None)
kept_already {X} m name w has n = go (bytes_eq n name) refl where
  by_value : (o : Option X) (r : Option X) → is_some o ≡ true → o ≡ option_or o r
  by_value (Some x) r e = refl
  by_value None r e = absurd cc

  go : (b : Bool) → bytes_eq n name ≡ b → at_name m n ≡ option_or (at_name m n) (cond b (Some w) None)
  go true e = by_value (at_name m n) (Some w) (subst (λ (x : List ℕ). is_some (at_name m x) ≡ true) (sym (same n name e)) has)
  go false e = none_more (at_name m n)

-- a name that has none gets it
pub kept_first : {X : Type 0} (old new : tree.BTreeMap (Bor (List ℕ)) X) (name : List ℕ) (w : X) → is_some (at_name old name) ≡ false
    → tree.UpdatesBy order (λ k. slice_cmp nat_cmp name k.now) old new (Some w) → (n : List ℕ) → at_name new n ≡ option_or (at_name old n) (if bytes_eq n name then Some w else None)
kept_first {X} old new name w lacks changed n =
    btree_map_updates_str name old new (Some w) changed n
    ∙ ap (λ (b : Bool). cond b (Some w) (at_name old n)) (IsEquivalence.symm nat_list_eq_equiv name n)
    ∙ go (bytes_eq n name) refl where
      by_value : (o : Option X) → is_some o ≡ false → Some w ≡ option_or o (Some w)
      by_value (Some x) e = absurd cc
      by_value None e = refl

      go : (b : Bool) → bytes_eq n name ≡ b → cond b (Some w) (at_name old n) ≡ option_or (at_name old n) (cond b (Some w) None)
      go true e = by_value (at_name old n) (subst (λ (x : List ℕ). is_some (at_name old x) ≡ false) (sym (same n name e)) lacks)
      go false e = none_more (at_name old n)

abbrev pub string_order : ℕ × ℕ × Bor (List ℕ) → ℕ × ℕ × Bor (List ℕ) → Ordering
string_order x y = ordering_then (ordering_then (nat_cmp x.0 y.0) (nat_cmp x.1 y.1)) (slice_cmp nat_cmp x.2.now y.2.now)

-- some reference to a list
abbrev at : List ℕ → Bor (List ℕ)
at q = record { ref_ptr = (0, 0); now = q }

both : (a b : Ordering) → is_eq (ordering_then a b) ≡ (is_eq a && is_eq b)
both Less b = refl
both Equal b = refl
both Greater b = refl

numbers : (x y : ℕ) → is_eq (nat_cmp x y) ≡ nat_eq y x
numbers x y = grind (arith, nat_tests)

and_turn : (a b c : Bool) → ((a && b) && c) ≡ ((b && c) && a)
and_turn true true true = refl
and_turn true true false = refl
and_turn true false c = refl
and_turn false true true = refl
and_turn false true false = refl
and_turn false false c = refl

key_cmp_eq : (x i y k : ℕ) (v t : List ℕ) → is_eq (ordering_then (ordering_then (nat_cmp x i) (nat_cmp y k)) (slice_cmp nat_cmp v t)) ≡ ((nat_eq k y && bytes_eq t v) && nat_eq i x)
key_cmp_eq x i y k v t =
    both (ordering_then (nat_cmp x i) (nat_cmp y k)) (slice_cmp nat_cmp v t)
    ∙ ap (λ (b : Bool). b && is_eq (slice_cmp nat_cmp v t)) (both (nat_cmp x i) (nat_cmp y k) ∙ ap (λ (b : Bool). b && is_eq (nat_cmp y k)) (numbers x i) ∙ ap (λ (b : Bool). nat_eq i x && b) (numbers y k))
    ∙ ap (λ (b : Bool). (nat_eq i x && nat_eq k y) && b) (is_eq-slice_cmp v t ∙ IsEquivalence.symm nat_list_eq_equiv v t)
    ∙ and_turn (nat_eq i x) (nat_eq k y) (bytes_eq t v)

either : (a b : Bool) → cond a true b ≡ (b || a)
either true true = refl
either true false = refl
either false true = refl
either false false = refl

-- a string of an among is among those that were put
pub kept_string : (old new : sorted.BTreeSet (ℕ × ℕ × Bor (List ℕ))) (key : ℕ × ℕ × Bor (List ℕ)) → sorted.Updates string_order old new key true
    → (i k : ℕ) (t : List ℕ) → has_string new i k t ≡ (has_string old i k t || ((nat_eq k key.1 && bytes_eq t key.2.now) && nat_eq i key.0))
kept_string old new key changed i k t =
    changed.0 (i, k, at t)
    ∙ ap (λ (b : Bool). cond b true (has_string old i k t)) (key_cmp_eq key.0 i key.1 k key.2.now t)
    ∙ either ((nat_eq k key.1 && bytes_eq t key.2.now) && nat_eq i key.0) (has_string old i k t)
