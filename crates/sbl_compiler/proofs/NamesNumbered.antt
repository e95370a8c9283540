-- Names, one after another, and the numbers that are kept of them.
use Rattle.std.proofs.Common.{◌≡◌, ℕ, suc, ◌+◌, Bool, true, false, cond, List, [], ◌∷◌, ◌++◌, length, map, Option, Some, None, is_some, refl, sym, ap, subst, ◌∙◌, arith, if◌then◌else◌, String, string_bytes}
use Rattle.std.specs.Option.{option_or, unwrap_or}
use Rattle.std.specs.String.{string_cmp}
use Rattle.std.specs.Str.{bytes_eq}
use Rattle.std.specs.BTreeMap.{BTreeMap, Updates, get_by_text}
use Rattle.std.proofs.lemmas.List.{length-map, map-append}
use Rattle.std.proofs.lemmas.Map.Text.{btree_map_updates_text}
use Rattle.std.proofs.lemmas.Slice.Eq.{bytes_eq-Decides}
use Rattle.sbl_compiler.specs.NumberedNames.{number_from, number_of}
use Rattle.sbl_compiler.specs.NameList.{first_from, AreNumbered}

-- ---- a map in which a name that has no number gets one

none_more : (o : Option ℕ) → o ≡ option_or o None
none_more (Some x) = refl
none_more None = refl

pub insert_keeps_names : {Y : Type 0} (old new : BTreeMap (String Y) ℕ) (key : String Y) (name : List ℕ) (number : ℕ) → is_some (get_by_text old name) ≡ false → string_bytes key ≡ name → Updates string_cmp old new key (Some number)
    → (n : List ℕ) → get_by_text new n ≡ option_or (get_by_text old n) (if bytes_eq name n then Some number else None)
insert_keeps_names old new key name number lacks same changed n =
    btree_map_updates_text (string_bytes key) old new (Some number) changed n
    ∙ ap (λ (k : List ℕ). cond (bytes_eq k n) (Some number) (get_by_text old n)) same
    ∙ go (bytes_eq name n) refl where
      by_value : (o : Option ℕ) → is_some o ≡ false → Some number ≡ option_or o (Some number)
      by_value (Some x) e = absurd cc
      by_value None e = refl

      go : (b : Bool) → bytes_eq name n ≡ b → cond b (Some number) (get_by_text old n) ≡ option_or (get_by_text old n) (cond b (Some number) None)
      go true e = by_value (get_by_text old n) (subst (λ (x : List ℕ). is_some (get_by_text old x) ≡ false) ((bytes_eq-Decides name n).0 e) lacks)
      go false e = none_more (get_by_text old n)

-- ---- names with one more

from_zero : (k : ℕ) → k ≡ 0 + k
from_zero k = omega arith

first_more : (i : ℕ) (names : List (List ℕ)) (name n : List ℕ) → first_from i (names ++ name ∷ []) n ≡ option_or (first_from i names n) (if bytes_eq name n then Some (i + length names) else None)
first_more i [] name n = ap (λ (k : ℕ). if bytes_eq name n then Some k else None) (omega arith)
first_more i (x ∷ names) name n = by (bytes_eq x n) (first_more (i + 1) names name n ∙ ap (λ (k : ℕ). option_or (first_from (i + 1) names n) (if bytes_eq name n then Some k else None)) (omega arith))
  where
    last : Option ℕ
    last = if bytes_eq name n then Some (i + suc (length names)) else None

    by : (b : Bool) → first_from (i + 1) (names ++ name ∷ []) n ≡ option_or (first_from (i + 1) names n) last → cond b (Some i) (first_from (i + 1) (names ++ name ∷ []) n) ≡ option_or (cond b (Some i) (first_from (i + 1) names n)) last
    by true h = refl
    by false h = h

-- the map keeps the first number of each name, also of the one that came last
pub one_more : {Y : Type 0} (olds news : List (String Y)) (key : String Y) (name : List ℕ) (number : ℕ) (old new : BTreeMap (String Y) ℕ) → news ≡ olds ++ key ∷ [] → string_bytes key ≡ name → number ≡ length olds
    → AreNumbered (map string_bytes olds) old → ((n : List ℕ) → get_by_text new n ≡ option_or (get_by_text old n) (if bytes_eq name n then Some number else None)) → AreNumbered (map string_bytes news) new
one_more olds news key name number old new put same at are changed = record {
  first = λ n.
      changed n
      ∙ ap (λ (o : Option ℕ). option_or o (if bytes_eq name n then Some number else None)) (are.first n)
      ∙ ap (λ (k : ℕ). option_or (first_from 0 (map string_bytes olds) n) (if bytes_eq name n then Some k else None)) (at ∙ sym (length-map olds string_bytes) ∙ from_zero (length (map string_bytes olds)))
      ∙ sym (first_more 0 (map string_bytes olds) name n)
      ∙ ap (λ (x : List ℕ). first_from 0 (map string_bytes olds ++ x ∷ []) n) (sym same)
      ∙ ap (λ (xs : List (List ℕ)). first_from 0 xs n) (sym (ap (map string_bytes) put ∙ map-append string_bytes olds (key ∷ [])));
}

-- ---- what is found

number_is : (i : ℕ) (names : List (List ℕ)) (n : List ℕ) → number_from i names n ≡ unwrap_or (first_from i names n) (i + length names)
number_is i [] n = omega arith
number_is i (x ∷ names) n = by (bytes_eq x n) (number_is (i + 1) names n ∙ ap (unwrap_or (first_from (i + 1) names n)) (omega arith))
  where
    by : (b : Bool) → number_from (i + 1) names n ≡ unwrap_or (first_from (i + 1) names n) (i + suc (length names)) → cond b i (number_from (i + 1) names n) ≡ unwrap_or (cond b (Some i) (first_from (i + 1) names n)) (i + suc (length names))
    by true h = refl
    by false h = h

-- the number that is kept of a name; without one there are as many names before
pub number_kept : {Y : Type 0} (names : List (List ℕ)) (numbers : BTreeMap (String Y) ℕ) (n : List ℕ) (o : Option ℕ) → AreNumbered names numbers → o ≡ get_by_text numbers n → unwrap_or o (length names) ≡ number_of names n
number_kept names numbers n o are found = ap (λ (p : Option ℕ). unwrap_or p (length names)) (found ∙ are.first n) ∙ ap (unwrap_or (first_from 0 names n)) (from_zero (length names)) ∙ sym (number_is 0 names n)
