-- A list of numbers by names, with one number more.
use Rattle.std.proofs.Common.{◌≡◌, ◌∙◌, ◌<◌, ◌≤◌, ℕ, zero, suc, Bool, true, false, List, [], ◌∷◌, ◌++◌, length, map, arith, refl, sym, ap}
use Rattle.std.specs.Prelude.{if◌then◌else◌, slice_index_or, slice_set}
use Rattle.std.specs.Str.{bytes_eq}
use Rattle.std.proofs.lemmas.Bool.{le-ltb, lt-ltb, true≢false}
use Rattle.std.proofs.lemmas.List.{length-append, length-set}
use Rattle.std.proofs.lemmas.Slice.Eq.{bytes_eq-Decides}
use Rattle.sbl_semantics.specs.Items.{is_member, place_of}
use Rattle.sbl_compiler.specs.NumberedNames.{number_of}
use Rattle.sbl_compiler.proofs.SoundItems.{among_is, number_is}
use Rattle.sbl_machine.specs.AmongList.{AmongList', numbers_of, with_number}

-- the numbers of a name, by a walk over both lists
abbrev listed_numbers : List (List ℕ) → List (List ℕ) → List ℕ → List ℕ
listed_numbers [] rows n = []
listed_numbers (h ∷ hs) [] n = []
listed_numbers (h ∷ hs) (r ∷ rows) n = if bytes_eq h n then r else listed_numbers hs rows n

-- names that are equal to one are equal to each other
same_by : (h m n : List ℕ) → bytes_eq h n ≡ true → bytes_eq m n ≡ true → bytes_eq h m ≡ true
same_by h m n p q = (bytes_eq-Decides h m).1 ((bytes_eq-Decides h n).0 p ∙ sym ((bytes_eq-Decides m n).0 q))

listed_is : (hs rows : List (List ℕ)) (n : List ℕ) → length rows ≡ length hs → slice_index_or rows (place_of hs n) [] ≡ listed_numbers hs rows n
listed_is [] [] n e = refl
listed_is [] (r ∷ rows) n e = absurd cc
listed_is (h ∷ hs) [] n e = absurd cc
listed_is (h ∷ hs) (r ∷ rows) n e = by (bytes_eq h n) (listed_is hs rows n (omega (arith, e)))
  where
    by : (b : Bool) → slice_index_or rows (place_of hs n) [] ≡ listed_numbers hs rows n → slice_index_or (r ∷ rows) (if b then 0 else suc (place_of hs n)) [] ≡ (if b then r else listed_numbers hs rows n)
    by true i = refl
    by false i = i

not_listed : (hs rows : List (List ℕ)) (m : List ℕ) → is_member hs m ≡ false → listed_numbers hs rows m ≡ []
not_listed [] rows m none = refl
not_listed (h ∷ hs) [] m none = refl
not_listed (h ∷ hs) (r ∷ rows) m none = by (bytes_eq h m) none (λ k. not_listed hs rows m k)
  where
    by : (b : Bool) → (if b then true else is_member hs m) ≡ false → (is_member hs m ≡ false → listed_numbers hs rows m ≡ []) → (if b then r else listed_numbers hs rows m) ≡ []
    by true k rest = absurd (true≢false k)
    by false k rest = rest k

-- a name that is not listed comes at the end
listed_new : (hs rows : List (List ℕ)) (m r n : List ℕ) → length rows ≡ length hs → is_member hs m ≡ false → listed_numbers (hs ++ m ∷ []) (rows ++ r ∷ []) n ≡ (if bytes_eq m n then r else listed_numbers hs rows n)
listed_new [] [] m r n e none = refl
listed_new [] (q ∷ rows) m r n e none = absurd cc
listed_new (h ∷ hs) [] m r n e none = absurd cc
listed_new (h ∷ hs) (q ∷ rows) m r n e none = by (bytes_eq h n) (bytes_eq m n) refl refl (bytes_eq h m) refl none (λ k. listed_new hs rows m r n (omega (arith, e)) k)
  where
    by : (b c : Bool) → bytes_eq h n ≡ b → bytes_eq m n ≡ c → (d : Bool) → bytes_eq h m ≡ d → (if d then true else is_member hs m) ≡ false
        → (is_member hs m ≡ false → listed_numbers (hs ++ m ∷ []) (rows ++ r ∷ []) n ≡ (if bytes_eq m n then r else listed_numbers hs rows n))
        → (if b then q else listed_numbers (hs ++ m ∷ []) (rows ++ r ∷ []) n) ≡ (if c then r else (if b then q else listed_numbers hs rows n))
    by b c p o true i k rest = absurd (true≢false k)
    by true true p o false i k rest = absurd (true≢false (sym (same_by h m n p o) ∙ i))
    by true false p o false i k rest = refl
    by false c p o false i k rest = rest k ∙ ap (λ (x : Bool). if x then r else listed_numbers hs rows n) o

-- a name that is listed gets another row
listed_set : (hs rows : List (List ℕ)) (m r n : List ℕ) → length rows ≡ length hs → is_member hs m ≡ true → listed_numbers hs (slice_set rows (place_of hs m) r) n ≡ (if bytes_eq m n then r else listed_numbers hs rows n)
listed_set [] rows m r n e there = absurd (true≢false (sym there))
listed_set (h ∷ hs) [] m r n e there = absurd cc
listed_set (h ∷ hs) (q ∷ rows) m r n e there = by (bytes_eq h m) refl there (λ k. listed_set hs rows m r n (omega (arith, e)) k)
  where
    same : bytes_eq h m ≡ true → (c : Bool) → bytes_eq m n ≡ c → (if bytes_eq h n then r else listed_numbers hs rows n) ≡ (if c then r else (if bytes_eq h n then q else listed_numbers hs rows n))
    same i true o = ap (λ (x : Bool). if x then r else listed_numbers hs rows n) (ap (λ (x : List ℕ). bytes_eq x n) ((bytes_eq-Decides h m).0 i) ∙ o)
    same i false o =
        let off : bytes_eq h n ≡ false = ap (λ (x : List ℕ). bytes_eq x n) ((bytes_eq-Decides h m).0 i) ∙ o in
        ap (λ (x : Bool). if x then r else listed_numbers hs rows n) off ∙ sym (ap (λ (x : Bool). if x then q else listed_numbers hs rows n) off)

    other : (b c : Bool) → bytes_eq h n ≡ b → bytes_eq m n ≡ c → bytes_eq h m ≡ false → listed_numbers hs (slice_set rows (place_of hs m) r) n ≡ (if bytes_eq m n then r else listed_numbers hs rows n) → (if b then q else listed_numbers hs (slice_set rows (place_of hs m) r) n) ≡ (if c then r else (if b then q else listed_numbers hs rows n))
    other true true p o i rest = absurd (true≢false (sym (same_by h m n p o) ∙ i))
    other true false p o i rest = refl
    other false c p o i rest = rest ∙ ap (λ (x : Bool). if x then r else listed_numbers hs rows n) o

    by : (d : Bool) → bytes_eq h m ≡ d → (if d then true else is_member hs m) ≡ true
        → (is_member hs m ≡ true → listed_numbers hs (slice_set rows (place_of hs m) r) n ≡ (if bytes_eq m n then r else listed_numbers hs rows n))
        → listed_numbers (h ∷ hs) (slice_set (q ∷ rows) (if d then 0 else suc (place_of hs m)) r) n ≡ (if bytes_eq m n then r else listed_numbers (h ∷ hs) (q ∷ rows) n)
    by true i k rest = same i (bytes_eq m n) refl
    by false i k rest = other (bytes_eq h n) (bytes_eq m n) refl refl i (rest k)

-- ---- a list with one number more

at_place : (list : AmongList') (n : List ℕ) → length list.numbers ≡ length list.routines → numbers_of list n ≡ listed_numbers list.routines list.numbers n
at_place list n e = ap (λ (i : ℕ). slice_index_or list.numbers i []) (number_is list.routines n) ∙ listed_is list.routines list.numbers n e

module _ (list new : AmongList') (m n : List ℕ) (k : ℕ) (e : length list.numbers ≡ length list.routines) where
  abbrev hs : List (List ℕ)
  hs = list.routines

  abbrev rows : List (List ℕ)
  rows = list.numbers

  abbrev more : List ℕ
  more = numbers_of list m ++ k ∷ []

  pub number_put : number_of hs m < length rows → new.routines ≡ hs → new.numbers ≡ slice_set rows (number_of hs m) more → numbers_of new n ≡ with_number m k n (numbers_of list n)
  number_put below same set =
      let there : is_member hs m ≡ true = sym (among_is hs m) ∙ lt-ltb (number_of hs m) (length hs) (omega (arith, below, e)) in
      let put : new.numbers ≡ slice_set rows (place_of hs m) more = set ∙ ap (λ (i : ℕ). slice_set rows i more) (number_is hs m) in
      let long : length new.numbers ≡ length new.routines = ap length set ∙ length-set rows (number_of hs m) more ∙ e ∙ sym (ap length same) in
      at_place new n long ∙ (λ i. listed_numbers (same i) (put i) n) ∙ listed_set hs rows m more n e there ∙ by (bytes_eq m n) refl
    where
      by : (b : Bool) → bytes_eq m n ≡ b → (if b then more else listed_numbers hs rows n) ≡ (if b then numbers_of list n ++ k ∷ [] else numbers_of list n)
      by true i = ap (λ (x : List ℕ). numbers_of list x ++ k ∷ []) ((bytes_eq-Decides m n).0 i)
      by false i = sym (at_place list n e)

  pub number_new : length rows ≤ number_of hs m → new.routines ≡ hs ++ m ∷ [] → new.numbers ≡ rows ++ (k ∷ []) ∷ [] → numbers_of new n ≡ with_number m k n (numbers_of list n)
  number_new past same set =
      let none : is_member hs m ≡ false = sym (among_is hs m) ∙ le-ltb (number_of hs m) (length hs) (omega (arith, past, e)) in
      let a = ap length set ∙ length-append rows ((k ∷ []) ∷ []) in
      let b = ap length same ∙ length-append hs (m ∷ []) in
      let long : length new.numbers ≡ length new.routines = omega (arith, a, b, e) in
      at_place new n long ∙ (λ i. listed_numbers (same i) (set i) n) ∙ listed_new hs rows m (k ∷ []) n e none ∙ by (bytes_eq m n) refl none
    where
      by : (b : Bool) → bytes_eq m n ≡ b → is_member hs m ≡ false → (if b then k ∷ [] else listed_numbers hs rows n) ≡ (if b then numbers_of list n ++ k ∷ [] else numbers_of list n)
      by true i none = ap (λ (x : List ℕ). x ++ k ∷ []) (sym (at_place list n e ∙ not_listed hs rows n (ap (is_member hs) (sym ((bytes_eq-Decides m n).0 i)) ∙ none)))
      by false i none = sym (at_place list n e)

-- a row as a list
pub row_is : {V : Type 0} (f : V → List ℕ) (xs : List V) (i : ℕ) (v : V) → i < length xs → v ≡ slice_index_or xs i v → f v ≡ slice_index_or (map f xs) i []
row_is f [] i v l e = absurd (omega arith)
row_is f (x ∷ xs) zero v l e = ap f e
row_is f (x ∷ xs) (suc i) v l e = row_is f xs i v (omega arith) e
