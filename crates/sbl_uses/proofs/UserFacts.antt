-- The rows of the words that use something, and the number of these words.
use Rattle.std.proofs.Common.{◌≡◌, ◌∙◌, ◌||◌, ◌&&◌, ◌<◌, ℕ, zero, suc, Bool, true, false, cond, not, List, [], ◌∷◌, ◌++◌, length, map, get_or, nat_eq, append_assoc, refl, sym, ap, ap₂, arith}
use Rattle.std.proofs.lemmas.Bool.Decides.{nat_tests}
use Rattle.std.proofs.Math.Path.{fun_ext}
use Rattle.std.specs.List.{filter, flat_map, list_all, list_any}
use Rattle.std.specs.Prelude.{if◌then◌else◌}
use Rattle.sbl_rows.specs.Rows.{Row, row_of, rows_of}
use Rattle.sbl_rows.specs.Setting.{Setting}
use Rattle.sbl_uses.specs.Parts.{Part}
use Rattle.sbl_uses.specs.Unused.{entry_rows, item_rows, string_rows}
use Rattle.sbl_uses.specs.Used.{Entry, Usable, Whole, is_used, number_using, rows_using, uses}
use Rattle.sbl_uses.specs.UsesLaws.{row_if_unused, rows_of_strings}

-- ---- as many rows as words

length_of_rows : (s : Setting) (test : List ℕ → Bool) (words : List (List ℕ)) → length (filter test words) ≡ length (filter (λ (row : Row). test row.word) (rows_of s words))
length_of_rows s test [] = refl
length_of_rows s test (w ∷ words) = by (test w) (length_of_rows s test words)
  where
    by : (b : Bool) → length (filter test words) ≡ length (filter (λ (row : Row). test row.word) (rows_of s words))
        → length (cond b (w ∷ filter test words) (filter test words)) ≡ length (cond b (row_of s w ∷ filter (λ (row : Row). test row.word) (rows_of s words)) (filter (λ (row : Row). test row.word) (rows_of s words)))
    by true rest = ap suc rest
    by false rest = rest

pub numbers_of_rows : (s : Setting) (words : List (List ℕ)) (u : Usable) → number_using s words u ≡ length (rows_using s words u)
numbers_of_rows s words u = length_of_rows s (λ w. uses s w u) words

-- ---- what no word uses

not_zero : (n : ℕ) → nat_eq (suc n) 0 ≡ false
not_zero n = grind (arith, nat_tests)

some_length : (test : List ℕ → Bool) (words : List (List ℕ)) → list_any test words ≡ not (nat_eq (length (filter test words)) 0)
some_length test [] = refl
some_length test (w ∷ words) = by (test w) (some_length test words)
  where
    by : (b : Bool) → list_any test words ≡ not (nat_eq (length (filter test words)) 0) → (b || list_any test words) ≡ not (nat_eq (length (cond b (w ∷ filter test words) (filter test words))) 0)
    by true rest = sym (ap not (not_zero (length (filter test words))))
    by false rest = rest

used_by_number : (s : Setting) (words : List (List ℕ)) (u : Usable) → is_used s words u ≡ not (nat_eq (number_using s words u) 0)
used_by_number s words u = some_length (λ w. uses s w u) words

if_not : {X : Type 0} (b : Bool) (x y : X) → (if not b then x else y) ≡ (if b then y else x)
if_not true x y = refl
if_not false x y = refl

item_row_is : (s : Setting) (words : List (List ℕ)) (p : Part) → item_rows s words p.0 ≡ row_if_unused s words (Whole p.0)
item_row_is s words p = rw (used_by_number s words (Whole p.0)) (if_not (nat_eq (number_using s words (Whole p.0)) 0) _ _)

string_row_is : (s : Setting) (words : List (List ℕ)) (p : Part) (q : List ℕ) → string_rows s words (p.0, q) ≡ row_if_unused s words (Entry (p.0, q))
string_row_is s words p q = rw (used_by_number s words (Entry (p.0, q))) (if_not (nat_eq (number_using s words (Entry (p.0, q))) 0) _ _)

entry_rows_are : (s : Setting) (words : List (List ℕ)) (p : Part) → entry_rows s words p ≡ rows_of_strings s words p
entry_rows_are s words p =
    rw (used_by_number s words (Whole p.0))
    (if_not (nat_eq (number_using s words (Whole p.0)) 0) _ _
    ∙ ap (λ (f : List ℕ → List (List (List ℕ))). if nat_eq (number_using s words (Whole p.0)) 0 then [] else flat_map f p.1) (fun_ext (string_row_is s words p)))

pub unused_are : (s : Setting) (words : List (List ℕ)) (parts : List Part)
    → flat_map (λ (p : Part). item_rows s words p.0) parts ++ flat_map (entry_rows s words) parts ≡ flat_map (λ (p : Part). row_if_unused s words (Whole p.0)) parts ++ flat_map (rows_of_strings s words) parts
unused_are s words parts =
    ap₂ (λ (f g : Part → List (List (List ℕ))). flat_map f parts ++ flat_map g parts) (fun_ext (item_row_is s words)) (fun_ext (entry_rows_are s words))

-- ---- one value after another

-- each of some values passes a test, so that at an index does
pub all_at : {X Y : Type 0} (test : Y → Bool) (f : X → Y) (xs : List X) (i : ℕ) (d : X) → list_all test (map f xs) ≡ true → i < length xs → test (f (get_or xs i d)) ≡ true
all_at test f [] i d h lt = absurd (omega (arith, lt))
all_at test f (x ∷ xs) i d h lt = by (test (f x)) refl (list_all test (map f xs)) refl (λ k rest le. all_at test f xs k d rest le) i lt
  where
    by : (a : Bool) → test (f x) ≡ a → (b : Bool) → list_all test (map f xs) ≡ b → ((k : ℕ) → list_all test (map f xs) ≡ true → k < length xs → test (f (get_or xs k d)) ≡ true)
        → (k : ℕ) → k < length (x ∷ xs) → test (f (get_or (x ∷ xs) k d)) ≡ true
    by true first true rest later zero le = first
    by true first true rest later (suc k) le = later k rest (omega (arith, le))
    by true first false rest later k le = let no : false ≡ true = sym (ap (λ (p : Bool). p && list_all test (map f xs)) first ∙ rest) ∙ h in absurd (cc no)
    by false first b rest later k le = let no : false ≡ true = sym (ap (λ (p : Bool). p && list_all test (map f xs)) first) ∙ h in absurd (cc no)

-- a list with one value more, and the values still to come
pub one_more : {Y : Type 0} (old new : List Y) (y : Y) (rest all whole : List Y) → new ≡ old ++ y ∷ [] → all ≡ y ∷ rest → old ++ all ≡ whole → new ++ rest ≡ whole
one_more old new y rest all whole next split so = ap (λ l. l ++ rest) next ∙ append_assoc old (y ∷ []) rest ∙ ap (λ l. old ++ l) (sym split) ∙ so
