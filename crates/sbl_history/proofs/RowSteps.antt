-- Steps of loops over rows.
use Rattle.std.proofs.Common.{◌≡◌, ◌⊎◌, ◌<◌, ◌≤◌, ◌+◌, ◌-◌, ◌∙◌, ◌++◌, ℕ, zero, suc, arith, List, [], ◌∷◌, Bool, true, false, Some, inl, inr, map, drop, take, length, get_or, refl, sym, ap, subst}
use Rattle.std.specs.Prelude.{slice_get}
use Rattle.std.specs.List.{AllByRecursion}
use Rattle.std.proofs.lemmas.List.{length-drop, map-append, take-append-drop, take_all}
use Rattle.sbl_semantics.specs.Outcome.{Outcome', Stem, Refused}
use Rattle.sbl_rows.specs.Rows.{Row, view_row, view_rows}
use Rattle.sbl_rows.specs.declared.row.Row as declared
use Rattle.sbl_history.specs.inside.Noted.{IsCovered, IsNoted, IsOneOf, IsShown, IsStemIn, Test}
use Rattle.sbl_rows.proofs.ChangeLaws.{each}
use Rattle.sbl_rows.proofs.Loops.{so_far}

pub all_append : {V : Type 0} (P : V → Type 0) (xs : List V) (x : V) → AllByRecursion P xs → P x → AllByRecursion P (xs ++ x ∷ [])
all_append P [] x a p = (p, tt)
all_append P (y ∷ ys) x a p = (a.0, all_append P ys x a.1 p)

pub all_both : {V : Type 0} (P : V → Type 0) (xs ys : List V) → AllByRecursion P xs → AllByRecursion P ys → AllByRecursion P (xs ++ ys)
all_both P [] ys a b = b
all_both P (x ∷ xs) ys a b = (a.0, all_both P xs ys a.1 b)

-- what holds of the items so far, in a weaker form, and of one more
pub all_more : {D V : Type 0} (P Q : V → Type 0) (view : D → V) (xs : List D) (i : ℕ) (x : D) → i < length xs → x ≡ get_or xs i x
    → ((v : V) → P v → Q v) → AllByRecursion P (map view (take i xs)) → Q (view x) → AllByRecursion Q (map view (take (i + 1) xs))
all_more {D} {V} P Q view xs i x lt is weaker a q =
    let one : map view (take i xs) ++ view x ∷ [] ≡ map view (take (i + 1) xs) = (λ k. map view (take i xs) ++ view (is k) ∷ []) ∙ sym (so_far view xs i x lt) in
    subst (λ (vs : List V). AllByRecursion Q vs) one (all_append Q (map view (take i xs)) (view x) (each P Q weaker (map view (take i xs)) a) q)

-- the items from an index on
pub all_rest : {D : Type 0} (i : ℕ) (xs : List D) → take (length xs - i) (drop i xs) ≡ drop i xs
all_rest i xs = take_all (length xs - i) (drop i xs) (omega (arith, length-drop i xs))

-- what holds of all items
pub all_taken : {D V : Type 0} (P : V → Type 0) (view : D → V) (xs : List D) (i : ℕ) → length xs ≤ i → AllByRecursion P (map view (take i xs)) → AllByRecursion P (map view xs)
all_taken {D} {V} P view xs i long a = subst (λ (ds : List D). AllByRecursion P (map view ds)) (take_all i xs long) a

-- a row of a list
pub row_at : (rows : List declared.Row) (i : ℕ) (r : declared.Row) → i < length rows → r ≡ get_or rows i r → slice_get (view_rows rows) i ≡ Some (view_row r)
row_at [] i r lt is = absurd (omega (arith, lt))
row_at (x ∷ rows) zero r lt is = ap (λ (q : declared.Row). Some (view_row q)) (sym is)
row_at (x ∷ rows) (suc i) r lt is = row_at rows i r (omega (arith, lt)) is

-- ---- sets that grow

pub stem_grows : (old new : Test) → ((t : List ℕ) → old t ≡ true → new t ≡ true) → (o : Outcome') → IsStemIn old o → IsStemIn new o
stem_grows old new grows (Stem s) h = grows s h
stem_grows old new grows (Refused f) h = tt

pub noted_grows : (old new : Test) (others : List Row) → ((t : List ℕ) → old t ≡ true → new t ≡ true) → (r : Row) → IsNoted old others r → IsNoted new others r
noted_grows old new others grows r (inl h) = inl (grows r.word h)
noted_grows old new others grows r (inr one) = inr one

-- two rows of one word: it is noted, or the rows are the same
pub noted_pair : (words : Test) (others : List Row) (i : ℕ) (x y : Row) → slice_get others i ≡ Some y → (words x.word ≡ false → x ≡ y) → IsNoted words others x
noted_pair words others i x y at same = by (words x.word) refl
  where
    by : (b : Bool) → words x.word ≡ b → IsNoted words others x
    by true e = inl e
    by false e = inr (i, at ∙ ap Some (sym (same e)))

-- the rows so far and the others, all of which are noted
pub all_noted : (old new : Test) (others : List Row) (rows rest : List declared.Row) (i : ℕ) → ((t : List ℕ) → old t ≡ true → new t ≡ true) → rest ≡ drop i rows
    → AllByRecursion (IsNoted old others) (view_rows (take i rows)) → AllByRecursion (λ r. new r.word ≡ true) (view_rows rest) → AllByRecursion (IsNoted new others) (view_rows rows)
all_noted old new others rows rest i grows is a b =
    subst (λ (ds : List declared.Row). AllByRecursion (IsNoted new others) (view_rows ds)) (take-append-drop i rows)
    (subst (λ (vs : List Row). AllByRecursion (IsNoted new others) vs) (sym (map-append view_row (take i rows) (drop i rows)))
    (all_both (IsNoted new others) (view_rows (take i rows)) (view_rows (drop i rows))
    (each (IsNoted old others) (IsNoted new others) (noted_grows old new others grows) (view_rows (take i rows)) a)
    (subst (λ (ds : List declared.Row). AllByRecursion (IsNoted new others) (view_rows ds)) is (each (λ r. new r.word ≡ true) (IsNoted new others) (λ r h. inl h) (view_rows rest) b))))

pub shown_by : (words kept : Test) (rows : List Row) (t : List ℕ) (r : Row) → IsOneOf rows r → r.outcome ≡ Stem t → words r.word ≡ false → kept r.word ≡ true → IsShown words kept rows t
unfolding IsShown
shown_by words kept rows t r one stem other in_kept = (r, one, stem, other, in_kept)

-- the row that shows a stem
pub shown_row : (words kept : Test) (rows : List Row) (t : List ℕ) → IsShown words kept rows t → (r : Row) × IsOneOf rows r × (r.outcome ≡ Stem t) × (words r.word ≡ false) × (kept r.word ≡ true)
unfolding IsShown
shown_row words kept rows t shown = shown

pub shown_grows : (words old new : Test) (rows : List Row) → ((t : List ℕ) → old t ≡ true → new t ≡ true) → (t : List ℕ) → IsShown words old rows t → IsShown words new rows t
shown_grows words old new rows grows t shown =
    let r = shown_row words old rows t shown in
    shown_by words new rows t r.0 r.1 r.2 r.3 (grows r.0.word r.4)

pub covered_grows : (words stems old new : Test) (rows : List Row) → ((t : List ℕ) → old t ≡ true → new t ≡ true) → (y : Row) → IsCovered words stems old rows y → IsCovered words stems new rows y
covered_grows words stems old new rows grows y covers = λ x is in_set. by x (covers x is in_set)
  where
    by : (x : List ℕ) → (words y.word ≡ true) ⊎ ((old y.word ≡ true) ⊎ IsShown words old rows x) → (words y.word ≡ true) ⊎ ((new y.word ≡ true) ⊎ IsShown words new rows x)
    by x (inl noted) = inl noted
    by x (inr (inl kept)) = inr (inl (grows y.word kept))
    by x (inr (inr shown)) = inr (inr (shown_grows words old new rows grows x shown))
