-- The rows of a linked table, and the links between them.
use Rattle.std.specs.Prelude.{◌≡◌, ℕ, zero, suc, ◌<◌, ◌≤◌, true, false, List, length, map, take, nat_eq}
use Rattle.std.specs.Prelude.{Option, Some, None, slice_get, slice_index_or, Vec}
use Rattle.std.specs.Global.{Global}
use Rattle.std.specs.List.{starts_with}
use Rattle.std.specs.Ordering.{is_gt, nat_cmp, ordering_then}
use Rattle.std.specs.declared.cmp.Ordering.{Ordering}
use Rattle.std.specs.Cmp.Lexicographic.{slice_cmp}
use Rattle.std.specs.declared.cmp.Reverse.{Reverse}

-- a row: a string as read in the mode, and its number
abbrev pub Row : Type 0
Row = Vec ℕ Global × Reverse ℕ

abbrev pub texts_of : List Row → List (List ℕ)
texts_of rows = map (λ r. r.0.items) rows

abbrev pub numbers_of : List Row → List ℕ
numbers_of rows = map (λ r. r.1.0) rows

-- the rows are sorted; `TiesFall`: of equal strings the one with the smallest number is last
abbrev pub Rise : List (List ℕ) → Type 0
Rise texts = (j k : ℕ) (u v : List ℕ) → j ≤ k → slice_get texts j ≡ Some u → slice_get texts k ≡ Some v → is_gt (slice_cmp nat_cmp u v) ≡ false

abbrev pub TiesFall : List (List ℕ) → List ℕ → Type 0
TiesFall texts numbers =
    (j k a b : ℕ) (u : List ℕ) → j < k → slice_get texts j ≡ Some u → slice_get texts k ≡ Some u
    → slice_get numbers j ≡ Some a → slice_get numbers k ≡ Some b → b ≤ a

-- the rows have exactly the strings of the table
pub record AreRows (strings texts : List (List ℕ)) (numbers : List ℕ) : Type 0 where
  pub rise : Rise texts
  pub ties : TiesFall texts numbers
  pub listed : (k i : ℕ) (u : List ℕ) → slice_get texts k ≡ Some u → slice_get numbers k ≡ Some i → slice_get strings i ≡ Some u
  pub all : (i : ℕ) (u : List ℕ) → slice_get strings i ≡ Some u → (k : ℕ) × (slice_get texts k ≡ Some u) × (slice_get numbers k ≡ Some i)

-- the last row of the longest strings with fewer than b characters that are a prefix of x, if there is one
abbrev pub IsLast : List (List ℕ) → List ℕ → ℕ → Option ℕ → Type 0
IsLast texts x b None = (j : ℕ) (v : List ℕ) → slice_get texts j ≡ Some v → starts_with nat_eq x v ≡ true → b ≤ length v
IsLast texts x b (Some r) =
    (w : List ℕ) × (slice_get texts r ≡ Some w) × (starts_with nat_eq x w ≡ true) × (length w < b) ×
    ((j : ℕ) (v : List ℕ) → slice_get texts j ≡ Some v → starts_with nat_eq x v ≡ true → length v < b
    → (length v ≤ length w) × (r < j → length v < length w))

-- all strings with fewer than b characters that are a prefix of x are also a prefix of row r, and those in rows after r
-- are shorter than it
abbrev pub StandsAt : List (List ℕ) → List ℕ → ℕ → Option ℕ → Type 0
StandsAt texts x b None = IsLast texts x b None
StandsAt texts x b (Some r) =
    (w : List ℕ) × (slice_get texts r ≡ Some w) ×
    ((j : ℕ) (v : List ℕ) → slice_get texts j ≡ Some v → starts_with nat_eq x v ≡ true → length v < b
    → (starts_with nat_eq w v ≡ true) × (r < j → length v < length w))

-- each row links to the last row of the longest shorter strings that are a prefix of it; `GoDown`: each link goes to an
-- earlier row
abbrev pub AreLinks : List (List ℕ) → List (Option ℕ) → Type 0
AreLinks texts links = (r : ℕ) (l : Option ℕ) (w : List ℕ) → slice_get links r ≡ Some l → slice_get texts r ≡ Some w → IsLast texts w (length w) l

abbrev pub GoDown : List (Option ℕ) → Type 0
GoDown links = (r q : ℕ) → slice_get links r ≡ Some (Some q) → q < r

-- n is the number of rows that do not sort after x
pub record IsCount (texts : List (List ℕ)) (x : List ℕ) (n : ℕ) : Type 0 where
  pub inside : n ≤ length texts
  pub before : (j : ℕ) (v : List ℕ) → j < n → slice_get texts j ≡ Some v → is_gt (slice_cmp nat_cmp v x) ≡ false
  pub following : (j : ℕ) (v : List ℕ) → n ≤ j → slice_get texts j ≡ Some v → is_gt (slice_cmp nat_cmp v x) ≡ true

-- n is the length of the common prefix of two strings
pub record IsCommon (x text : List ℕ) (n : ℕ) : Type 0 where
  pub in_x : n ≤ length x
  pub in_text : n ≤ length text
  pub same : take n x ≡ take n text
  pub apart : n < length x → n < length text → slice_index_or x n 0 ≡ slice_index_or text n 0 → ⊥

pub record IsLinked (strings : List (List ℕ)) (rows : List Row) (links : List (Option ℕ)) : Type 0 where
  pub rows_are : AreRows strings (texts_of rows) (numbers_of rows)
  pub links_are : AreLinks (texts_of rows) links
  pub down : GoDown links
  pub long : length links ≡ length rows

-- the last of the first n rows
abbrev pub before : ℕ → Option ℕ
before zero = None
before (suc n) = Some n

-- each number is equal to its index
abbrev pub AreOwn : List ℕ → Type 0
AreOwn numbers = (k : ℕ) → k < length numbers → slice_index_or numbers k 0 ≡ k

-- the number of rows up to and including this one
abbrev pub upto_row : Option ℕ → ℕ
upto_row None = zero
upto_row (Some r) = suc r

-- the order of rows
abbrev pub row_cmp : Row → Row → Ordering
row_cmp r s = ordering_then (slice_cmp nat_cmp r.0.items s.0.items) (nat_cmp s.1.0 r.1.0)
