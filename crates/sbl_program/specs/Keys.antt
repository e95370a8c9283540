-- The keys of strings: the first three characters as one number.
use Rattle.std.specs.Prelude.{◌≡◌, ℕ, zero, suc, ◌+◌, ◌*◌, ◌^◌, ◌<◌, ◌≤◌, List, [], ◌∷◌, length, Some, slice_get, slice_index_or}

-- one more than the character at index i, or 0 if there is none
abbrev pub digit : List ℕ → ℕ → ℕ
digit [] i = 0
digit (c ∷ cs) zero = suc c
digit (c ∷ cs) (suc i) = digit cs i

-- the key of a string: three digits in base 2 ^ 21
pub record IsKey (text : List ℕ) (key : ℕ) : Type 0 where
  pub is : key ≡ (digit text 0 * 2 ^ 21 + digit text 1) * 2 ^ 21 + digit text 2
  pub first : digit text 0 < 2 ^ 21
  pub second : digit text 1 < 2 ^ 21
  pub third : digit text 2 < 2 ^ 21

-- each text has its key
pub record AreKeys (texts : List (List ℕ)) (keys : List ℕ) : Type 0 where
  pub long : length keys ≡ length texts
  pub own : (k : ℕ) (text : List ℕ) (key : ℕ) → slice_get texts k ≡ Some text → slice_get keys k ≡ Some key → IsKey text key

abbrev pub KeysRise : List ℕ → Type 0
KeysRise keys = (j k : ℕ) → j ≤ k → k < length keys → slice_index_or keys j 0 ≤ slice_index_or keys k 0

-- the keys before low are at most `key`, and those from high on are greater
pub record IsInDoubt (keys : List ℕ) (key low high : ℕ) : Type 0 where
  pub inside : low ≤ length keys
  pub before : (j : ℕ) → j < low → slice_index_or keys j 0 ≤ key
  pub following : (j : ℕ) → high ≤ j → j < length keys → key < slice_index_or keys j 0

-- n is the number of keys that are at most `key`
abbrev pub IsKeyCount : List ℕ → ℕ → ℕ → Type 0
IsKeyCount keys key n = IsInDoubt keys key n n
