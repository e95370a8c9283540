-- A set of pairs of a stem and a word that has it.
use Rattle.std.specs.Prelude.{◌≡◌, ◌&&◌, ◌⊎◌, ℕ, Bool, true, false, List}
use Rattle.std.specs.declared.vec.Vec.{Vec}
use Rattle.std.specs.declared.alloc.Global.{Global}
use Rattle.std.specs.declared.cmp.Ordering.{Ordering}
use Rattle.std.specs.Ordering.{nat_cmp, ordering_then}
use Rattle.std.specs.Cmp.Lexicographic.{slice_cmp}
use Rattle.std.specs.Str.{bytes_eq}
use Rattle.std.specs.BTreeSet.{BTreeSet, contains}
use Rattle.sbl_semantics.specs.Outcome.{Outcome'}
use Rattle.sbl_rows.specs.Classes.{is_stem}

abbrev pub Text : Type 0
Text = Vec ℕ Global

abbrev pub same_text : Text → Text → Bool
same_text x y = bytes_eq x.items y.items

-- a stem, and a word that has it
abbrev pub Key : Type 0
Key = Text × Text

-- by the stem, then by the word, both in code point order; a prefix comes first
abbrev pub key_cmp : Key → Key → Ordering
key_cmp x y = ordering_then (slice_cmp nat_cmp x.0.items y.0.items) (slice_cmp nat_cmp x.1.items y.1.items)

-- whether q is the pair of this word and its outcome
abbrev pub is_pair_of : List ℕ → Outcome' → Key → Bool
is_pair_of word o q = is_stem q.0.items o && bytes_eq word q.1.items

abbrev pub has : BTreeSet Key → Key → Bool
has set q = contains key_cmp set q

-- a pair without memory addresses
abbrev pub plain : Key → List ℕ × List ℕ
plain k = (k.0.items, k.1.items)

-- A pair of this word is in the second set exactly if it is that of its outcome now, if the first set has the pair of either
-- outcome. A pair of another word is in both or in none.
pub record IsFollowed (word : List ℕ) (before now : Outcome') (old new : Key → Bool) (q : Key) : Type 0 where
  pub others : bytes_eq word q.1.items ≡ false → new q ≡ old q
  pub own : bytes_eq word q.1.items ≡ true → (old q ≡ is_stem q.0.items before) ⊎ (old q ≡ is_stem q.0.items now) → new q ≡ is_stem q.0.items now
