-- The set of pairs of a stem and a word that has it, next to the words and their runs.
use Rattle.std.specs.Prelude.{◌≡◌, ℕ, Bool, false, List, Option, Some, None, ⊤}
use Rattle.std.specs.Str.{bytes_eq}
use Rattle.std.specs.Map.{lookup}
use Rattle.std.specs.BTreeSet.{BTreeSet}
use Rattle.sbl_last_runs.specs.declared.run_trace.RunTrace.{RunTrace}
use Rattle.sbl_semantics.specs.Outcome.{outcome_of}
use Rattle.sbl_rows.specs.Classes.{is_stem}
use Rattle.sbl_last_runs.specs.KeptEntries.{KeptWord}
pub use Rattle.indexmap.specs.IndexMap.{IsUnique, keys}
pub use Rattle.sbl_rows.specs.Pairs.{IsFollowed, Key, Text, has, is_pair_of, key_cmp, plain, same_text}

-- the word's last run
abbrev pub find : List ℕ → List KeptWord → Option RunTrace
find word entries = lookup (λ k. bytes_eq word k.items) entries

abbrev pub has_stem : List ℕ → Option RunTrace → Bool
has_stem s None = false
has_stem s (Some t) = is_stem s (outcome_of t.outcome)

-- the set has exactly the pairs of the words that have a stem
abbrev pub ArePaired : List KeptWord → BTreeSet Key → Type 0
ArePaired entries set = (q : Key) → has set q ≡ has_stem q.0.items (find q.1.items entries)

-- the pairs that are kept, if any, are those of the words
abbrev pub IsIndexed : List KeptWord → Option (BTreeSet Key) → Type 0
IsIndexed entries None = ⊤
IsIndexed entries (Some set) = ArePaired entries set

-- the word is not in the vocabulary, and each other word has the same run in both
pub record IsOneMore (word : List ℕ) (more entries : List KeptWord) : Type 0 where
  pub absent : find word entries ≡ None
  pub others : (w : Text) → bytes_eq word w.items ≡ false → find w.items more ≡ find w.items entries
