-- The words that the last edit ran again, each with its run before, next to the words with their runs now.
use Rattle.std.specs.Prelude.{◌≡◌, ◌≢◌, ℕ, false, List, Option, Some, IsSome, map}
use Rattle.std.specs.List.{All, AllPairs, filter_map}
use Rattle.std.specs.Option.{option_and_then}
use Rattle.sbl_semantics.specs.Outcome.{outcome_of, run_of}
use Rattle.sbl_last_runs.specs.declared.run_trace.RunTrace.{RunTrace}
use Rattle.sbl_rows.specs.ChangedRows.{ChangedRow, if_changed}
use Rattle.sbl_last_runs.specs.KeptEntries.{KeptWord}
use Rattle.sbl_last_runs.specs.RunChanges.{is_changed}
use Rattle.sbl_last_runs.specs.Pairs.{Text, find}
use Rattle.sbl_rows.specs.Setting.{Setting}
use Rattle.sbl_last_runs.specs.declared.change.RunChange.{RunChange}

-- what is changed for a word that was run again, by the run before and the run now
abbrev pub changed_since : RunChange → Option RunTrace → Option ChangedRow
changed_since c now = option_and_then (λ t. if_changed c.word.items (outcome_of c.traced.outcome) (outcome_of t.outcome)) now

-- what the last edit changed for a word that it ran again
abbrev pub last_change : List KeptWord → RunChange → Option ChangedRow
last_change entries c = changed_since c (find c.word.items entries)

abbrev pub last_changes : List KeptWord → List RunChange → List ChangedRow
last_changes entries last = filter_map (last_change entries) last

-- what an edit that leads from one setting to another one changes for a word
abbrev pub change_of : Setting → Setting → List ℕ → Option ChangedRow
change_of s t word = if_changed word (run_of s.script word s.limit) (run_of t.script word t.limit)

-- the same for the words of these changes
abbrev pub rows_between : Setting → Setting → List RunChange → List ChangedRow
rows_between s t changes = filter_map (change_of s t) (map (λ c. c.word.items) changes)

-- a word of a change, and its run
abbrev pub word_run : RunChange → List ℕ × Option RunTrace
word_run c = (c.word.items, Some c.traced)

-- a word of a change, and its run among the entries
abbrev pub word_found : List KeptWord → RunChange → List ℕ × Option RunTrace
word_found entries c = (c.word.items, find c.word.items entries)

-- no two changes are of one word
abbrev pub AreApart : List RunChange → Type 0
AreApart changes = AllPairs (λ c d. c.word.items ≢ d.word.items) changes

-- the word of each change is in the vocabulary
abbrev pub AreThere : List KeptWord → List RunChange → Type 0
AreThere entries changes = All (λ c. IsSome (find c.word.items entries)) changes

-- these words, each with its run before, were run again between two lists of words
pub record Follows (old : List KeptWord) (last : List RunChange) (new : List KeptWord) : Type 0 where
  pub before : All (λ c. find c.word.items old ≡ Some c.traced) last
  pub others : (w : Text) → is_changed last w.items ≡ false → find w.items new ≡ find w.items old
