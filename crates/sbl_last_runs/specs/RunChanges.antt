-- The words that an edit runs again, each with another run.
use Rattle.std.specs.Prelude.{◌≡◌, ◌⊎◌, ℕ, Bool, true, List, IfSome, IsSome}
use Rattle.std.specs.List.{All, list_any}
use Rattle.std.specs.Str.{bytes_eq}
use Rattle.sbl_semantics.specs.declared.touch.Touch.{Touch}
use Rattle.sbl_semantics.specs.Outcome.{Outcome', outcome_of}
use Rattle.sbl_rows.specs.Setting.{Setting}
use Rattle.sbl_last_runs.specs.KeptEntries.{KeptWord, IsFresh}
use Rattle.sbl_last_runs.specs.Pairs.{Text, find}
use Rattle.sbl_last_runs.specs.declared.change.RunChange.{RunChange}
use Rattle.sbl_last_runs.specs.declared.run_trace.RunTrace.{RunTrace}

-- a word with the outcome of a run, what the run touches, and the steps that it uses
pub record Rerun : Type 0 where
  pub word : List ℕ
  pub outcome : Outcome'
  pub touches : List Touch
  pub used : ℕ

abbrev pub view_run : List ℕ → RunTrace → Rerun
view_run word t = record { word = word; outcome = outcome_of t.outcome; touches = t.touches.items; used = t.used }

-- a change without memory addresses
abbrev pub view_change : RunChange → Rerun
view_change c = view_run c.word.items c.traced

-- whether one of the changes is a change of this word
abbrev pub is_changed : List RunChange → List ℕ → Bool
is_changed changes word = list_any (λ c. bytes_eq c.word.items word) changes

-- each change is one of a word in the vocabulary, with a fresh run in this setting
abbrev pub AreRun : Setting → List KeptWord → List RunChange → Type 0
AreRun script entries changes = All (λ c. IsFresh script c.word.items c.traced × IsSome (find c.word.items entries)) changes

-- each change has a fresh run, and the last run of each other word is fresh
pub record AreAnew (script : Setting) (entries : List KeptWord) (changes : List RunChange) : Type 0 where
  pub run : AreRun script entries changes
  pub fresh : (w : Text) → IfSome (find w.items entries) (λ t. IsFresh script w.items t ⊎ (is_changed changes w.items ≡ true))

-- the last run of each word is fresh
abbrev pub AreAllFresh : Setting → List KeptWord → Type 0
AreAllFresh script entries = (w : Text) → IfSome (find w.items entries) (λ t. IsFresh script w.items t)
