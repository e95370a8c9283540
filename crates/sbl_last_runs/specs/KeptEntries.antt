-- Words, each with its last run, which is that of a fresh run.
use Rattle.std.specs.Prelude.{◌≡◌, ℕ, List, [], ◌∷◌, map, ⊤}
use Rattle.std.specs.declared.vec.Vec.{Vec}
use Rattle.std.specs.declared.alloc.Global.{Global}
use Rattle.sbl_last_runs.specs.declared.run_trace.RunTrace.{RunTrace}
use Rattle.sbl_semantics.specs.Outcome.{outcome_of, run_of, touches_of, used_of}
use Rattle.sbl_rows.specs.Setting.{Setting}

-- a word and its last run, as represented in memory
abbrev pub KeptWord : Type 0
KeptWord = Vec ℕ Global × RunTrace

abbrev pub words_in : List KeptWord → List (List ℕ)
words_in entries = map (λ e. e.0.items) entries

-- a fresh run of the word has the same outcome, touches the same, and uses the same number of steps
pub record IsFresh (s : Setting) (word : List ℕ) (traced : RunTrace) : Type 0 where
  pub outcome : outcome_of traced.outcome ≡ run_of s.script word s.limit
  pub touches : traced.touches.items ≡ touches_of s.script word s.limit
  pub used : traced.used ≡ used_of s.script word s.limit

abbrev pub AreFresh : Setting → List KeptWord → Type 0
AreFresh s [] = ⊤
AreFresh s (e ∷ entries) = IsFresh s e.0.items e.1 × AreFresh s entries
