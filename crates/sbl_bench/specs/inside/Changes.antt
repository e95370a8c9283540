-- The changes that an edit of the setting is about to make.
use Rattle.std.specs.Prelude.{◌≡◌, ◌≢◌, ℕ, Bool, false, List, [], ◌∷◌, map, ⊤}
use Rattle.std.specs.List.{filter}
use Rattle.sbl_script.specs.Edits.{IsEdited}
use Rattle.sbl_ast.specs.Source.{Source}
use Rattle.sbl_semantics.specs.Differs.{differs}
use Rattle.sbl_ast.specs.NamedParts.{Part'}
use Rattle.sbl_semantics.specs.Outcome.{run_of, touches_of, used_of}
use Rattle.sbl_last_runs.specs.RunChanges.{Rerun}
use Rattle.sbl_last_runs.specs.KeptEntries.{KeptWord, IsFresh, words_in}
use Rattle.sbl_rows.specs.Setting.{Setting, under}
use Rattle.sbl_rows.specs.inside.SameRuns.{RunsSame}
use Rattle.sbl_bench.specs.inside.AffectedWords.{AffectedWords, Touching, Above, Every, is_affected, is_affected_run}
use Rattle.sbl_bench.specs.Contents.{Contents}
use Rattle.sbl_bench.specs.Edits.{Edit, Remove, Replace, IsSettingAfter, PassesTests, needs_run, words_after}
use Rattle.sbl_bench.specs.inside.ProofNames.{meets_listed}
use Rattle.sbl_bench.specs.declared.affected_words.AffectedWords as declared
use Rattle.sbl_bench.specs.declared.affected_words.AffectedWords.TheVariants as code

-- the words that are affected, without memory addresses
abbrev pub affected_of : declared.AffectedWords → AffectedWords
affected_of (code.Touching marks) = Touching marks
affected_of (code.Above n) = Above n
affected_of code.Every = Every

-- whether the last run of a word is affected
abbrev pub is_met : AffectedWords → KeptWord → Bool
is_met a e = is_affected_run a e.1.touches.items e.1.used

-- the words that are affected, in their order
abbrev pub met_words : AffectedWords → List KeptWord → List (List ℕ)
met_words a entries = words_in (filter (is_met a) entries)

abbrev pub rerun_of : Setting → List ℕ → Rerun
rerun_of s w = record { word = w; outcome = run_of s.script w s.limit; touches = touches_of s.script w s.limit; used = used_of s.script w s.limit }

-- words, with their runs in this setting
abbrev pub reruns : Setting → List (List ℕ) → List Rerun
reruns s words = map (rerun_of s) words

-- the last run of each word that is not met is fresh in this setting too
abbrev pub AreStill : (KeptWord → Bool) → Setting → List KeptWord → Type 0
AreStill needs_run script [] = ⊤
AreStill needs_run script (e ∷ es) = (needs_run e ≡ false → IsFresh script e.0.items e.1) × AreStill needs_run script es

-- An edit of the setting with the setting after it: the edit passes all tests but those of its text, it has to run exactly the
-- words that are affected, and each other word runs as before.
pub record Brings (s : Contents) (e : Edit) (t : Setting) (a : AffectedWords) : Type 0 where
  pub after : IsSettingAfter s e t
  pub passes : PassesTests s e
  pub wants : (word : List ℕ) → e ≢ Remove word
  pub words : words_after s e ≡ s.words
  pub met_is : (w : List ℕ) → needs_run s e t w ≡ is_affected s.setting a w
  pub stays : (w : List ℕ) → is_affected s.setting a w ≡ false → RunsSame s.setting t w

-- An edit made this script by replacing this item, and passes all tests but those of its text.
pub record IsTaken (s : Contents) (e : Part') (text : List ℕ) (t : Source) (x : Part') : Type 0 where
  pub edited : IsEdited s.setting.script e text t
  pub replaces : x ≡ e
  pub passes : PassesTests s (Replace e text)

-- An edit puts a whole script into force under the limit before, and passes all tests but those of its text. It has to run the
-- words whose run meets what differs.
pub record IsExchange (s : Contents) (e : Edit) (t : Source) : Type 0 where
  pub after : IsSettingAfter s e (under t s.setting.limit)
  pub passes : PassesTests s e
  pub wants : (word : List ℕ) → e ≢ Remove word
  pub words : words_after s e ≡ s.words
  pub met_is : (w : List ℕ)
      → needs_run s e (under t s.setting.limit) w ≡ meets_listed (differs s.setting.script t) s.setting.script w s.setting.limit
