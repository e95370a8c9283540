-- The representation of a bench: its words in their order, each with the outcome and the touches of its last run.
use Rattle.std.specs.Prelude.{◌≤◌, ◌<◌, ℕ, List, length}
use Rattle.sbl_script.specs.ParsedScript.{ParsedScript, source_of}
use Rattle.sbl_rows.specs.ChangedRows.{ChangedRow}
use Rattle.sbl_rows.specs.Setting.{Setting}
use Rattle.sbl_semantics.specs.Limit.{max_word_length}
use Rattle.sbl_bench.specs.Contents.{Contents}

pub record KeptRuns : Type 0 where
  pub script : ParsedScript
  pub limit : ℕ
  pub words : List (List ℕ)
  pub count : ℕ
  -- the words whose outcome the last edit changed
  pub changes : List ChangedRow

-- the bench without memory addresses
abbrev pub contents_of : KeptRuns → Contents
contents_of k = record { setting = record { script = source_of k.script; limit = k.limit }; words = k.words; count = k.count }

abbrev pub setting_of : KeptRuns → Setting
setting_of k = (contents_of k).setting

-- a word that a vocabulary can have
abbrev pub IsWord : List ℕ → Type 0
IsWord word = (0 < length word) × (length word ≤ max_word_length)
