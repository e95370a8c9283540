-- The contents of a bench, and what opening it does.
use Rattle.std.specs.Prelude.{◌≡◌, ℕ, ◌-◌, ◌^◌, nat_lt, nat_le, if◌then◌else◌, List, [], ◌∷◌, length, Option, Some, None, Result, Ok, Err}
use Rattle.std.specs.Option.{option_or}
use Rattle.sbl_ast.specs.Source.{Source}
use Rattle.sbl_semantics.specs.Limit.{max_word_length, default_limit}
use Rattle.sbl_rows.specs.Rows.{Row, rows_of}
use Rattle.sbl_rows.specs.Setting.{Setting}
use Rattle.sbl_bench.specs.declared.fault.EditFault.{EditFault}
use Rattle.sbl_bench.specs.declared.fault.EditFault.TheVariants as fault
use Rattle.sbl_bench.specs.Vocabulary.{is_skipped, with_word, vocabulary}

-- the current setting, the current vocabulary, and the number of runs made so far
pub record Contents : Type 0 where
  pub setting : Setting
  pub words : List (List ℕ)
  pub count : ℕ

-- the rows of the current script for the current vocabulary, under the current limit
abbrev pub rows_now : Contents → List Row
rows_now s = rows_of s.setting s.words

abbrev pub max_words : ℕ
max_words = 100000

-- the maximum count of runs
abbrev pub max_runs : ℕ
max_runs = 2 ^ 64 - 1

-- ---- opening

-- The fault of one word after the words before it: it is too long, or it is new and the vocabulary is full.
abbrev pub word_fault : List (List ℕ) → List ℕ → Option EditFault
word_fault words w =
    if nat_lt max_word_length (length w) then Some fault.WordTooLong
    else (if is_skipped w words then None else (if nat_le max_words (length words) then Some fault.Full else None))

-- the first fault of a list of words, taken in turn
abbrev pub opening_fault : List (List ℕ) → List (List ℕ) → Option EditFault
opening_fault words [] = None
opening_fault words (w ∷ ws) = option_or (word_fault words w) (opening_fault (with_word words w) ws)

-- the bench of a script and a list of words: each word of the vocabulary is run once
abbrev pub opening_contents : Source → List (List ℕ) → Contents
opening_contents p ws = record { setting = record { script = p; limit = default_limit }; words = vocabulary ws; count = length (vocabulary ws) }

-- the fault is this one, or an allocation failed
abbrev pub IsFaultOrMemory : Option EditFault → EditFault → Type 0
IsFaultOrMemory verdict fault.OutOfMemory = Unit {0}
IsFaultOrMemory verdict f = verdict ≡ Some f

-- the result of opening
abbrev pub Opens : {B : Type 0} → Source → List (List ℕ) → (B → Contents) → Result B EditFault → Type 0
Opens script words state (Ok bench) = (opening_fault [] words ≡ None) × (state bench ≡ opening_contents script words)
Opens script words state (Err f) = IsFaultOrMemory (opening_fault [] words) f
