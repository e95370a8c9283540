-- Why a word has its stem: what a run of a word does, whether the word is in the vocabulary or not.
use Rattle.std.specs.Prelude.{◌≡◌, ℕ, List, [], length, map, nat_lt, if◌then◌else◌, Option, Some, None, slice_index_or}
use Rattle.sbl_rows.specs.Setting.{Setting}
use Rattle.sbl_bench.specs.declared.fault.EditFault.{EditFault}
use Rattle.sbl_bench.specs.declared.fault.EditFault.TheVariants as fault
use Rattle.sbl_machine.specs.declared.outcome.Why.{Why}
use Rattle.sbl_semantics.specs.Outcome.{integers_of, outcome_of, run_of, used_of, events_of}
use Rattle.sbl_semantics.specs.TouchedItems.{names_of}
use Rattle.sbl_semantics.specs.Events.{event_of}
use Rattle.sbl_semantics.specs.Limit.{max_word_length}

-- why a word cannot be run
abbrev pub refusal_of_why : List ℕ → Option EditFault
refusal_of_why [] = Some fault.EmptyWord
refusal_of_why word = if nat_lt max_word_length (length word) then Some fault.WordTooLong else None

-- the outcome, the events and the number of steps of a fresh run of a word, and the integer variables at its end
pub record IsWhy (s : Setting) (word : List ℕ) (why : Why) : Type 0 where
  pub outcome : outcome_of why.outcome ≡ run_of s.script word s.limit
  pub events : map event_of why.events.items ≡ events_of s.script word s.limit
  pub used : why.used ≡ used_of s.script word s.limit
  pub integers : why.integers.items ≡ integers_of s.script word s.limit

-- the name of the routine with this number, in the order of the definitions; empty if there is none
abbrev pub routine_name : Setting → ℕ → List ℕ
routine_name s number = slice_index_or (names_of s.script).routines number []
