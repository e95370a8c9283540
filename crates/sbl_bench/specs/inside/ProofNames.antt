-- Names for parts of the definitions of edits and of the vocabulary, which only the functions inside the crate and proofs use.
use Rattle.std.specs.Prelude.{ℕ, ◌+◌, ◌-◌, Bool, true, List, length, Option, nat_le, nat_lt}
use Rattle.std.specs.List.{fold}
use Rattle.std.specs.Option.{option_map_or}
use Rattle.sbl_ast.specs.Source.{Source}
use Rattle.sbl_ast.specs.NamedParts.{Part'}
use Rattle.sbl_machine.specs.BuiltFrom.{meets_one}
use Rattle.sbl_rows.specs.Setting.{Setting}
use Rattle.sbl_bench.specs.Contents.{Contents, max_runs, max_words}
use Rattle.sbl_bench.specs.Edits.{Edit, runs_needed, words_after}
use Rattle.sbl_bench.specs.Vocabulary.{with_word}

abbrev pub is_full : List (List ℕ) → Bool
is_full words = nat_le max_words (length words)

-- the words with some more, taken in turn
abbrev pub with_all : List (List ℕ) → List (List ℕ) → List (List ℕ)
with_all words ws = fold with_word words ws

-- whether fewer counts are left than the edit has words to run
abbrev pub lacks_counts : Contents → Edit → Setting → Bool
lacks_counts s e t = nat_lt (max_runs - s.count) (runs_needed s e t)

-- whether the run of a word meets one of the listed items, by what each of them affects; true if there is no list
abbrev pub meets_listed : Option (List Part') → Source → List ℕ → ℕ → Bool
meets_listed listed script word limit = option_map_or (λ items. meets_one items script word limit) listed true

-- the bench after an accepted edit with this setting after it
abbrev pub contents_after : Contents → Edit → Setting → Contents
contents_after s e t = record { setting = t; words = words_after s e; count = s.count + runs_needed s e t }
