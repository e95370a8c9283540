-- The numbers of words that are kept for strings of amongs.
use Rattle.std.specs.Prelude.{◌≡◌, ℕ, List, length}
use Rattle.std.specs.List.{filter}
use Rattle.std.specs.BTreeMap.{BTreeMap}
use Rattle.sbl_rows.specs.Setting.{Setting}
use Rattle.sbl_bench.specs.KeptRuns.{KeptRuns, setting_of}
use Rattle.sbl_explain.specs.Kept.{Names, has_taken}
use Rattle.sbl_explain.specs.declared.kept_words.KeptWord.{KeptWord}
use Rattle.sbl_uses.specs.TakeNumbers.{number_of}
use Rattle.sbl_uses.specs.Used.{Entry, Take, number_using}
use Rattle.sbl_uses.specs.UnusedViews.{Key}

-- the number of the kept words that have a string
abbrev pub number_kept : Names → Take → List KeptWord → ℕ
number_kept names t words = length (filter (has_taken names t) words)

-- the numbers are those of the words whose runs take the strings
abbrev pub AreCounted : Setting → List (List ℕ) → BTreeMap Key ℕ → Type 0
AreCounted s words counts = (t : Take) → number_of counts t ≡ number_using s words (Entry t)

-- the same of the words of a bench
abbrev pub KeepsNumbers : KeptRuns → BTreeMap Key ℕ → Type 0
KeepsNumbers bench counts = AreCounted (setting_of bench) bench.words counts
