-- Lines of lists of words and stems.
use Rattle.std.specs.Prelude.{◌≡◌, ℕ, List, true}
use Rattle.std.specs.Str.{all_scalars}
use Rattle.sbl_reports.specs.WordLists.{can_say, list_line}
use Rattle.sbl_reports.specs.declared.word_lists.ListForm.{ListForm}

-- these are characters, and the form has a line for them
abbrev pub HasLine : ListForm → List ℕ → List ℕ → Type 0
HasLine form word stem = (all_scalars word ≡ true) × (all_scalars stem ≡ true) × (can_say form word stem ≡ true)

-- the lines of a word and a stem, and of another word and stem, are the same
abbrev pub HaveOneLine : ListForm → List ℕ → List ℕ → List ℕ → List ℕ → Type 0
HaveOneLine form word stem other_word other_stem = list_line form word stem ≡ list_line form other_word other_stem
