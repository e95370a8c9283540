-- The map from words to outcomes, and sets of texts.
use Rattle.std.specs.Prelude.{ℕ, Bool, List, Option}
use Rattle.std.specs.Borrow.{Bor}
use Rattle.std.specs.Option.{option_map}
use Rattle.std.specs.Ordering.{nat_cmp}
use Rattle.std.specs.Cmp.Lexicographic.{slice_cmp}
use Rattle.std.specs.BTreeMap.{BTreeMap, get_by}
use Rattle.std.specs.BTreeSet.{BTreeSet, contains_by}
use Rattle.sbl_semantics.specs.declared.outcome.Outcome.{Outcome}
use Rattle.sbl_semantics.specs.Outcome.{Outcome'}
use Rattle.sbl_rows.specs.Rows.{view_outcome}

abbrev pub Text : Type 0
Text = Bor (List ℕ)

-- the outcome of a word in the map
abbrev pub known_outcome : BTreeMap Text (Bor Outcome) → List ℕ → Option Outcome'
known_outcome m word = option_map view_outcome (get_by (λ (k : Text). slice_cmp nat_cmp word k.now) m)

-- whether the set has the text
abbrev pub has_text : BTreeSet Text → List ℕ → Bool
has_text s text = contains_by (λ (k : Text). slice_cmp nat_cmp text k.now) s
