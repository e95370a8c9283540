-- Filters and benches of the bytes of an input. `rest` is the input that is left, `external` the name of the external.
use Rattle.std.specs.Prelude.{◌≡◌, ◌++◌, ◌∷◌, ℕ, true, false, List, [], Option, Some, Result, Ok, Err}
use Rattle.sbl_ast.specs.Source.{Source}
use Rattle.sbl_batch.specs.Filter.{Filters, IsFiltered, filter_output, is_filled}
use Rattle.sbl_batch.specs.ToEnd.{FiltersToEnd, without_line}
use Rattle.sbl_batch.specs.declared.word_fault.WordFault.{WordFault}
use Rattle.sbl_bench.specs.Contents.{Contents, opening_contents}
use Rattle.sbl_bench.specs.Vocabulary.{is_word}
use Rattle.sbl_input.specs.Loading.{IsLoaded}
use Rattle.sbl_input.specs.declared.faults.LoadFault.{LoadFault}
use Rattle.sbl_input.specs.declared.faults.LoadFault.TheVariants.{Input, Script}
use Rattle.sbl_io.specs.declared.faults.ServeFault.TheVariants as fault
use Rattle.sbl_text.specs.declared.fault.ScriptFault.TheVariants as script

-- what a filter of words up to the end of input writes, and its result without a line, are those of a filter up to a line `.`
abbrev pub IsFilterToPoint
    : Source → List ℕ → Option (List ℕ) → Option (List ℕ) → Option (List ℕ) → Result (Unit {0}) WordFault → Type 0
IsFilterToPoint s bytes rest held new_held r =
    FiltersToEnd s (Some bytes) rest held new_held r → Filters s (Some bytes) rest held new_held (without_line r)

-- loading these bytes gives this bench
abbrev pub Loads : List ℕ → List ℕ → Option (List ℕ) → Contents → Type 0
Loads bytes external rest c = IsLoaded (Some bytes) rest external (λ c. c) (Ok c)

-- a filter of these bytes writes this text, and has this result
abbrev pub Writes : List ℕ → List ℕ → Option (List ℕ) → List ℕ → Result (Unit {0}) LoadFault → Type 0
Writes bytes external rest text r = IsFiltered (Some bytes) rest external (Some []) (Some text) r

-- the bench and the rows of the text are of one script and one list of words
abbrev pub AreOfOneInput : Contents → List ℕ → Type 0
AreOfOneInput c text = (s : Source) × (words : List (List ℕ)) × (c ≡ opening_contents s words) × (text ≡ filter_output s words)

-- no word is there twice, but for empty ones
abbrev pub IsEachOnce : List (List ℕ) → Type 0
IsEachOnce words = (before after : List (List ℕ)) (w : List ℕ) → words ≡ before ++ w ∷ after → is_filled w ≡ true → is_word w after ≡ false

-- no read, no write and no allocation failed
abbrev pub IsOfBytes : Result (Unit {0}) LoadFault → Type 0
IsOfBytes r =
    (r ≡ Err (Input fault.Read) → ⊥) × (r ≡ Err (Input fault.Write) → ⊥) × (r ≡ Err (Input fault.OutOfMemory) → ⊥)
    × (r ≡ Err (Script script.OutOfMemory) → ⊥)

-- If filters of these bytes write `text` with result r and `other` with result q, and neither a device nor an allocation failed, these are
-- one text and one result.
abbrev pub WriteOne
    : List ℕ → List ℕ → Option (List ℕ) → Option (List ℕ) → List ℕ → List ℕ → Result (Unit {0}) LoadFault → Result (Unit {0}) LoadFault → Type 0
WriteOne bytes external a b text other r q =
    IsOfBytes r → IsOfBytes q → Writes bytes external a text r → Writes bytes external b other q → (r ≡ q) × (text ≡ other)
