-- Laws of the rows that a filter writes.
use Rattle.std.specs.Prelude.{◌≡◌, ◌++◌, ◌&&◌, ℕ, false, List, [], ◌∷◌, Option, Some, Result, Ok, Err, ⊤}
use Rattle.sbl_bench.specs.Contents.{Contents, opening_contents}
use Rattle.sbl_bench.specs.Vocabulary.{is_word, vocabulary}
use Rattle.sbl_batch.specs.Compare.{Compares}
use Rattle.sbl_batch.specs.declared.bench_pair.CompareInput.{CompareInput}
use Rattle.sbl_batch.specs.Filter.{Filters, IsFiltered, filter_output, is_filled}
use Rattle.sbl_batch.specs.ToEnd.{FiltersToEnd, without_line}
use Rattle.sbl_batch.specs.declared.word_fault.WordFault.{WordFault}
use Rattle.sbl_reports.specs.Block.{NoPoint}
use Rattle.sbl_io.specs.LinesOf.{lines_of}
use Rattle.sbl_io.specs.declared.faults.ServeFault.TheVariants as fault
use Rattle.sbl_ast.specs.Source.{Source}
use Rattle.sbl_input.specs.Loading.{IsLoaded}
use Rattle.sbl_reports.specs.Listings.{stems_text}
use Rattle.sbl_input.specs.declared.faults.LoadFault.{LoadFault}
use Rattle.sbl_input.specs.declared.faults.LoadFault.TheVariants.{Input, Script}
use Rattle.sbl_text.specs.declared.fault.ScriptFault.TheVariants as script

-- no word that is not empty is there again
abbrev pub NoRepeats : List (List ℕ) → Type 0
NoRepeats [] = ⊤
NoRepeats (w ∷ ws) = ((is_filled w && is_word w ws) ≡ false) × NoRepeats ws

-- the rows of a list of words are those of its first part and then those of the rest
abbrev pub PartsMakeWhole : Type 0
PartsMakeWhole = (s : Source) (first rest : List (List ℕ)) → filter_output s (first ++ rest) ≡ filter_output s first ++ filter_output s rest

-- the rows that `stem` writes for some words are those that a filter writes for their vocabulary
abbrev pub StemsAreFiltered : Type 0
StemsAreFiltered = (s : Source) (words : List (List ℕ)) → stems_text (opening_contents s words) ≡ filter_output s (vocabulary words)

-- without repeats both write the same
abbrev pub SameWithoutRepeats : Type 0
SameWithoutRepeats = (s : Source) (words : List (List ℕ)) → NoRepeats words → filter_output s words ≡ stems_text (opening_contents s words)

-- If an input has a bench, and a filter writes all rows of the same input, both are of one script and one list of words.
abbrev pub SameInput : Type 0
SameInput =
    (bytes external : List ℕ) (a b : Option (List ℕ)) (c : Contents) (text : List ℕ) → IsLoaded (Some bytes) a external (λ c. c) (Ok c)
    → IsFiltered (Some bytes) b external (Some []) (Some text) (Ok tt)
    → (s : Source) × (words : List (List ℕ)) × (c ≡ opening_contents s words) × (text ≡ filter_output s words)

-- A filter of words up to the end of input that have no line `.` ends and writes as a filter of words up to a line `.`.
abbrev pub ToEndIsFilter : Type 0
ToEndIsFilter =
    (s : Source) (bytes : List ℕ) (new held new_held : Option (List ℕ)) (r : Result (Unit {0}) WordFault) → NoPoint (lines_of bytes)
    → FiltersToEnd s (Some bytes) new held new_held r → Filters s (Some bytes) new held new_held (without_line r)

-- the bytes alone determine the result: the reader and the writer did not stop, and no allocation failed
abbrev pub IsToldByBytes : Result (Unit {0}) LoadFault → Type 0
IsToldByBytes (Ok u) = ⊤
IsToldByBytes (Err (Script script.OutOfMemory)) = ⊥
IsToldByBytes (Err (Input fault.OutOfMemory)) = ⊥
IsToldByBytes (Err (Input fault.Read)) = ⊥
IsToldByBytes (Err (Input fault.Write)) = ⊥
IsToldByBytes (Err f) = ⊤

-- with the same external, the same bytes always give one result and one text
abbrev pub FilteringIsOne : Type 0
FilteringIsOne =
    (bytes external : List ℕ) (a b : Option (List ℕ)) (text other : List ℕ) (r q : Result (Unit {0}) LoadFault) → IsToldByBytes r → IsToldByBytes q
    → IsFiltered (Some bytes) a external (Some []) (Some text) r → IsFiltered (Some bytes) b external (Some []) (Some other) q
    → (r ≡ q) × (text ≡ other)

-- A comparison that writes all rows writes one text, and returns one number of changed words.
abbrev pub ComparingIsOne : Type 0
ComparingIsOne =
    (input : CompareInput) (text other : List ℕ) (m n : ℕ) → Compares input (Some []) (Some text) (Ok m)
    → Compares input (Some []) (Some other) (Ok n) → (m ≡ n) × (text ≡ other)
