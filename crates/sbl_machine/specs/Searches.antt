-- Searches in a well-declared script.
use Rattle.std.specs.Prelude.{◌↔◌, ℕ, List, []}
use Rattle.std.specs.List.{AllByRecursion}
use Rattle.sbl_semantics.specs.Fitting.{fitting, read_all}
use Rattle.sbl_program.specs.Laws.{AllDiffer, Matches, StandsIn}
use Rattle.sbl_ast.specs.Order.{in_order}
use Rattle.sbl_compiler.specs.Laws.{names_in}
use Rattle.sbl_compiler.specs.NumberedAmongs.{AmongStrings, found_after}
use Rattle.sbl_resolver.specs.Checks.{WellDeclared}
use Rattle.sbl_ast.specs.Source.{Source}

-- the amongs of a script; each has a table
abbrev pub amongs_of : Source → List AmongStrings
amongs_of script = found_after (names_in script.items) (in_order script.items) []

-- the strings of an among, as the mode of its place reads them
abbrev pub strings_read : AmongStrings → List (List ℕ)
strings_read f = read_all f.strings.mode f.strings.entries

-- the strings in a table of an among all differ
abbrev pub TablesDiffer : Type 0
TablesDiffer = (script : Source) → WellDeclared script.items script.external → AllByRecursion (λ f. AllDiffer (strings_read f)) (amongs_of script)

-- a search finds exactly the strings of the among that are a prefix of the text ahead
abbrev pub SearchesAreExact : Type 0
SearchesAreExact =
    (script : Source) → WellDeclared script.items script.external →
    AllByRecursion (λ f. (x : List ℕ) (i : ℕ) → StandsIn i (fitting (strings_read f) x) ↔ Matches (strings_read f) x i) (amongs_of script)
