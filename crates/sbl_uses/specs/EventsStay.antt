-- A run whose word meets no item that differs has the same events under both scripts.
use Rattle.std.specs.Prelude.{◌≡◌, ℕ, false, List, Some}
use Rattle.sbl_ast.specs.Source.{Source}
use Rattle.sbl_resolver.specs.Checks.{WellDeclared}
use Rattle.sbl_rows.specs.Setting.{under}
use Rattle.sbl_machine.specs.BuiltFrom.{meets_one}
use Rattle.sbl_semantics.specs.Differs.{differs}
use Rattle.sbl_semantics.specs.Outcome.{events_of}
use Rattle.sbl_ast.specs.NamedParts.{Part'}
use Rattle.sbl_uses.specs.Used.{takes_of}

-- If the run of a word under the first script meets none of the items in which the scripts differ, nor what is built from one of
-- them, its events are the same under the second.
abbrev pub EventsStay : Type 0
EventsStay =
    (s t : Source) (xs : List Part') → WellDeclared s.items s.external → differs s t ≡ Some xs → (word : List ℕ) (limit : ℕ) →
    meets_one xs s word limit ≡ false → events_of t word limit ≡ events_of s word limit

-- So it takes the same strings.
abbrev pub TakesStay : Type 0
TakesStay =
    (s t : Source) (xs : List Part') → WellDeclared s.items s.external → differs s t ≡ Some xs → (word : List ℕ) (limit : ℕ) →
    meets_one xs s word limit ≡ false → takes_of (under t limit) word ≡ takes_of (under s limit) word
