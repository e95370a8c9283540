-- What no word uses, and the words that no difference concerns.
use Rattle.std.specs.Prelude.{◌≡◌, ℕ, false, List, ◌++◌, Some}
use Rattle.std.specs.List.{flat_map}
use Rattle.sbl_rows.specs.Setting.{Setting}
use Rattle.sbl_ast.specs.Source.{Source}
use Rattle.sbl_resolver.specs.Checks.{WellDeclared}
use Rattle.sbl_machine.specs.BuiltFrom.{meets_one}
use Rattle.sbl_semantics.specs.Differs.{differs}
use Rattle.sbl_ast.specs.NamedParts.{Part'}
use Rattle.sbl_uses.specs.Parts.{parts_of}
use Rattle.sbl_uses.specs.Used.{Whole}
use Rattle.sbl_uses.specs.UsesLaws.{row_if_unused, rows_of_strings}

-- the rows of the parts of a script whose number is 0, and then those of such strings
abbrev pub rows_of_zeros : Setting → List (List ℕ) → List (List (List ℕ))
rows_of_zeros s words =
    flat_map (λ p. row_if_unused s words (Whole p.0)) (parts_of s.script) ++ flat_map (rows_of_strings s words) (parts_of s.script)

-- these are the items in which two scripts differ, the first of which passes all checks, and its run of a word meets none of them
abbrev pub MissesWhatDiffers : Source → Source → List Part' → List ℕ → ℕ → Type 0
MissesWhatDiffers s t xs word limit =
    WellDeclared s.items s.external × (differs s t ≡ Some xs) × (meets_one xs s word limit ≡ false)
