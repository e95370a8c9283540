-- The strings of the amongs that were found.
use Rattle.std.specs.Prelude.{ℕ, List, [], map, Vec, Option, Some, None, slice_get}
use Rattle.std.specs.Global.{Global}
use Rattle.sbl_ast.specs.declared.mode.Mode.TheVariants.{Forward}
use Rattle.sbl_program.specs.declared.among.AmongStrings.{AmongStrings}
use Rattle.sbl_program.specs.AmongStrings.{Listing, listing}

-- the characters of the strings
abbrev pub texts : List (Vec ℕ Global) → List (List ℕ)
texts vs = map (λ v. v.items) vs

-- the strings of an among that was found
abbrev pub listing_found : AmongStrings → Listing
listing_found f = listing f.mode (texts f.strings.items)

abbrev pub strings_or : Option AmongStrings → Listing
strings_or None = listing Forward []
strings_or (Some f) = listing_found f

abbrev pub strings_at : List AmongStrings → ℕ → Listing
strings_at fs k = strings_or (slice_get fs k)
