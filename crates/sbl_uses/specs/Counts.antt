-- How many words use each part of a script.
use Rattle.std.specs.Prelude.{ℕ, List, [], ◌∷◌, ◌++◌, decimal, map}
use Rattle.std.specs.List.{flat_map}
use Rattle.sbl_rows.specs.Setting.{Setting}
use Rattle.sbl_ast.specs.Order.{in_order}
use Rattle.sbl_ast.specs.Source.{Source}
use Rattle.sbl_io.specs.Records.{records_text}
use Rattle.sbl_uses.specs.Parts.{Part, parts_by}
use Rattle.sbl_uses.specs.Unused.{entry_row, item_row}
use Rattle.sbl_uses.specs.Used.{Usable, Whole, Entry, number_using}

-- an item, and then its strings if it is an among
abbrev pub usables_in : Part → List Usable
usables_in p = Whole p.0 ∷ map (λ q. Entry (p.0, q)) p.1

-- what the runs of a script can use, in the order of the text: each definition, a routine before its amongs, these by number
abbrev pub usables_of : Source → List Usable
usables_of script = flat_map usables_in (flat_map (λ x. parts_by x.plain) (in_order script.items))

abbrev pub usable_row : Usable → List (List ℕ)
usable_row (Whole x) = item_row x
usable_row (Entry t) = entry_row t

-- a part, and the number of words whose run uses it
unfoldable pub count_row : Setting → List (List ℕ) → Usable → List (List ℕ)
count_row s words u = usable_row u ++ decimal (number_using s words u) ∷ []

abbrev pub counts_text : Setting → List (List ℕ) → List ℕ
counts_text s words = records_text (map (count_row s words) (usables_of s.script))
