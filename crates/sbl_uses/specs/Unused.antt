-- What no word of a vocabulary uses.
use Rattle.std.specs.Prelude.{ℕ, Bool, List, [], ◌∷◌, ◌++◌, codes, decimal, if◌then◌else◌}
use Rattle.std.specs.List.{flat_map}
use Rattle.std.specs.Str.{encode_utf8_all}
use Rattle.sbl_rows.specs.Setting.{Setting}
use Rattle.sbl_ast.specs.NamedParts.{Part', Routine, Among, Grouping}
use Rattle.sbl_io.specs.Records.{records_text}
use Rattle.sbl_uses.specs.Parts.{Part, parts_of}
use Rattle.sbl_uses.specs.Used.{Entry, Whole, is_used}
pub use Rattle.sbl_uses.specs.Used.{Take, same_take, takes_at, takes_from, takes_of}

-- ---- what some word uses

-- some word's run touches the item or, if it is a grouping, one that is built from it
abbrev pub is_met : Setting → List (List ℕ) → Part' → Bool
is_met s words x = is_used s words (Whole x)

-- some word's run takes this string at this among
abbrev pub is_taken : Setting → List (List ℕ) → Take → Bool
is_taken s words t = is_used s words (Entry t)

-- ---- the rows

-- the name of an item or of its routine, and the number of an among
abbrev pub place_fields : Part' → List (List ℕ)
place_fields (Routine n) = n ∷ []
place_fields (Among n k) = n ∷ decimal k ∷ []
place_fields (Grouping n) = n ∷ []

abbrev pub kind_field : Part' → List ℕ
kind_field (Routine n) = codes "routine"
kind_field (Among n k) = codes "among"
kind_field (Grouping n) = codes "grouping"

abbrev pub item_row : Part' → List (List ℕ)
item_row x = kind_field x ∷ place_fields x

abbrev pub entry_row : Take → List (List ℕ)
entry_row t = codes "entry" ∷ (place_fields t.0 ++ encode_utf8_all t.1 ∷ [])

-- a row for an item, unless a word meets it
abbrev pub item_rows : Setting → List (List ℕ) → Part' → List (List (List ℕ))
item_rows s words x = if is_met s words x then [] else item_row x ∷ []

-- a row for a string of an among, unless a word takes it there
abbrev pub string_rows : Setting → List (List ℕ) → Take → List (List (List ℕ))
string_rows s words t = if is_taken s words t then [] else entry_row t ∷ []

-- the rows of the strings of an among
abbrev pub untaken_rows : Setting → List (List ℕ) → Part' → List (List ℕ) → List (List (List ℕ))
untaken_rows s words among strings = flat_map (λ q. string_rows s words (among, q)) strings

-- the same, if a word meets the among
abbrev pub entry_rows : Setting → List (List ℕ) → Part → List (List (List ℕ))
entry_rows s words p = if is_met s words p.0 then untaken_rows s words p.0 p.1 else []

-- of some parts, the items that no word meets
abbrev pub unmet_rows : Setting → List (List ℕ) → List Part → List (List (List ℕ))
unmet_rows s words parts = flat_map (λ p. item_rows s words p.0) parts

-- of some parts, the items that no word meets, and then the strings of the other amongs that no word takes, in the order of the parts
abbrev pub rows_of_parts : Setting → List (List ℕ) → List Part → List (List (List ℕ))
rows_of_parts s words parts = unmet_rows s words parts ++ flat_map (entry_rows s words) parts

-- what no word uses of a script, in the order of items
abbrev pub unused_rows : Setting → List (List ℕ) → List (List (List ℕ))
unused_rows s words = rows_of_parts s words (parts_of s.script)

unfoldable pub unused_text : Setting → List (List ℕ) → List ℕ
unused_text s words = records_text (unused_rows s words)
