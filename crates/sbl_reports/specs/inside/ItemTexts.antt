-- A name for a part of Listings.antt.
use Rattle.std.specs.Prelude.{ℕ, List, map}
use Rattle.sbl_ast.specs.NamedParts.{Part'}
use Rattle.sbl_io.specs.Records.{records_text}
use Rattle.sbl_records.specs.ItemRecords.{item_fields}

-- the text of items
abbrev pub items_text : List Part' → List ℕ
items_text items = records_text (map item_fields items)
