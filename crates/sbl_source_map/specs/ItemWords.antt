-- The words that begin an item.
use Rattle.std.specs.Prelude.{Bool, true, false}
use Rattle.sbl_token.specs.declared.words.Word.{Word}
use Rattle.sbl_token.specs.declared.words.Word.TheVariants as w

abbrev pub begins_item : Word → Bool
begins_item w.BackwardMode = true
begins_item w.Booleans = true
begins_item w.Define = true
begins_item w.Externals = true
begins_item w.Groupings = true
begins_item w.Integers = true
begins_item w.Routines = true
begins_item w.StringDef = true
begins_item w.StringEscapes = true
begins_item w.Strings = true
begins_item _ = false
