-- The text that was refused last.
use Rattle.std.specs.Prelude.{ℕ, List, Option, string_bytes}
use Rattle.std.specs.Option.{option_map}
use Rattle.sbl_ast.specs.NamedParts.{Part', Among, Routine, Grouping}
use Rattle.sbl_text.specs.declared.fault.ScriptFault.{ScriptFault}
use Rattle.sbl_history.specs.declared.refused.HeldPart.{HeldPart}
use Rattle.sbl_history.specs.declared.refused.HeldPart.TheVariants as part
use Rattle.sbl_history.specs.declared.refused.Refused.{Refused}
use Rattle.sbl_history.specs.declared.refused.Refused.TheVariants as refused

pub data RefusedText : Type 0 where
  -- the bytes of a whole script
  WholeText : List ℕ → RefusedText
  -- what was typed for a part of the script, and the fault of the edit
  PartText : Part' → List ℕ → ScriptFault → RefusedText
  -- a text with more bytes than a script may have
  LongText : RefusedText

abbrev pub view_held : HeldPart → Part'
view_held (part.Routine name) = Routine (string_bytes name)
view_held (part.Among name k) = Among (string_bytes name) k
view_held (part.Grouping name) = Grouping (string_bytes name)

abbrev pub view_refused : Refused → RefusedText
view_refused (refused.Whole text) = WholeText text.items
view_refused (refused.Part held text f) = PartText (view_held held) text.items f
view_refused refused.TooLong = LongText

abbrev pub view_last : Option Refused → Option RefusedText
view_last o = option_map view_refused o
