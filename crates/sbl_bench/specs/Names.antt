-- The names of the faults of a script.
use Rattle.std.specs.Prelude.{ℕ, List, codes}
use Rattle.sbl_text.specs.declared.fault.ScriptFault.{ScriptFault}
use Rattle.sbl_text.specs.declared.fault.ScriptFault.TheVariants as script

-- the name of a fault of a script, without its position or item
abbrev pub script_name : ScriptFault → List ℕ
script_name (script.BadCharacter p) = codes "BadCharacter"
script_name (script.UnclosedString p) = codes "UnclosedString"
script_name (script.UnclosedComment p) = codes "UnclosedComment"
script_name (script.UnknownEscape p) = codes "UnknownEscape"
script_name (script.BadCode p) = codes "BadCode"
script_name (script.NumberTooLarge p) = codes "NumberTooLarge"
script_name (script.Syntax p) = codes "Syntax"
script_name (script.TooDeep p) = codes "TooDeep"
script_name (script.DeclaredTwice i) = codes "DeclaredTwice"
script_name (script.Undeclared i) = codes "Undeclared"
script_name (script.WrongKind i) = codes "WrongKind"
script_name (script.DefinedTwice i) = codes "DefinedTwice"
script_name (script.Undefined i) = codes "Undefined"
script_name (script.WrongMode i) = codes "WrongMode"
script_name (script.Substring i) = codes "Substring"
script_name (script.Starter i) = codes "Starter"
script_name (script.RepeatedString i) = codes "RepeatedString"
script_name (script.EmptyAmong i) = codes "EmptyAmong"
script_name (script.NestedBackwards i) = codes "NestedBackwards"
script_name (script.OutOfProfile p) = codes "OutOfProfile"
script_name script.NoExternal = codes "NoExternal"
script_name script.NotUtf8 = codes "NotUtf8"
script_name script.ScriptTooLong = codes "ScriptTooLong"
script_name script.OutOfMemory = codes "OutOfMemory"
