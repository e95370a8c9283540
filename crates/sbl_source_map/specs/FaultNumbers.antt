-- The numbers of the faults of a script.
use Rattle.std.specs.Prelude.{ℕ}
use Rattle.sbl_text.specs.declared.fault.ScriptFault.{ScriptFault}
use Rattle.sbl_text.specs.declared.fault.ScriptFault.TheVariants as fault

abbrev pub number_of : ScriptFault → ℕ
number_of (fault.BadCharacter place) = 1
number_of (fault.UnclosedString place) = 2
number_of (fault.UnclosedComment place) = 3
number_of (fault.UnknownEscape place) = 4
number_of (fault.BadCode place) = 5
number_of (fault.NumberTooLarge place) = 6
number_of (fault.Syntax place) = 7
number_of (fault.TooDeep place) = 8
number_of (fault.DeclaredTwice item) = 9
number_of (fault.Undeclared item) = 10
number_of (fault.WrongKind item) = 11
number_of (fault.DefinedTwice item) = 12
number_of (fault.Undefined item) = 13
number_of (fault.WrongMode item) = 14
number_of (fault.Substring item) = 15
number_of (fault.Starter item) = 16
number_of (fault.RepeatedString item) = 17
number_of (fault.EmptyAmong item) = 18
number_of (fault.NestedBackwards item) = 19
number_of (fault.OutOfProfile place) = 20
number_of fault.NoExternal = 21
number_of fault.NotUtf8 = 23
number_of fault.ScriptTooLong = 24
number_of fault.OutOfMemory = 49
