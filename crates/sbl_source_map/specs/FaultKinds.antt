-- The kind and the item of a fault of the checks.
use Rattle.std.specs.Prelude.{ℕ, Bool, nat_eq, ◌&&◌}
use Rattle.sbl_text.specs.declared.fault.ScriptFault.{ScriptFault}
use Rattle.sbl_text.specs.declared.fault.ScriptFault.TheVariants as fault

-- the number of a fault that is at a token; 0 for another fault
abbrev pub kind_of : ScriptFault → ℕ
kind_of (fault.DeclaredTwice item) = 9
kind_of (fault.Undeclared item) = 10
kind_of (fault.WrongKind item) = 11
kind_of (fault.DefinedTwice item) = 12
kind_of (fault.Undefined item) = 13
kind_of (fault.WrongMode item) = 14
kind_of (fault.Substring item) = 15
kind_of (fault.Starter item) = 16
kind_of (fault.RepeatedString item) = 17
kind_of (fault.EmptyAmong item) = 18
kind_of (fault.NestedBackwards item) = 19
kind_of _ = 0

-- its item; 0 for another fault
abbrev pub item_of : ScriptFault → ℕ
item_of (fault.DeclaredTwice item) = item
item_of (fault.Undeclared item) = item
item_of (fault.WrongKind item) = item
item_of (fault.DefinedTwice item) = item
item_of (fault.Undefined item) = item
item_of (fault.WrongMode item) = item
item_of (fault.Substring item) = item
item_of (fault.Starter item) = item
item_of (fault.RepeatedString item) = item
item_of (fault.EmptyAmong item) = item
item_of (fault.NestedBackwards item) = item
item_of _ = 0

abbrev pub is_same : ScriptFault → ScriptFault → Bool
is_same f g = nat_eq (kind_of f) (kind_of g) && nat_eq (item_of f) (item_of g)
