-- If a fault of an edit names an item, that item is the one that the edit changes.
use Rattle.std.specs.Prelude.{◌≡◌, ℕ, ◌+◌, Bool, List, [], ◌∷◌, Option, Some, None, if◌then◌else◌}
use Rattle.sbl_text.specs.declared.fault.ScriptFault.{ScriptFault}
use Rattle.sbl_text.specs.declared.fault.ScriptFault.TheVariants as fault
use Rattle.sbl_ast.specs.Order.{ItemInMode, in_order}
use Rattle.sbl_ast.specs.Tree.{Plain, Item}
use Rattle.sbl_script.specs.declared.edit_fault.EditFault.TheVariants as edits
use Rattle.sbl_ast.specs.Source.{Source}
use Rattle.sbl_resolver.specs.Checks.{WellDeclared}
use Rattle.sbl_ast.specs.NamedParts.{Part'}
use Rattle.sbl_script.specs.Edits.{changes, IsEditFault}

-- the number of the item that a fault names, if it names one
abbrev pub item_of : ScriptFault → Option ℕ
item_of (fault.DeclaredTwice i) = Some i
item_of (fault.Undeclared i) = Some i
item_of (fault.WrongKind i) = Some i
item_of (fault.DefinedTwice i) = Some i
item_of (fault.Undefined i) = Some i
item_of (fault.WrongMode i) = Some i
item_of (fault.Substring i) = Some i
item_of (fault.Starter i) = Some i
item_of (fault.RepeatedString i) = Some i
item_of (fault.EmptyAmong i) = Some i
item_of (fault.NestedBackwards i) = Some i
item_of _ = None

-- the number of the first item that passes, if the first of these items has number i
abbrev pub number_from : (Plain → Bool) → List ItemInMode → ℕ → Option ℕ
number_from p [] i = None
number_from p (x ∷ xs) i = if p x.plain then Some i else number_from p xs (i + 1)

-- The number of the first item that passes. Items are counted from 1 in text order. The items in a backwardmode count;
-- the backwardmode itself does not.
abbrev pub number_of : (Plain → Bool) → List Item → Option ℕ
number_of p items = number_from p (in_order items) 1

-- in a well-declared script, if a fault of an edit names an item, that item is the one that the edit changes
abbrev pub OnlyTheItem : Type 0
OnlyTheItem =
    (s : Source) (e : Part') (text : List ℕ) (f : ScriptFault) (i : ℕ) → WellDeclared s.items s.external → IsEditFault s e text (edits.Script f)
    → item_of f ≡ Some i → number_of (changes e) s.items ≡ Some i

-- an edit of a well-declared script never has the fault that there is no such external
abbrev pub ExternalStays : Type 0
ExternalStays =
    (s : Source) (e : Part') (text : List ℕ) → WellDeclared s.items s.external → IsEditFault s e text (edits.Script fault.NoExternal) → ⊥
