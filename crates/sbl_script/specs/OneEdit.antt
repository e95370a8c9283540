-- An edit has at most one resulting script and at most one fault.
use Rattle.std.specs.Prelude.{◌≡◌, ℕ, List}
use Rattle.sbl_script.specs.declared.edit_fault.EditFault.{EditFault}
use Rattle.sbl_ast.specs.Source.{Source}
use Rattle.sbl_ast.specs.NamedParts.{Part'}
use Rattle.sbl_script.specs.Edits.{IsEdited, IsEditFault}

abbrev pub EditIsOne : Type 0
EditIsOne = (s : Source) (e : Part') (text : List ℕ) (t u : Source) → IsEdited s e text t → IsEdited s e text u → t ≡ u

abbrev pub EditFaultIsOne : Type 0
EditFaultIsOne = (s : Source) (e : Part') (text : List ℕ) (f g : EditFault) → IsEditFault s e text f → IsEditFault s e text g → f ≡ g

-- an edit never has both a resulting script and a fault
abbrev pub EditOrFault : Type 0
EditOrFault = (s : Source) (e : Part') (text : List ℕ) (t : Source) (f : EditFault) → IsEdited s e text t → IsEditFault s e text f → ⊥
