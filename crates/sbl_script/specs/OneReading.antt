-- Bytes have at most one script and at most one fault.
use Rattle.std.specs.Prelude.{◌≡◌, ℕ, List}
use Rattle.sbl_text.specs.declared.fault.ScriptFault.{ScriptFault}
use Rattle.sbl_ast.specs.Source.{Source}
use Rattle.sbl_script.specs.Reading.{IsScriptOf, IsFaultOf}

abbrev pub ScriptIsOne : Type 0
ScriptIsOne = (bytes external : List ℕ) (s t : Source) → IsScriptOf bytes external s → IsScriptOf bytes external t → s ≡ t

abbrev pub FaultIsOne : Type 0
FaultIsOne = (bytes external : List ℕ) (f g : ScriptFault) → IsFaultOf bytes external f → IsFaultOf bytes external g → f ≡ g

-- bytes never have both a script and a fault
abbrev pub ScriptOrFault : Type 0
ScriptOrFault = (bytes external : List ℕ) (s : Source) (f : ScriptFault) → IsScriptOf bytes external s → IsFaultOf bytes external f → ⊥
