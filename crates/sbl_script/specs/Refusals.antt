-- The error of an edit whose text has a fault; out of memory stays out of memory.
use Rattle.std.specs.Prelude.{◌≡◌, ◌⊎◌}
use Rattle.sbl_text.specs.declared.fault.ScriptFault.{ScriptFault}
use Rattle.sbl_text.specs.declared.fault.ScriptFault.TheVariants as fault
use Rattle.sbl_script.specs.declared.edit_fault.EditFault.{EditFault}
use Rattle.sbl_script.specs.declared.edit_fault.EditFault.TheVariants as edits

abbrev pub Refuses : ScriptFault → EditFault → Type 0
Refuses f e = ((f ≡ fault.OutOfMemory) × (e ≡ edits.OutOfMemory)) ⊎ ((f ≡ fault.OutOfMemory → ⊥) × (e ≡ edits.Script f))
