-- The fault that the lines keep after a loading.
use Rattle.std.specs.Prelude.{Option, None, Result, Err}
use Rattle.sbl_io.specs.Faults.{line_fault_of}
use Rattle.sbl_io.specs.declared.faults.LineFault.{LineFault}
use Rattle.sbl_input.specs.declared.faults.LoadFault.{LoadFault}
use Rattle.sbl_input.specs.declared.faults.LoadFault.TheVariants.{Input}

-- the fault that the lines keep after a loading with this result
abbrev pub left_by_load : {A : Type 0} → Result A LoadFault → Option LineFault
left_by_load (Err (Input f)) = line_fault_of f
left_by_load _ = None
