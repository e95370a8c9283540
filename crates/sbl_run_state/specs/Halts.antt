-- The faults of halts.
use Rattle.std.specs.Prelude.{Option, Some, None}
use Rattle.sbl_semantics.specs.declared.fault.RunFault.{RunFault}
use Rattle.sbl_semantics.specs.declared.fault.RunFault.TheVariants as faults
use Rattle.sbl_run_state.specs.declared.halt.Halt.{Halt}
use Rattle.sbl_run_state.specs.declared.halt.Halt.TheVariants as halts

-- the fault with which a run is refused; none if memory was refused
abbrev pub fault_of : Halt → Option RunFault
fault_of halts.OutOfMemory = None
fault_of halts.Steps = Some faults.Steps
fault_of halts.Depth = Some faults.Depth
fault_of halts.Slice = Some faults.Slice
fault_of halts.Cursor = Some faults.Cursor
fault_of halts.Integer = Some faults.Integer
fault_of halts.Divide = Some faults.Divide
fault_of halts.TooLong = Some faults.TooLong

abbrev pub halt_of : RunFault → Halt
halt_of faults.Steps = halts.Steps
halt_of faults.Depth = halts.Depth
halt_of faults.Slice = halts.Slice
halt_of faults.Cursor = halts.Cursor
halt_of faults.Integer = halts.Integer
halt_of faults.Divide = halts.Divide
halt_of faults.TooLong = halts.TooLong
