-- The fault of a session for the fault of a line, and the fault that the lines keep.
use Rattle.std.specs.Prelude.{Option, Some, None, Result}
use Rattle.std.specs.Option.{option_and_then}
use Rattle.std.specs.Result.{result_err}
use Rattle.sbl_io.specs.declared.faults.LineFault.{LineFault}
use Rattle.sbl_io.specs.declared.faults.LineFault.TheVariants.{Read, TooLong}
use Rattle.sbl_io.specs.declared.faults.ServeFault.{ServeFault}
use Rattle.sbl_io.specs.declared.faults.ServeFault.TheVariants as serve

abbrev pub serve_fault_of : LineFault → ServeFault
serve_fault_of Read = serve.Read
serve_fault_of TooLong = serve.LineTooLong

-- the fault of a line for the fault of a session, if there is one
abbrev pub line_fault_of : ServeFault → Option LineFault
line_fault_of serve.Read = Some Read
line_fault_of serve.LineTooLong = Some TooLong
line_fault_of f = None

-- the fault that the lines keep after this result
abbrev pub left_by : {A : Type 0} → Result A ServeFault → Option LineFault
left_by result = option_and_then line_fault_of (result_err result)
