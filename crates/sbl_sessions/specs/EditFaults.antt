-- The fault in the result of an edit.
use Rattle.std.specs.Prelude.{Option, Some, None, Result, Ok, Err}
use Rattle.sbl_bench.specs.declared.fault.EditFault.{EditFault}

abbrev pub fault_in : Result (Unit {0}) EditFault → Option EditFault
fault_in (Ok u) = None
fault_in (Err f) = Some f
