-- An edit that is broken off only if a desk allows it.
use Rattle.std.specs.Prelude.{Bool, true, false, Result, Ok, Err}
use Rattle.sbl_bench.specs.BreakingOff.{EditsOrBreaks}
use Rattle.sbl_bench.specs.Contents.{Contents}
use Rattle.sbl_bench.specs.Edits.{Edit, Edits}
use Rattle.sbl_bench.specs.declared.fault.EditFault.{EditFault}

-- The result of an edit, and the bench after it. The edit may be broken off only if this is true.
abbrev pub EditsOrBreaksIf : Bool → Result (Unit {0}) EditFault → Contents → Edit → Contents → Type 0
EditsOrBreaksIf may_break (Ok u) s e t = Edits (Ok u) s e t
EditsOrBreaksIf true (Err f) s e t = EditsOrBreaks (Err f) s e t
EditsOrBreaksIf false (Err f) s e t = Edits (Err f) s e t
