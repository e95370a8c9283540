-- Why a part of the program ends with a fault, and that its reads and writes are in time.
use Rattle.std.specs.Prelude.{◌≡◌, None, Result, IfErr}
use Rattle.sbl_io.specs.Devices.{Tally, WritesInTime}
use Rattle.sbl_io.specs.HeldInput.{KeepsTime}
use Rattle.sbl_io.specs.declared.lines.Lines.{Lines}
use Rattle.sbl_input.specs.declared.faults.LoadFault.{LoadFault}
use Rattle.snowbench.specs.Program.{HasReasons}

-- What reading these lines and writing to this writer keeps, besides what is read and written.
pub record Answering {R W A : Type 0} (reads : R → Tally) (writes : W → Tally) (lines new_lines : Lines R)
    (writer new_writer : W) (result : Result A LoadFault) : Type 0 where
  pub why : lines.fault ≡ None → IfErr result (λ fault. HasReasons reads writes lines new_lines writer new_writer fault)
  pub reads_in_time : KeepsTime reads lines new_lines
  pub writes_in_time : WritesInTime writes writer new_writer
