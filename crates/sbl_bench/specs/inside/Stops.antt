-- Why an edit that is not refused still fails.
use Rattle.std.specs.Prelude.{◌≡◌, ◌⊎◌, ◌<◌, ◌≤◌, ◌+◌, ◌-◌, ℕ}
use Rattle.sbl_text.specs.declared.fault.ScriptFault.{ScriptFault}
use Rattle.sbl_text.specs.declared.fault.ScriptFault.TheVariants as text
use Rattle.sbl_machine.specs.declared.run_stop.RunStop.{RunStop}
use Rattle.sbl_machine.specs.declared.run_stop.RunStop.TheVariants as stop
use Rattle.sbl_bench.specs.declared.fault.EditFault.{EditFault}
use Rattle.sbl_bench.specs.declared.fault.EditFault.TheVariants as fault
use Rattle.sbl_bench.specs.Contents.{max_runs}

-- the fault of the edit if a run was not made
abbrev pub fault_of_stop : RunStop → EditFault
fault_of_stop stop.OutOfMemory = fault.OutOfMemory
fault_of_stop stop.MeterFull = fault.MeterFull

-- an allocation failed, and at most this many runs were counted, or the meter is full
abbrev pub IsStop : ℕ → EditFault → ℕ → ℕ → Type 0
IsStop most fault.OutOfMemory count new_count = (n : ℕ) × (n ≤ most) × (new_count ≡ count + n)
IsStop most fault.MeterFull count new_count = (count ≡ max_runs) × (new_count ≡ count)
IsStop most f count new_count = ⊥

-- of at most this many runs some were made and counted when an allocation failed, or when it was broken off before one of them
abbrev pub IsCut : ℕ → EditFault → ℕ → ℕ → Type 0
IsCut most fault.OutOfMemory count new_count = (n : ℕ) × (n ≤ most) × (new_count ≡ count + n)
IsCut most fault.BrokenOff count new_count = (n : ℕ) × (n < most) × (new_count ≡ count + n)
IsCut most f count new_count = ⊥

-- Too few counts are left for this many runs; or an allocation failed, before any run or, with enough counts, after some; or, with
-- enough counts, it was broken off before one of the runs.
abbrev pub IsStopOf : ℕ → EditFault → ℕ → ℕ → Type 0
IsStopOf needed fault.OutOfMemory count new_count =
    (new_count ≡ count) ⊎ ((n : ℕ) × (n ≤ needed) × (needed ≤ max_runs - count) × (new_count ≡ count + n))
IsStopOf needed fault.BrokenOff count new_count = (n : ℕ) × (n < needed) × (needed ≤ max_runs - count) × (new_count ≡ count + n)
IsStopOf needed fault.MeterFull count new_count = (max_runs - count < needed) × (new_count ≡ count)
IsStopOf needed f count new_count = ⊥

-- the fault of an edit whose text cannot be read; out of memory stays out of memory
abbrev pub IsFaultOfText : ScriptFault → EditFault → Type 0
IsFaultOfText f e = ((f ≡ text.OutOfMemory) × (e ≡ fault.OutOfMemory)) ⊎ ((f ≡ text.OutOfMemory → ⊥) × (e ≡ fault.Script f))
