-- What a device makes of the results of its own reads and writes.
use Rattle.std.specs.Prelude.{◌≡◌, ◌-◌, ◌^◌, ◌==◌, ◌&&◌, nat_lt, ℕ, if◌then◌else◌}
use Rattle.std.specs.Prelude.{List, length, Result, Ok, Err}
use Rattle.std.specs.IoError.{error_kind}
use Rattle.std.specs.declared.io.Error.{Error}
use Rattle.std.specs.declared.io.ErrorKind.{ErrorKind}
use Rattle.std.specs.declared.io.ErrorKind.TheVariants as kind
use Rattle.sbl_io.specs.declared.devices.Stop.{Stop}
use Rattle.sbl_io.specs.declared.devices.Stop.TheVariants.{Interrupted, Failed}

-- the stop for an error of this kind
abbrev pub stop_of_kind : ErrorKind → Stop
stop_of_kind kind.Interrupted = Interrupted
stop_of_kind k = Failed

-- the same, but an interruption if the count of failures is full
abbrev pub stop_of : ℕ → ErrorKind → Stop
stop_of failures k = if failures == 2 ^ 64 - 1 then Interrupted else stop_of_kind k

-- the result of a read or a write of std, with its error converted
abbrev pub IsConverted : ℕ → Result ℕ Error → Result ℕ Stop → Type 0
IsConverted failures (Ok n) judged = judged ≡ Ok n
IsConverted failures (Err e) judged = judged ≡ Err (stop_of failures (error_kind e))

-- the same for a write of these bytes; it failed if it took none of some bytes
abbrev pub IsConvertedWrite : ℕ → List ℕ → Result ℕ Error → Result ℕ Stop → Type 0
IsConvertedWrite failures bytes (Ok n) judged =
    judged ≡ (if nat_lt 0 (length bytes) && (n == 0) then Err (stop_of failures kind.WriteZero) else Ok n)
IsConvertedWrite failures bytes (Err e) judged = IsConverted failures (Err e) judged
