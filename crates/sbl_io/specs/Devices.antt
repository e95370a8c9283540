-- The effect of a read and a write on a device: its bytes, if they are known, and its counts.
use Rattle.std.specs.Prelude.{◌≡◌, ◌⊎◌, ◌<◌, ◌≤◌, ◌+◌, ◌==◌, ◌||◌, ◌&&◌, nat_le, nat_lt, min, ℕ, Bool, false}
use Rattle.std.specs.Prelude.{List, length, take, Option, Result, Ok, Err}
use Rattle.std.specs.Io.KnownBytes.{Appends, Consumes, IsAtEnd, Keeps}
use Rattle.sbl_io.specs.declared.devices.Stop.{Stop}
use Rattle.sbl_io.specs.declared.devices.Stop.TheVariants.{Interrupted, Failed}

-- A read takes bytes from the start of those left. It returns 0 with a buffer that is not empty only at the end. If it
-- is stopped, it takes nothing.
abbrev pub Reads : Option (List ℕ) → Option (List ℕ) → Result ℕ Stop → List ℕ → Type 0
Reads old new (Ok n) buf = Consumes old new (take n buf) × (n ≡ 0 → 0 < length buf → IsAtEnd new)
Reads old new (Err stop) buf = Keeps old new

-- A write takes a prefix of the bytes, at least one byte unless there are none. If it is stopped, it takes nothing.
abbrev pub Writes : Option (List ℕ) → Option (List ℕ) → Result ℕ Stop → List ℕ → Type 0
Writes old new (Ok n) bytes = Appends old new (take n bytes) × (0 < length bytes → 0 < n)
Writes old new (Err stop) bytes = Keeps old new

-- The count of failures rises by one at each `Failed`, and only then.
abbrev pub Counts : ℕ → ℕ → Result ℕ Stop → Type 0
Counts old new (Ok n) = new ≡ old
Counts old new (Err Interrupted) = new ≡ old
Counts old new (Err Failed) = new ≡ old + 1

-- the number of tries of a read or a write that is interrupted each time
abbrev pub max_tries : ℕ
max_tries = 1001

-- The count of interruptions in a row rises by one at each interruption, up to max_tries, and is reset to 0 by anything
-- else.
abbrev pub CountsRow : ℕ → ℕ → Result ℕ Stop → Type 0
CountsRow old new (Ok n) = new ≡ 0
CountsRow old new (Err Interrupted) = new ≡ min (old + 1) max_tries
CountsRow old new (Err Failed) = new ≡ 0

-- the greatest number of reads that a device counts: 2^64 - 1
abbrev pub max_count : ℕ
max_count = 18446744073709551615

-- The count of reads rises by one at each read, up to max_count.
abbrev pub CountsRead : ℕ → ℕ → Type 0
CountsRead old new = new ≡ min (old + 1) max_count

-- ---- reads and writes past a limit

-- the read returned no bytes into a buffer that is not empty
abbrev pub tells_end : Result ℕ Stop → List ℕ → Bool
tells_end (Ok n) buf = (n == 0) && nat_lt 0 (length buf)
tells_end (Err stop) buf = false

-- A read is late if the end was returned before it, or after max_tries interruptions in a row, or after max_count
-- reads.
abbrev pub is_late_read : Bool → ℕ → ℕ → Bool
is_late_read ended row reads = ended || (nat_le max_tries row || nat_le max_count reads)

-- A write is late after max_tries interruptions in a row.
abbrev pub is_late_write : ℕ → Bool
is_late_write row = nat_le max_tries row

-- What a device counts: its failures, the latest interruptions in a row and the reads, the latter two up to their limits; and
-- whether a read has returned the end, and whether a read or a write was late.
pub record Tally : Type 0 where
  pub failures : ℕ
  pub interruptions : ℕ
  pub reads : ℕ
  pub ended : Bool
  pub late : Bool

-- if no write before was late and the last one was not interrupted, no write up to now is late
abbrev pub WritesInTime : {W : Type 0} → (W → Tally) → W → W → Type 0
WritesInTime tally old new = (tally old).late ≡ false → (tally old).interruptions ≡ 0 → (tally new).late ≡ false

-- the tally of a device that was not used: it has not returned the end, no read was late, and it was neither interrupted nor read
pub record IsUnused (tally : Tally) : Type 0 where
  pub not_ended : tally.ended ≡ false
  pub in_time : tally.late ≡ false
  pub rested : tally.interruptions ≡ 0
  pub none : tally.reads ≡ 0

-- the writer has failed since, or it was interrupted more than 1,000 times in a row
abbrev pub HasStopped : {W : Type 0} → (W → Tally) → W → W → Type 0
HasStopped tally old new = ((tally old).failures < (tally new).failures) ⊎ (max_tries ≤ (tally new).interruptions)
