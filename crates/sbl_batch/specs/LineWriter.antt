-- The state of a writer of lines between two of them.
use Rattle.std.specs.Prelude.{◌≡◌, ℕ, [], false}
use Rattle.csv.specs.Writing.{writer_setup, writer_pending, fields_written, has_written}
use Rattle.csv.specs.declared.writer.Writer.{Writer}
use Rattle.std.specs.declared.vec.Vec.{Vec}
use Rattle.std.specs.declared.alloc.Global.{Global}
use Rattle.sbl_io.specs.Records.{flexible}

-- the writer writes to a `Vec`, has not begun a line, and has passed all of its text on
pub record IsBetweenLines (writer : Writer (Vec ℕ Global)) : Type 0 where
  pub setup : writer_setup writer ≡ flexible
  pub fields : fields_written writer ≡ 0
  pub clean : has_written writer ≡ false
  pub passed : writer_pending writer ≡ []
