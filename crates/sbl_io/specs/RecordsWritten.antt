-- The state of a writer between two records.
use Rattle.std.specs.Prelude.{◌≡◌, ◌++◌, ℕ, List, Some, false}
use Rattle.csv.specs.Writing.{writer_setup, fields_written, has_written, text_written}
use Rattle.csv.specs.declared.writer.Writer.{Writer}
use Rattle.std.specs.declared.vec.Vec.{Vec}
use Rattle.std.specs.declared.alloc.Global.{Global}
use Rattle.sbl_io.specs.Records.{flexible, record_line}

-- the writer writes to a `Vec`, has not begun a record, and has been given this text
pub record HasWritten (writer : Writer (Vec ℕ Global)) (text : List ℕ) : Type 0 where
  pub told : text_written (λ v. Some v.items) writer ≡ Some text
  pub setup : writer_setup writer ≡ flexible
  pub fields : fields_written writer ≡ 0
  pub clean : has_written writer ≡ false

-- a record of these fields is written after what was written before
abbrev pub Writes : List (List ℕ) → Writer (Vec ℕ Global) → Writer (Vec ℕ Global) → Type 0
Writes fields old new = (text : List ℕ) → HasWritten old text → HasWritten new (text ++ record_line fields)
