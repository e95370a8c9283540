-- Records that are written one after another.
use Rattle.std.proofs.Common.{subst, ◌≡◌, ℕ, List, Result, OnOk}
use Rattle.std.specs.declared.vec.Vec.{Vec}
use Rattle.std.specs.declared.alloc.Global.{Global}
use Rattle.std.specs.declared.alloc.AllocError.{AllocError}
use Rattle.csv.specs.declared.writer.Writer.{Writer}
use Rattle.sbl_io.specs.RecordsWritten.{Writes}

-- a record is written, by its fields in another form
pub writes_same : (r : Result (Unit {0}) AllocError) (fields shown : List (List ℕ)) (old new : Writer (Vec ℕ Global)) → fields ≡ shown → OnOk r (Writes fields old new)
    → OnOk r (Writes shown old new)
writes_same r fields shown old new is written = subst (λ (f : List (List ℕ)). OnOk r (Writes f old new)) is written
