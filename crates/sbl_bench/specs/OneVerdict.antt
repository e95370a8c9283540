-- Each edit has one verdict.
use Rattle.std.specs.Prelude.{◌≡◌, Option}
use Rattle.sbl_bench.specs.Contents.{Contents}
use Rattle.sbl_bench.specs.Edits.{Edit, IsVerdict}
use Rattle.sbl_bench.specs.declared.fault.EditFault.{EditFault}

abbrev pub VerdictIsOne : Type 0
VerdictIsOne =
    (s : Contents) (e : Edit) (v w : Option EditFault) (t u : Contents) → IsVerdict s e v t → IsVerdict s e w u → (v ≡ w) × (t ≡ u)
