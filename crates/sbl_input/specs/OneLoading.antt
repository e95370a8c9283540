-- Loading an input has one result.
use Rattle.std.specs.Prelude.{◌≡◌, ℕ, List, Option, Some, Result, Ok, Err, ⊤}
use Rattle.sbl_bench.specs.Contents.{Contents}
use Rattle.sbl_bench.specs.declared.fault.EditFault.TheVariants as edit
use Rattle.sbl_text.specs.declared.fault.ScriptFault.TheVariants as script
use Rattle.sbl_input.specs.Loading.{IsLoaded}
use Rattle.sbl_input.specs.declared.faults.LoadFault.{LoadFault}
use Rattle.sbl_input.specs.declared.faults.LoadFault.TheVariants.{Input, Open, Script}
use Rattle.sbl_io.specs.declared.faults.ServeFault.TheVariants as fault

-- the bytes alone determine the result: the reader did not stop, and no allocation failed
abbrev pub IsToldByBytes : Result Contents LoadFault → Type 0
IsToldByBytes (Ok s) = ⊤
IsToldByBytes (Err (Script script.OutOfMemory)) = ⊥
IsToldByBytes (Err (Open edit.OutOfMemory)) = ⊥
IsToldByBytes (Err (Input fault.OutOfMemory)) = ⊥
IsToldByBytes (Err (Input fault.Read)) = ⊥
IsToldByBytes (Err f) = ⊤

-- with the same external, the same bytes always give one bench, or always one fault
abbrev pub LoadingIsOne : Type 0
LoadingIsOne =
    (bytes external : List ℕ) (a b : Option (List ℕ)) (r q : Result Contents LoadFault) → IsToldByBytes r → IsToldByBytes q
    → IsLoaded (Some bytes) a external (λ s. s) r → IsLoaded (Some bytes) b external (λ s. s) q → r ≡ q

-- and the same bytes are left after the words of a bench
abbrev pub RestIsOne : Type 0
RestIsOne =
    (bytes external : List ℕ) (a b : Option (List ℕ)) (s t : Contents) → IsLoaded (Some bytes) a external (λ s. s) (Ok s)
    → IsLoaded (Some bytes) b external (λ s. s) (Ok t) → a ≡ b
