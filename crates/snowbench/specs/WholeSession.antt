-- What a session of an input writes: the input is loaded, and then its commands get their replies.
use Rattle.std.specs.Prelude.{◌≡◌, ◌⊎◌, ℕ, List, [], Option, Result, Ok, Err}
use Rattle.std.specs.Io.KnownBytes.{Appends}
use Rattle.sbl_bench.specs.Contents.{Contents}
use Rattle.sbl_input.specs.Loading.{IsLoaded, IsLoadFault}
use Rattle.sbl_sessions.specs.Session.{IsSession}
use Rattle.sbl_input.specs.declared.faults.LoadFault.{LoadFault}
use Rattle.sbl_input.specs.declared.faults.LoadFault.TheVariants.{Input}
use Rattle.sbl_io.specs.declared.faults.ServeFault.{ServeFault}

-- a result without a bench: the same, or its fault as one of loading
abbrev pub as_load : {A : Type 0} → Result A ServeFault → Result A LoadFault
as_load (Ok a) = Ok a
as_load (Err f) = Err (Input f)

-- There is no bench: the result is the fault of loading, and nothing is written. Or a bench is loaded, and the session goes on
-- from there, with this bench and the input that is left.
abbrev pub IsWholeSession : Option (List ℕ) → Option (List ℕ) → List ℕ → Option (List ℕ) → Option (List ℕ) → Result (Unit {0}) LoadFault → Type 0
IsWholeSession input left external held new_held result =
    ((f : LoadFault) × (result ≡ Err f) × IsLoadFault input left external f × Appends held new_held [])
    ⊎ ((between : Option (List ℕ)) × (s : Contents) × (t : Contents) × (served : Result (Unit {0}) ServeFault) × (result ≡ as_load served)
    × IsLoaded input between external (λ (s : Contents). s) (Ok s)
    × IsSession (record { input = between; held = held; bench = s }) (record { input = left; held = new_held; bench = t }) served)
