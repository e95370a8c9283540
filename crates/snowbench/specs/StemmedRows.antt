-- The rows of an input: those of its vocabulary, and of nothing after it.
use Rattle.std.specs.Prelude.{◌≡◌, ◌⊎◌, ℕ, List, [], Option, None, Result, Ok, Err, map, take}
use Rattle.std.specs.Str.{chars}
use Rattle.std.specs.Io.KnownBytes.{Appends}
use Rattle.sbl_bench.specs.Contents.{opening_contents, opening_fault}
use Rattle.sbl_ast.specs.Source.{Source}
use Rattle.sbl_input.specs.Loading.{IsInput, IsLoadFault}
use Rattle.sbl_reports.specs.Listings.{stems_text}
use Rattle.sbl_input.specs.declared.faults.LoadFault.{LoadFault}
use Rattle.sbl_input.specs.declared.faults.LoadFault.TheVariants.{Input}
use Rattle.sbl_io.specs.declared.faults.ServeFault.TheVariants as fault

-- The rows of the vocabulary are written, and the input is left after the vocabulary. If the writer failed, a prefix of
-- the rows is written. Otherwise nothing is written: loading failed with this fault, or an allocation failed during or
-- after loading.
abbrev pub IsStemmed : Option (List ℕ) → Option (List ℕ) → List ℕ → Option (List ℕ) → Option (List ℕ) → Result (Unit {0}) LoadFault → Type 0
IsStemmed old new external held new_held (Ok u) =
    (s : Source) × (words : List (List ℕ)) × IsInput old new external s words × (opening_fault [] (map chars words) ≡ None)
    × Appends held new_held (stems_text (opening_contents s (map chars words)))
IsStemmed old new external held new_held (Err (Input fault.Write)) =
    (s : Source) × (words : List (List ℕ)) × IsInput old new external s words × (opening_fault [] (map chars words) ≡ None)
    × (n : ℕ) × Appends held new_held (take n (stems_text (opening_contents s (map chars words))))
IsStemmed old new external held new_held (Err (Input fault.OutOfMemory)) =
    (IsLoadFault old new external (Input fault.OutOfMemory)
    ⊎ ((s : Source) × (words : List (List ℕ)) × IsInput old new external s words))
    × Appends held new_held []
IsStemmed old new external held new_held (Err f) = IsLoadFault old new external f × Appends held new_held []
