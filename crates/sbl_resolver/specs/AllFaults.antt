-- All faults of a script's checks, each with the number of tokens that the checks look at before it.
use Rattle.std.specs.Prelude.{◌≡◌, ℕ, List, [], ◌∷◌, ◌++◌, length, Option, Some, None, if◌then◌else◌}
use Rattle.std.specs.Option.{option_map_or}
use Rattle.sbl_text.specs.declared.fault.ScriptFault.{ScriptFault}
use Rattle.sbl_text.specs.declared.fault.ScriptFault.TheVariants as fault
use Rattle.sbl_ast.specs.Tree.{Item}
use Rattle.sbl_resolver.specs.Occurrences.{Occurrence, occurrences_of}
use Rattle.sbl_resolver.specs.Checks.{fault_at, fault_of, has_external}
use Rattle.sbl_resolver.specs.Subjects.{subjects_of}

-- the fault of an occurrence, if it has one
abbrev pub fault_here : List Occurrence → List Occurrence → Occurrence → List Occurrence → List (ℕ × ScriptFault)
fault_here all before m after = option_map_or (λ f. (length (subjects_of before), f) ∷ []) (fault_at all before m after) []

-- the faults of the occurrences after those in `before`: at each one as if the others had none
abbrev pub faults_after : List Occurrence → List Occurrence → List Occurrence → List (ℕ × ScriptFault)
faults_after all before [] = []
faults_after all before (m ∷ after) = fault_here all before m after ++ faults_after all (before ++ m ∷ []) after

-- All faults of a script with this external, in text order. Last comes that the name is not declared in `externals`, or
-- not defined in forward mode.
abbrev pub faults_of : List Item → List ℕ → List (ℕ × ScriptFault)
faults_of items external =
    let all = occurrences_of items in
    faults_after all [] all ++ (if has_external items external all then [] else (length (subjects_of all), fault.NoExternal) ∷ [])

-- ---- laws

abbrev pub first_of : List (ℕ × ScriptFault) → Option ScriptFault
first_of [] = None
first_of (x ∷ xs) = Some x.1

-- the fault of a script is the first of its faults; so it has no fault if the list is empty
abbrev pub FaultIsFirstOfAll : Type 0
FaultIsFirstOfAll = (items : List Item) (external : List ℕ) → first_of (faults_of items external) ≡ fault_of items external

-- x is in the list
pub record IsListed (x : ℕ × ScriptFault) (xs : List (ℕ × ScriptFault)) : Type 0 where
  pub earlier : List (ℕ × ScriptFault)
  pub later : List (ℕ × ScriptFault)
  pub parts : xs ≡ earlier ++ x ∷ later

-- each occurrence at which a check fails has its fault in the list
abbrev pub EachFaultIsListed : Type 0
EachFaultIsListed =
    (items : List Item) (external : List ℕ) (before after : List Occurrence) (m : Occurrence) (f : ScriptFault)
    → occurrences_of items ≡ before ++ m ∷ after → fault_at (occurrences_of items) before m after ≡ Some f
    → IsListed (length (subjects_of before), f) (faults_of items external)
