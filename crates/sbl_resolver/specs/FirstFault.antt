-- The first fault of some occurrences, with the number of tokens that the checks look at before it.
use Rattle.std.specs.Prelude.{ℕ, ◌+◌, List, [], ◌∷◌, ◌++◌, length, Option, Some, None, option_map}
use Rattle.std.specs.Option.{option_or}
use Rattle.sbl_text.specs.declared.fault.ScriptFault.{ScriptFault}
use Rattle.sbl_resolver.specs.Occurrences.{Occurrence}
use Rattle.sbl_resolver.specs.Checks.{fault_at}
use Rattle.sbl_resolver.specs.Subjects.{Subject, subjects_of}

-- the first fault after the occurrences in `before`
abbrev pub first_from : List Occurrence → List Occurrence → List Occurrence → Option (ℕ × ScriptFault)
first_from all before [] = None
first_from all before (m ∷ after) =
    option_or (option_map (λ f. (length (subjects_of before), f)) (fault_at all before m after)) (first_from all (before ++ m ∷ []) after)

-- the number of tokens after one more occurrence, given the number before it and what the checks look at there
abbrev pub one_more : Option Subject → ℕ → ℕ
one_more None n = n
one_more (Some x) n = n + 1
