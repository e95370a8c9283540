-- The ranges of faults.
use Rattle.std.proofs.Common.{◌≡◌, ℕ, List, [], ◌∷◌, map, Option, refl, ap, ◌∙◌}
use Rattle.std.specs.List.{slice_get}
use Rattle.std.proofs.lemmas.Option.{slice_get-map}
use Rattle.sbl_text.specs.declared.fault.ScriptFault.{ScriptFault}
use Rattle.sbl_source_map.specs.FaultLists.{fault_at}
use Rattle.sbl_source_map.specs.SubjectTokens.{SubjectToken}
use Rattle.sbl_source_map.specs.Walks.{range_of}
use Rattle.sbl_source_map.specs.declared.fault_lists.PlacedFault.{PlacedFault}

abbrev pub by_ranges : List (ℕ × ℕ) → ℕ × ScriptFault → PlacedFault
by_ranges ranges x = record { fault = x.1; range = slice_get ranges x.0 }

-- faults with the ranges of subject tokens
pub ranges_of : (ms : List SubjectToken) (faults : List (ℕ × ScriptFault)) → map (by_ranges (map range_of ms)) faults ≡ map (fault_at ms) faults
ranges_of ms [] = refl
ranges_of ms (x ∷ xs) =
    ap (λ (r : Option (ℕ × ℕ)). record { fault = x.1; range = r } ∷ map (by_ranges (map range_of ms)) xs) (slice_get-map range_of ms x.0)
    ∙ ap (λ (t : List PlacedFault). fault_at ms x ∷ t) (ranges_of ms xs)
