-- All faults of a block, which is put into one place of a script's text.
use Rattle.std.specs.Prelude.{◌≡◌, ℕ, ◌+◌, ◌-◌, nat_le, nat_lt, Bool, true, false, ◌&&◌, if◌then◌else◌, List, [], ◌∷◌, ◌++◌}
use Rattle.std.specs.Prelude.{filter_map, length, replicate, Option, Some, None, MatchOption, option_and_then, option_map}
use Rattle.std.specs.Str.{chars, is_utf8}
use Rattle.sbl_text.specs.declared.fault.ScriptFault.{ScriptFault}
use Rattle.sbl_source_map.specs.FaultLists.{AreFaultsOf}
use Rattle.sbl_source_map.specs.FaultPlaces.{place_in}
use Rattle.sbl_source_map.specs.FaultRanges.{IsEndAt}
use Rattle.sbl_source_map.specs.declared.fault_lists.PlacedFault.{PlacedFault}

-- The text up to the end of a block. In the place of what is typed before the block, which has this length, there are blanks.
abbrev pub up_to_block : (before : List ℕ) → ℕ → (block : List ℕ) → List ℕ
up_to_block before head block = before ++ replicate head 32 ++ block

-- a range in the text, counted from this byte on
abbrev pub counted_from : ℕ → ℕ × ℕ → ℕ × ℕ
counted_from begin r = (r.0 - begin, r.1 - begin)

-- a fault of the text, if its range begins in what is typed; this begins at one byte and ends at another
abbrev pub fault_within : ℕ → ℕ → PlacedFault → Option PlacedFault
fault_within begin end x =
    option_and_then
    (λ (r : ℕ × ℕ).
    if nat_le begin r.0 && nat_lt r.0 end then Some (record { fault = x.fault; range = Some (counted_from begin r) }) else None)
    x.range

-- the faults of the checks at tokens of the block, as those of the whole text
abbrev pub AreCheckFaultsIn : (before : List ℕ) → ℕ → (block after external : List ℕ) → List PlacedFault → Type 0
AreCheckFaultsIn before head block after external faults =
    (all : List PlacedFault) × AreFaultsOf (up_to_block before head block ++ after) external all
    × (faults ≡ filter_map (fault_within (length before) (length (up_to_block before head block))) all)

-- the range of what is at this place of the block, if the place is in the block and the text up to its end is UTF-8
abbrev pub IsRangeIn : Bool → (before : List ℕ) → ℕ → (block : List ℕ) → ℕ → Option (ℕ × ℕ) → Type 0
IsRangeIn false before head block place range = range ≡ None
IsRangeIn true before head block place range =
    (end : ℕ) × IsEndAt (chars (up_to_block before head block)) (length before + head + place) end
    × (range ≡ Some (head + place, end - length before))

abbrev pub IsBlockRange : (before : List ℕ) → ℕ → (block : List ℕ) → ℕ → Option (ℕ × ℕ) → Type 0
IsBlockRange before head block place range =
    IsRangeIn (nat_le place (length block) && is_utf8 (up_to_block before head block)) before head block place range

-- All faults of a block, given the fault with which the edit by it is refused: this one if it has a place in the block, otherwise
-- those of the checks. Their ranges are those in what is typed.
abbrev pub AreBlockFaults : (before : List ℕ) → ℕ → (block after external : List ℕ) → ScriptFault → List PlacedFault → Type 0
AreBlockFaults before head block after external f faults =
    MatchOption (place_in f) (AreCheckFaultsIn before head block after external faults)
    (λ place. (range : Option (ℕ × ℕ)) × IsBlockRange before head block place range
    × (faults ≡ record { fault = f; range = range } ∷ []))
