-- The place of a fault in a block, which is put into one place of a script's text.
use Rattle.std.specs.Prelude.{◌≡◌, ◌<◌, ℕ, ◌+◌, List, ◌++◌, length, Option, Some, MatchOption}
use Rattle.sbl_text.specs.declared.fault.ScriptFault.{ScriptFault}
use Rattle.sbl_source_map.specs.SubjectTokens.{SubjectToken}
use Rattle.sbl_source_map.specs.FaultPlaces.{IsFaultAt, place_in}

-- The checks find the fault f in the text before ++ block ++ after. Its token begins in the block, this many bytes after the
-- block's beginning.
abbrev pub IsFaultIn : (before block after : List ℕ) → ScriptFault → ℕ → Type 0
IsFaultIn before block after f offset =
    (t : SubjectToken) × IsFaultAt (before ++ block ++ after) f t × (t.token.start ≡ length before + offset) × (offset < length block)

-- the offset of the token in the block; none if the checks find another fault in that text, or this one outside the block
abbrev pub IsTokenIn : (before block after : List ℕ) → ScriptFault → Option ℕ → Type 0
IsTokenIn before block after f o =
    MatchOption o ((offset : ℕ) → IsFaultIn before block after f offset → ⊥) (λ offset. IsFaultIn before block after f offset)

-- the byte offset of a fault of a block: the place that the fault has, which is one in the block, or that of its token
abbrev pub IsBlockOffset : (before block after : List ℕ) → ScriptFault → Option ℕ → Type 0
IsBlockOffset before block after f o = MatchOption (place_in f) (IsTokenIn before block after f o) (λ place. o ≡ Some place)
