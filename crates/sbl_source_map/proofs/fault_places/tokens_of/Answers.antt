use Rattle.std.proofs.Common.{inl, inr}
use Rattle.std.specs.Str.{chars}
use Rattle.sbl_source_map.proofs.NoPlaces.{no_tokens}
use Rattle.sbl_source_map.proofs.fault_places.tokens_of.Goals as goal

pub returns-in_default : goal.returns-in_default
returns-in_default c = elim c.in-Err.ensures.fault [
  | inl e ↦ absurd (c.in_default.not-OutOfMemory e)
  | inr h ↦ record { placed = no_tokens c.first_fault_is_one.ensures.either (chars c.args.text.now) c.in-Err.fault h; fitting = tt }
]
