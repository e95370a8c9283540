-- A name for a part of Moves.antt.
use Rattle.std.specs.Prelude.{ℕ, Bool, false, not}
use Rattle.std.specs.Prelude.{if◌then◌else◌, Option}
use Rattle.std.specs.Option.{option_map_or}
use Rattle.sbl_semantics.specs.Moves.{next}

abbrev pub next_is : Bool → (ℕ → Bool) → Option ℕ → Bool
next_is wanted class next = option_map_or (λ c. if wanted then class c else not (class c)) next false
