-- A name for a part of Choices.antt.
use Rattle.std.specs.Prelude.{ℕ, Option, slice_set}
use Rattle.sbl_semantics.specs.State.{State}

abbrev pub choose : ℕ → Option ℕ → State → State
choose k g s = record s { choices = slice_set s.choices k g }
