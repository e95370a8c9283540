-- The parts of a script that have a name: those that an edit replaces, and that a run touches.
use Rattle.std.specs.Prelude.{ℕ, List}

-- a routine or a grouping by its name; an among by its routine and its number there, counted from 1 in the order of the words `among`
pub data Part' : Type 0 where
  Routine Grouping : List ℕ → Part'
  Among : List ℕ → ℕ → Part'
