-- How a run of a word under a program begins and ends.
use Rattle.std.specs.Prelude.{ℕ, pos, false, List, [], replicate, None}
use Rattle.sbl_program.specs.Program as programs
use Rattle.sbl_program.specs.Run.{calls}
use Rattle.sbl_semantics.specs.State.{State, Ending}
use Rattle.sbl_ast.specs.declared.mode.Mode.TheVariants.{Forward}
use Rattle.sbl_semantics.specs.Limit.{max_levels}

-- a state in which nothing has run: no text, no variables, nothing touched, no events, no steps
abbrev pub blank : State
blank = record {
  text = [];
  cursor = 0;
  left = 0;
  beyond = 0;
  bra = 0;
  ket = 0;
  integers = [];
  booleans = [];
  strings = [];
  choices = [];
  routine = 0;
  touched = [];
  events = None;
  steps = 0;
}

-- the beginning of a run of a word: integers 0, booleans false, strings empty, nothing touched
abbrev pub start : programs.Program → List ℕ → ℕ → State
start p word steps = record {
  text = word;
  cursor = 0;
  left = 0;
  beyond = 0;
  bra = 0;
  ket = 0;
  integers = replicate p.integers (pos 0);
  booleans = replicate p.booleans false;
  strings = replicate p.strings [];
  choices = [];
  routine = 0;
  touched = [];
  events = None;
  steps = steps;
}

-- how a run of a word ends: the external's body runs forwards, on the first level
abbrev pub ending_of : programs.Program → List ℕ → ℕ → Ending
ending_of p word limit = calls p max_levels p.external Forward (start p word limit)
