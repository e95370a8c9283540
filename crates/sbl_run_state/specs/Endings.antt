-- How the results of the code represent an ending, and what holds of each state.
use Rattle.std.specs.Prelude.{◌≡◌, ℕ, ◌+◌, ◌*◌, ◌≤◌, Bool, true, false, List, length, Option, Some, None, Result, Ok, Err}
use Rattle.sbl_semantics.specs.declared.fault.RunFault.{RunFault}
use Rattle.sbl_run_state.specs.declared.halt.Halt.{Halt}
use Rattle.sbl_semantics.specs.declared.cursor.SavedCursor.{SavedCursor}
use Rattle.sbl_run_state.specs.Halts.{fault_of}
use Rattle.sbl_semantics.specs.State.{State, Ending, Signals, Stops, max_text_length}

-- A command ended early and left this state, as the definition says; memory may be refused at any point.
abbrev pub Halts : Option RunFault → State → Ending → Type 0
Halts None new e = Unit {0}
Halts (Some fault) new e = e ≡ Stops fault new

-- A command returned this and left this state, as the definition says.
abbrev pub Follows : Result Bool Halt → State → Ending → Type 0
Follows (Ok b) new e = e ≡ Signals b new
Follows (Err halt) new e = Halts (fault_of halt) new e

-- the same of a part that has no signal of its own
abbrev pub Leads : Result (Unit {0}) Halt → State → Ending → Type 0
Leads (Ok u) new e = e ≡ Signals true new
Leads (Err halt) new e = Halts (fault_of halt) new e

-- One string of a search: it is taken, or the next one follows.
abbrev pub Tries : Result Bool Halt → State → Ending → Ending → Type 0
Tries (Ok true) new e follow = e ≡ Signals true new
Tries (Ok false) new e follow = e ≡ follow
Tries (Err halt) new e follow = Halts (fault_of halt) new e

-- the offsets lie in the text, which is short
pub record IsWithin (text : List ℕ) (cursor left beyond bra ket : ℕ) : Type 0 where
  pub short : length text ≤ max_text_length
  pub cursor_in : cursor ≤ length text
  pub left_below : left ≤ max_text_length
  pub beyond_below : beyond ≤ max_text_length
  pub bra_in : bra ≤ length text
  pub ket_in : ket ≤ length text

-- a cursor saved in such a text
abbrev pub IsSaved : SavedCursor → Type 0
IsSaved from = from.cursor + from.beyond + from.length ≤ 3 * max_text_length
