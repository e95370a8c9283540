-- Control: turns, loops, `goto`, limits, `backwards` and calls, each in terms of what its parts do.
use Rattle.std.specs.Prelude.{ℕ, zero, suc, ℤ, ◌-◌, Bool, true, false, List, length, if◌then◌else◌, Option, Some, None, replicate}
use Rattle.std.specs.Option.{option_map_or, unwrap_or}
use Rattle.sbl_semantics.specs.declared.fault.RunFault.TheVariants.{Steps}
use Rattle.sbl_semantics.specs.declared.limits.Limits.{Limits}
use Rattle.sbl_semantics.specs.declared.touch.Touch.TheVariants.{Entered}
use Rattle.sbl_semantics.specs.Moves.{hop}
use Rattle.sbl_semantics.specs.Numbers.{natural}
use Rattle.sbl_semantics.specs.State.{State, Ending, Signals, Stops, Doing, after, then_on, pay}
use Rattle.sbl_semantics.specs.State.{at_place, to_limit, saved_cursor, put_back, note_event}
use Rattle.sbl_semantics.specs.Events.{Enters, Leaves}
use Rattle.sbl_semantics.specs.Touches.{with_touch}
use Rattle.sbl_ast.specs.declared.mode.Mode.{Mode}
use Rattle.sbl_ast.specs.declared.mode.Mode.TheVariants.{Forward, Backward}

-- At most n turns, up to the first f; then the cursor is put back to before that turn. Each turn uses at least one
-- step, so a run begins at most one turn more than it has steps.
abbrev pub turns : ℕ → Doing → Mode → State → Ending
turns zero c m s = Stops Steps s
turns (suc n) c m s = after (c m s) (turns n c m) (put_back m (saved_cursor s))

-- n turns; f at the first f
abbrev pub times : ℕ → Doing → Mode → State → Ending
times zero c m s = Signals true s
times (suc n) c m s = after (c m s) (times n c m) (Signals false)

-- Tries at the cursor, up to the first t: `gopast` leaves the cursor after the match, `goto` puts it back before it. After
-- each f it puts the cursor back and tries one character further on; f if nothing is ahead any more. Each try uses at
-- least one step.
abbrev pub seeks : ℕ → Bool → Doing → Mode → State → Ending
seeks zero past c m s = Stops Steps s
seeks (suc n) past c m s =
    after (c m s) (λ t. if past then Signals true t else put_back m (saved_cursor s) t)
    (λ f. then_on (put_back m (saved_cursor s) f) (λ b. after (hop (Some 1) m b) (seeks n past c m) (Signals false)))

-- the limit of the direction set: backwards to an offset, forwards to a distance from the end of the text
abbrev pub set_limit : Mode → ℕ → ℕ → State → State
set_limit Forward left beyond s = record s { beyond = beyond }
set_limit Backward left beyond s = record s { left = left }

-- a change at the end, which may depend on the signal
abbrev pub at_end : (Bool → State → State) → Ending → Ending
at_end change e = after e (λ t. Signals true (change true t)) (λ f. Signals false (change false f))

-- a command uses one step before it does anything
abbrev pub pay_first : Doing → Doing
pay_first d m s = then_on (pay s.steps s) (d m)

-- a call of a routine with n amongs touches it and begins with no choices
abbrev pub enter : ℕ → ℕ → State → State
enter i n s = note_event (Enters i) (record s { choices = replicate n None; routine = i; touched = with_touch (Entered i) s.touched })

-- the caller's routine and choices, which a call with this signal restores when it returns
abbrev pub back_in : ℕ → List (Option ℕ) → Bool → State → State
back_in i choices b s = note_event (Leaves b) (record s { choices = choices; routine = i })

-- ---- names for parts of these definitions, which the interpreter and proofs use

abbrev pub count_of : ℤ → ℕ
count_of z = unwrap_or (natural z) 0

abbrev pub limits : State → Limits
limits s = record { left = s.left; beyond = s.beyond }

abbrev pub limit_here : Mode → State → State
limit_here m s = set_limit m s.cursor (length s.text - s.cursor) s

abbrev pub limit_back : Mode → Limits → State → State
limit_back m from s = set_limit m from.left from.beyond s

abbrev pub restore_limit : Mode → Limits → Ending → Ending
restore_limit m from = at_end (λ b. limit_back m from)

abbrev pub backwards_from : State → Ending
backwards_from s = to_limit Forward (record s { left = s.cursor })

abbrev pub backwards_end : State → Ending
backwards_end s = at_place s.left s

abbrev pub with_group : Option ℕ → State → (ℕ → Ending) → Ending
with_group g s go = option_map_or go g (Signals false s)

abbrev pub leave : ℕ → List (Option ℕ) → Ending → Ending
leave i choices e = at_end (back_in i choices) e
