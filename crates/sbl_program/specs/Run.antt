-- What a run of a program does: each command in terms of its parts.
use Rattle.std.specs.Prelude.{ℕ, zero, suc, Bool, true, false, List, Option, Some, None, slice_get}
use Rattle.sbl_semantics.specs.declared.fault.RunFault.TheVariants.{Depth}
use Rattle.sbl_program.specs.Actions.{acts}
use Rattle.sbl_program.specs.Arithmetic.{value}
use Rattle.sbl_semantics.specs.Numbers.{continue_with}
use Rattle.sbl_program.specs.Program as programs
use Rattle.sbl_semantics.specs.Choices.{choice}
use Rattle.sbl_program.specs.Search.{search_all}
use Rattle.sbl_semantics.specs.State.{State, Ending, Signals, Stops, Doing, after, then_on, saved_cursor, put_back}
use Rattle.sbl_ast.specs.declared.mode.Mode.{Mode}
use Rattle.sbl_ast.specs.declared.mode.Mode.TheVariants.{Backward}
use Rattle.sbl_semantics.specs.Control.{turns, times, count_of, seeks, limits, limit_here, restore_limit}
use Rattle.sbl_semantics.specs.Control.{backwards_from, backwards_end, with_group, pay_first, enter, leave}

abbrev mutual
  -- What a command does after its step is paid, given the classes of the groupings and what a call of each routine
  -- does.
  pub act : List (ℕ → Bool) → (ℕ → Doing) → programs.Node → Mode → State → Ending
  act classes call (programs.act a) m s = acts classes a m s
  -- `( C1 C2 .. )`
  act classes call (programs.sequence cs) m s = in_turn classes call cs m s
  -- `C1 or C2`, `C1 and C2`
  act classes call (programs.either a b) m s =
      after (pay_first (act classes call a) m s) (Signals true) (λ f. then_on (put_back m (saved_cursor s) f) (pay_first (act classes call b) m))
  act classes call (programs.both a b) m s =
      after (pay_first (act classes call a) m s) (λ t. then_on (put_back m (saved_cursor s) t) (pay_first (act classes call b) m)) (Signals false)
  act classes call (programs.not a) m s = after (pay_first (act classes call a) m s) (Signals false) (put_back m (saved_cursor s))
  act classes call (programs.test a) m s = after (pay_first (act classes call a) m s) (put_back m (saved_cursor s)) (Signals false)
  act classes call (programs.try a) m s = after (pay_first (act classes call a) m s) (Signals true) (put_back m (saved_cursor s))
  act classes call (programs.do_ a) m s = after (pay_first (act classes call a) m s) (put_back m (saved_cursor s)) (put_back m (saved_cursor s))
  act classes call (programs.fail a) m s = after (pay_first (act classes call a) m s) (Signals false) (Signals false)
  act classes call (programs.repeat a) m s = turns (suc s.steps) (pay_first (act classes call a)) m s
  act classes call (programs.loop n a) m s = continue_with (value n m s) s (λ z. times (count_of z) (pay_first (act classes call a)) m s)
  -- the loop, and then `repeat`, which uses no step of its own
  act classes call (programs.atleast n a) m s =
      after (continue_with (value n m s) s (λ z. times (count_of z) (pay_first (act classes call a)) m s))
      (λ t. turns (suc t.steps) (pay_first (act classes call a)) m t) (Signals false)
  act classes call (programs.goto a) m s = seeks (suc s.steps) false (pay_first (act classes call a)) m s
  act classes call (programs.gopast a) m s = seeks (suc s.steps) true (pay_first (act classes call a)) m s
  act classes call (programs.backwards a) m s =
      then_on (backwards_from s) (λ b. after (pay_first (act classes call a) Backward b) backwards_end (Signals false))
  -- `setlimit C1 for C2`
  act classes call (programs.setlimit a b) m s =
      after (pay_first (act classes call a) m s)
      (λ t. then_on (put_back m (saved_cursor s) (limit_here m t)) (λ u. restore_limit m (limits s) (pay_first (act classes call b) m u)))
      (Signals false)
  -- a routine's name
  act classes call (programs.call i) m s = call i m s
  -- `substring`, or the search that an among does itself
  act classes call (programs.search k strings entries) m s = search_all call k entries strings m s
  -- an among: its search and its starter, if they are its own, and then the command of the chosen group
  act classes call (programs.among k before bodies) m s =
      after (in_turn classes call before m s) (λ t. with_group (choice k t) t (λ g. nth_does classes call bodies g m t)) (Signals false)

  -- one after another, up to the first f
  pub in_turn : List (ℕ → Bool) → (ℕ → Doing) → programs.Nodes → Mode → State → Ending
  in_turn classes call programs.no_commands m s = Signals true s
  in_turn classes call (programs.command c cs) m s = after (pay_first (act classes call c) m s) (in_turn classes call cs m) (Signals false)

  -- the g-th of these commands; t if there is none
  pub nth_does : List (ℕ → Bool) → (ℕ → Doing) → programs.Nodes → ℕ → Mode → State → Ending
  nth_does classes call programs.no_commands g m s = Signals true s
  nth_does classes call (programs.command c cs) zero m s = pay_first (act classes call c) m s
  nth_does classes call (programs.command c cs) (suc g) m s = nth_does classes call cs g m s

-- what a command does
abbrev pub does : List (ℕ → Bool) → (ℕ → Doing) → programs.Node → Doing
does classes call c = pay_first (act classes call c)

-- what the i-th routine does, given what its commands do
abbrev pub body_does : (programs.Node → Doing) → ℕ → Option programs.Routine → Doing
body_does run i None m s = Signals false s
body_does run i (Some r) m s = leave s.routine s.choices (run r.body m (enter i r.amongs s))

-- what a call does if this many levels are left
abbrev pub calls : programs.Program → ℕ → ℕ → Doing
calls p zero i m s = Stops Depth s
calls p (suc n) i m s = body_does (does p.groupings (calls p n)) i (slice_get p.routines i) m s

-- what a command of a program does if this many levels are left
abbrev pub runs : programs.Program → ℕ → programs.Node → Doing
runs p levels = does p.groupings (calls p levels)

-- the same for a command whose step is paid
abbrev pub runs_paid : programs.Program → ℕ → programs.Node → Doing
runs_paid p levels = act p.groupings (calls p levels)

-- the same for commands one after another, and for the g-th of them
abbrev pub all_run : programs.Program → ℕ → programs.Nodes → Doing
all_run p levels = in_turn p.groupings (calls p levels)

abbrev pub nth_runs : programs.Program → ℕ → programs.Nodes → ℕ → Doing
nth_runs p levels = nth_does p.groupings (calls p levels)

abbrev pub group_runs : programs.Program → ℕ → programs.Nodes → Option ℕ → Doing
group_runs p levels cs g m s = with_group g s (λ k. nth_runs p levels cs k m s)
