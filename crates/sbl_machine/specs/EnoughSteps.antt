-- A run that does not reach its limit does not depend on it.
use Rattle.std.specs.Prelude.{◌≡◌, ◌↔◌, ℕ, ◌<◌, ◌≤◌, List}
use Rattle.sbl_semantics.specs.declared.fault.RunFault.TheVariants.{Steps}
use Rattle.sbl_semantics.specs.Outcome.{Refused, run_of, touches_of, used_of}
use Rattle.sbl_ast.specs.Source.{Source}

-- a run is refused for its steps exactly if it used more than its limit
abbrev pub RefusedForSteps : Type 0
RefusedForSteps = (script : Source) (word : List ℕ) (limit : ℕ) → (run_of script word limit ≡ Refused Steps) ↔ (limit < used_of script word limit)

-- If a limit is enough for a run, each other limit that is at least the number of steps used, higher or lower, gives
-- the same outcome with the same number of steps used.
abbrev pub UsedStepsSuffice : Type 0
UsedStepsSuffice =
    (script : Source) (word : List ℕ) (limit other : ℕ) → used_of script word limit ≤ limit → used_of script word limit ≤ other →
    (run_of script word other ≡ run_of script word limit) × (used_of script word other ≡ used_of script word limit)

-- and the run touches the same
abbrev pub UsedStepsTouch : Type 0
UsedStepsTouch =
    (script : Source) (word : List ℕ) (limit other : ℕ) → used_of script word limit ≤ limit → used_of script word limit ≤ other →
    touches_of script word other ≡ touches_of script word limit
