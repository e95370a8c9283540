-- Early ends: what follows a halt.
use Rattle.std.proofs.Common.{◌≡◌, ℕ, ◌-◌, Bool, List, Option, Some, None, Result, Err, refl, sym, ap, ◌∙◌}
use Rattle.sbl_semantics.specs.declared.fault.RunFault.{RunFault}
use Rattle.sbl_run_state.specs.declared.halt.Halt.{Halt}
use Rattle.sbl_semantics.specs.declared.limits.Limits.{Limits}
use Rattle.sbl_run_state.specs.Halts.{fault_of}
use Rattle.sbl_run_state.specs.Endings.{Follows, Halts, Tries}
use Rattle.sbl_semantics.specs.Control.{leave, restore_limit}
use Rattle.sbl_semantics.specs.State.{State, Ending, Stops, after}
use Rattle.sbl_ast.specs.declared.mode.Mode.{Mode}

-- an early end, through what leaves it as it is
halts_through : (o : Option RunFault) (new : State) (e : Ending) (f : Ending → Ending) → ((fault : RunFault) → f (Stops fault new) ≡ Stops fault new) → Halts o new e → Halts o new (f e)
halts_through None new e f same h = tt
halts_through (Some fault) new e f same h = ap f h ∙ same fault

-- an early end, fault by fault
by_fault_of : (o : Option RunFault) (new : State) (e : Ending) → ((fault : RunFault) → o ≡ Some fault → e ≡ Stops fault new) → Halts o new e
by_fault_of None new e h = tt
by_fault_of (Some fault) new e h = h fault refl

pub by_fault : (halt : Halt) (new : State) (e : Ending) → ((fault : RunFault) → fault_of halt ≡ Some fault → e ≡ Stops fault new) → Follows (Err halt) new e
by_fault halt new e h = by_fault_of (fault_of halt) new e h

stops_of : (o : Option RunFault) (new : State) (e : Ending) (fault : RunFault) → o ≡ Some fault → Halts o new e → e ≡ Stops fault new
stops_of None new e fault is h = let no : ⊥ = cc in absurd no
stops_of (Some f) new e fault is h = let same : f ≡ fault = cc in h ∙ ap (λ (k : RunFault). Stops k new) same

pub stops_at : (halt : Halt) (new : State) (e : Ending) (fault : RunFault) → fault_of halt ≡ Some fault → Follows (Err halt) new e → e ≡ Stops fault new
stops_at halt new e fault is h = stops_of (fault_of halt) new e fault is h

pub follows_at : (r : Result Bool Halt) (new : State) (e w : Ending) → e ≡ w → Follows r new w → Follows r new e
follows_at r new e w p h = rw p h

pub limited_halts : (m : Mode) (from : Limits) (halt : Halt) (new : State) (e : Ending) → Follows (Err halt) new e → Follows (Err halt) new (restore_limit m from e)
limited_halts m from halt new e h = halts_through (fault_of halt) new e (restore_limit m from) (λ fault. refl) h

pub tries_halt : (halt : Halt) (new : State) (e f w : Ending) → Tries (Err halt) new e f → e ≡ w → Follows (Err halt) new w
tries_halt halt new e f w h p = follows_at (Err halt) new w e (sym p) h

pub leave_halts : (i : ℕ) (cs : List (Option ℕ)) (halt : Halt) (new : State) (e : Ending) → Follows (Err halt) new e → Follows (Err halt) new (leave i cs e)
leave_halts i cs halt new e h = halts_through (fault_of halt) new e (leave i cs) (λ fault. refl) h

pub after_halts : (halt : Halt) (new : State) (e : Ending) (on_t on_f : State → Ending) → Follows (Err halt) new e → Follows (Err halt) new (after e on_t on_f)
after_halts halt new e on_t on_f h = halts_through (fault_of halt) new e (λ r. after r on_t on_f) (λ fault. refl) h
