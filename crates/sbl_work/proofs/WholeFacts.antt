-- The whole of work: from the bench of the files and its desk on.
use Rattle.std.proofs.Common.{inl, inr, ◌≡◌, ◌∙◌, ℕ, Bool, List, Option, Result, Ok, Err, refl, ap, subst}
use Rattle.sbl_bench.specs.Contents.{Contents}
use Rattle.sbl_io.specs.declared.faults.ServeFault.{ServeFault}
use Rattle.sbl_history.specs.Desks.{State, first_desk}
use Rattle.sbl_work.specs.Serving.{IsWork}
use Rattle.sbl_work.specs.WholeWork.{IsOpened, IsWholeWork, WorksOrMemory}

-- work goes on from the desk at the start
pub works_from : (Ends : Result (Unit {0}) ServeFault → Type 0) (m : Bool) (bytes text prompt : List ℕ) (a b h i : Option (List ℕ)) (s t : Contents) (d e : State) (r : Result (Unit {0}) ServeFault)
    → text ≡ bytes → d ≡ first_desk m s text → IsWork prompt a b h i s d t e r → Ends r → WorksOrMemory Ends m bytes prompt a b h i s r
works_from Ends m bytes text prompt a b h i s t d e r same desk work ends =
    inl (t, e, subst (λ (y : State). IsWork prompt a b h i s y t e r) (desk ∙ ap (first_desk m s) same) work, ends)

-- work ends with a fault
pub whole_fault : (Ends : Result (Unit {0}) ServeFault → Type 0) (m : Bool) (external bytes prompt : List ℕ) (a b h i : Option (List ℕ)) (s : Contents) (f : ServeFault)
    → IsOpened external bytes s → WorksOrMemory Ends m bytes prompt a b h i s (Err f) → IsWholeWork Ends m external prompt a b h i 1
whole_fault Ends m external bytes prompt a b h i s f opened (inl p) = inr (bytes, s, Err f, opened, p, refl)
whole_fault Ends m external bytes prompt a b h i s f opened (inr p) = inl (refl, p.1)

-- work ends without a fault
pub whole_end : (Ends : Result (Unit {0}) ServeFault → Type 0) (m : Bool) (external bytes prompt : List ℕ) (a b h i : Option (List ℕ)) (s : Contents) (u : Unit {0})
    → IsOpened external bytes s → WorksOrMemory Ends m bytes prompt a b h i s (Ok u) → IsWholeWork Ends m external prompt a b h i 0
whole_end Ends m external bytes prompt a b h i s u opened (inl p) = inr (bytes, s, Ok u, opened, p, refl)
whole_end Ends m external bytes prompt a b h i s u opened (inr (e, rest)) = absurd cc
