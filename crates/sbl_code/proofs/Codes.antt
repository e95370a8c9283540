-- The code of one routine more.
use Rattle.std.proofs.Common.{◌≡◌, ℕ, zero, suc, List, [], ◌∷◌, ◌++◌, Some, None, refl}
use Rattle.sbl_ast.specs.declared.mode.Mode.TheVariants.{Forward}
use Rattle.sbl_program.specs.AmongStrings.{Listing}
use Rattle.sbl_program.specs.ProgramOf.{view_routine}
use Rattle.sbl_program.specs.declared.node.Routine.{Routine}
use Rattle.sbl_code.specs.declared.code.RoutineCode.{RoutineCode}
use Rattle.sbl_code.specs.CodeOf.{IsCodeOf, AreCodeOf}

no_tables : ℕ → Listing
no_tables n = record { mode = Forward; entries = [] }

pub coded_more :
    (codes : List RoutineCode) (routines : List Routine) (code : RoutineCode) (routine : Routine) → AreCodeOf codes routines →
    ((tables : ℕ → Listing) → IsCodeOf tables code (view_routine tables routine)) → AreCodeOf (codes ++ (code ∷ [])) (routines ++ (routine ∷ []))
coded_more [] [] code routine are h tables zero = (view_routine tables routine, refl, h tables)
coded_more [] [] code routine are h tables (suc i) = refl
coded_more [] (r ∷ rs) code routine are h tables i = let e : Some (view_routine no_tables r) ≡ None = are no_tables zero in absurd (let none : ⊥ = cc in none)
coded_more (c ∷ cs) [] code routine are h tables i = let w = are no_tables zero in let e : None ≡ Some w.0 = w.1 in absurd (let none : ⊥ = cc in none)
coded_more (c ∷ cs) (r ∷ rs) code routine are h tables zero = are tables zero
coded_more (c ∷ cs) (r ∷ rs) code routine are h tables (suc i) = coded_more cs rs code routine (λ t j. are t (suc j)) h tables i
