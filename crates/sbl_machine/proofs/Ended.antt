-- What a run gave, along an equation.
use Rattle.std.proofs.Common.{◌≡◌, ℕ, List, ap, ◌∙◌, Result, Ok, Err}
use Rattle.std.specs.Prelude.{IfOk}
use Rattle.std.specs.declared.alloc.AllocError.{AllocError}
use Rattle.sbl_machine.specs.declared.outcome.RunEnd.{RunEnd}
use Rattle.sbl_semantics.specs.declared.touch.Touch.{Touch}
use Rattle.sbl_semantics.specs.Outcome.{Outcome', outcome_of, touched_at}
use Rattle.sbl_semantics.specs.State.{Ending}

pub same_outcome : (r : Result RunEnd AllocError) (x y : Outcome') → IfOk r (λ end. outcome_of end.outcome ≡ x) → x ≡ y → IfOk r (λ end. outcome_of end.outcome ≡ y)
same_outcome (Ok end) x y h p = h ∙ p
same_outcome (Err fault) x y h p = tt

pub same_touches : (r : Result RunEnd AllocError) (touched : List Touch) (e f : Ending) → IfOk r (λ _. touched ≡ touched_at e) → e ≡ f → IfOk r (λ _. touched ≡ touched_at f)
same_touches (Ok end) touched e f h p = h ∙ ap touched_at p
same_touches (Err x) touched e f h p = tt

pub same_used : (r : Result RunEnd AllocError) (x y : ℕ) → IfOk r (λ end. end.used ≡ x) → x ≡ y → IfOk r (λ end. end.used ≡ y)
same_used (Ok end) x y h p = h ∙ p
same_used (Err fault) x y h p = tt
