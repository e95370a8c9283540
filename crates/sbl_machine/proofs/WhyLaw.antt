-- A run that records its events gives the same for as many steps, and touches the same.
use Rattle.std.proofs.Common.{◌≡◌, ℕ, suc, ◌+◌, ◌-◌, ◌<◌, List, [], Some, refl, sym, ap, subst, ◌∙◌, arith}
use Rattle.sbl_semantics.specs.declared.fault.RunFault.TheVariants as faults
use Rattle.sbl_semantics.specs.Meaning as meaning
use Rattle.sbl_semantics.specs.inside.RegionRuns as regions
use Rattle.sbl_semantics.proofs.ByLandmarks.{ending_is, telling_is}
use Rattle.sbl_semantics.specs.Outcome.{integers_at, integers_of, outcome_at, touched_at, used_at, run_of, touches_of, used_of}
use Rattle.sbl_machine.specs.Why.{EventsChangeNothing}
use Rattle.sbl_semantics.specs.State.{State, Ending, Signals, Stops}
use Rattle.sbl_machine.proofs.Steps.{Goes}
use Rattle.sbl_machine.proofs.StepsRuns.{calls_go}
use Rattle.sbl_semantics.specs.Items.{known_in, char_class_of, classes_after, body_named}
use Rattle.sbl_ast.specs.Source.{Source}
use Rattle.sbl_ast.specs.Order.{in_order}
use Rattle.sbl_ast.specs.declared.mode.Mode.TheVariants.{Forward}

regions_record : (script : Source) (word : List ℕ) (limit : ℕ) → Goes 0 (suc limit) (regions.ending_with_events script word limit) (regions.ending script word limit)
unfolding regions.ending regions.ending_with_events
regions_record script word limit =
    let items = in_order script.items in
    let known = known_in items in
    let class = char_class_of (classes_after items []) in
    let begun : State = record (meaning.start known word limit) { events = Some [] } in
    let run : State → Ending = regions.calls known class (body_named items) 32 script.external Forward in
    let none : limit + 0 ≡ limit = omega arith in
    subst (λ l. Goes 0 (suc limit) (run begun) (run (meaning.start known word l))) none
    (calls_go known class (body_named items) 32 script.external Forward 0 (suc limit) begun (omega arith))

recording_goes : (script : Source) (word : List ℕ) (limit : ℕ) → Goes 0 (suc limit) (meaning.ending_with_events script word limit) (meaning.ending script word limit)
recording_goes script word limit =
    subst (λ (e : Ending). Goes 0 (suc limit) e (meaning.ending script word limit)) (sym (telling_is script word limit))
    (subst (Goes 0 (suc limit) (regions.ending_with_events script word limit)) (sym (ending_is script word limit)) (regions_record script word limit))

steps_used_same : (l : ℕ) (s : State) → l - (s.steps + 0) ≡ l - s.steps
steps_used_same l s = omega arith

alike : (l : ℕ) (e e' : Ending) → Goes 0 (suc l) e e' → (outcome_at e ≡ outcome_at e') × (used_at l e ≡ used_at l e') × (touched_at e ≡ touched_at e') × (integers_at e ≡ integers_at e')
alike l (Signals b s) e' h = (sym (ap outcome_at h.1), sym (ap (used_at l) h.1 ∙ steps_used_same l s), sym (ap touched_at h.1), sym (ap integers_at h.1))
alike l (Stops faults.Steps s) e' h = let same = h.0 refl in (sym (ap outcome_at same), sym (ap (used_at l) same), sym (ap touched_at same), sym (ap integers_at same))
alike l (Stops fault s) e' h = (sym (ap outcome_at h.1), sym (ap (used_at l) h.1 ∙ steps_used_same l s), sym (ap touched_at h.1), sym (ap integers_at h.1))

pub events_change_nothing : EventsChangeNothing
unfolding run_of used_of touches_of integers_of
events_change_nothing script word limit =
    let h = alike limit (meaning.ending_with_events script word limit) (meaning.ending script word limit) (recording_goes script word limit) in
    record { outcome = h.0; used = h.1; touches = h.2; integers = h.3 }
