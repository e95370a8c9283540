-- Where a limit is enough, each limit of at least the steps that were used is.
use Rattle.std.proofs.Common.{◌≡◌, ◌⊎◌, inl, inr, ℕ, zero, suc, ◌+◌, ◌-◌, ◌<◌, ◌≤◌, List, [], refl, sym, ap, subst, ◌∙◌, arith}
use Rattle.sbl_semantics.specs.declared.fault.RunFault.TheVariants as faults
use Rattle.sbl_machine.specs.EnoughSteps.{RefusedForSteps, UsedStepsSuffice, UsedStepsTouch}
use Rattle.sbl_semantics.specs.Meaning as meaning
use Rattle.sbl_semantics.specs.inside.RegionRuns as regions
use Rattle.sbl_semantics.proofs.ByLandmarks.{ending_is}
use Rattle.sbl_semantics.specs.Outcome.{Refused, outcome_at, touched_at, used_at, run_of, touches_of, used_of}
use Rattle.sbl_semantics.specs.State.{State, Ending, Signals, Stops}
use Rattle.sbl_machine.proofs.Steps.{Within, Goes}
use Rattle.sbl_machine.proofs.StepsRuns.{calls_go}
use Rattle.sbl_semantics.specs.Items.{known_in, char_class_of, classes_after, body_named}
use Rattle.sbl_ast.specs.Source.{Source}
use Rattle.sbl_ast.specs.Order.{in_order}
use Rattle.sbl_ast.specs.declared.mode.Mode.TheVariants.{Forward}

-- two endings, of runs with these limits, give the same for as many steps, and touch the same
abbrev Alike : ℕ → ℕ → Ending → Ending → Type 0
Alike l r e f = (outcome_at e ≡ outcome_at f) × (used_at l e ≡ used_at r f) × (touched_at e ≡ touched_at f)

alike_sym : (l r : ℕ) (e f : Ending) → Alike l r e f → Alike r l f e
alike_sym l r e f h = (sym h.0, sym h.1, sym h.2)

steps_used_plus : (l k : ℕ) (s : State) → (l + k) - (s.steps + k) ≡ l - s.steps
steps_used_plus l k s = omega arith

higher : (k l : ℕ) (e e' : Ending) → Goes k (suc l) e e' → used_at l e ≤ l → Alike (l + k) l e' e
higher k l (Signals b s) e' h u = (ap outcome_at h.1, ap (used_at (l + k)) h.1 ∙ steps_used_plus l k s, ap touched_at h.1)
higher k l (Stops faults.Steps s) e' h u = absurd (omega (arith, u))
higher k l (Stops fault s) e' h u = (ap outcome_at h.1, ap (used_at (l + k)) h.1 ∙ steps_used_plus l k s, ap touched_at h.1)

too_many : (k l : ℕ) (e : Ending) → Within k e → used_at (l + k) e ≤ l → ⊥
too_many k l (Signals b s) h u = omega (arith, h, u)
too_many k l (Stops faults.Steps s) h u = omega (arith, u)
too_many k l (Stops fault s) h u = omega (arith, h, u)

lower : (k l : ℕ) (e e' : Ending) → Goes k (suc l) e e' → used_at (l + k) e' ≤ l → Alike l (l + k) e e'
lower k l (Signals b s) e' h u = alike_sym (l + k) l e' (Signals b s) (ap outcome_at h.1, ap (used_at (l + k)) h.1 ∙ steps_used_plus l k s, ap touched_at h.1)
lower k l (Stops faults.Steps s) e' h u = absurd (too_many k l e' h.1 u)
lower k l (Stops fault s) e' h u = (sym (ap outcome_at h.1), sym (ap (used_at (l + k)) h.1 ∙ steps_used_plus l k s), sym (ap touched_at h.1))

regions_go : (script : Source) (word : List ℕ) (limit k : ℕ) → Goes k (suc limit) (regions.ending script word limit) (regions.ending script word (limit + k))
unfolding regions.ending
regions_go script word limit k =
    let items = in_order script.items in
    calls_go (known_in items) (char_class_of (classes_after items [])) (body_named items) 32 script.external Forward k (suc limit) (meaning.start (known_in items) word limit) (omega arith)

ending_goes : (script : Source) (word : List ℕ) (limit k : ℕ) → Goes k (suc limit) (meaning.ending script word limit) (meaning.ending script word (limit + k))
ending_goes script word limit k =
    subst (λ (e : Ending). Goes k (suc limit) e (meaning.ending script word (limit + k))) (sym (ending_is script word limit))
    (subst (Goes k (suc limit) (regions.ending script word limit)) (sym (ending_is script word (limit + k))) (regions_go script word limit k))

-- of two numbers one is the other and some more
apart : (a b : ℕ) → ((k : ℕ) × (a + k ≡ b)) ⊎ ((k : ℕ) × (b + k ≡ a))
apart zero b = inl (b, omega arith)
apart (suc a) zero = inr (suc a, omega arith)
apart (suc a) (suc b) = at (apart a b)
  where
    at : ((k : ℕ) × (a + k ≡ b)) ⊎ ((k : ℕ) × (b + k ≡ a)) → ((k : ℕ) × (suc a + k ≡ suc b)) ⊎ ((k : ℕ) × (suc b + k ≡ suc a))
    at (inl p) = inl (p.0, omega (arith, p.1))
    at (inr p) = inr (p.0, omega (arith, p.1))

-- the endings at two limits, of which each is at least the steps that were used
both_limits : (script : Source) (word : List ℕ) (limit other : ℕ) →
    let e : ℕ → Ending = meaning.ending script word in
    used_at limit (e limit) ≤ limit → used_at limit (e limit) ≤ other → Alike other limit (e other) (e limit)
both_limits script word limit other enough below = at (apart limit other)
  where
    e : ℕ → Ending
    e l = meaning.ending script word l

    at : ((k : ℕ) × (limit + k ≡ other)) ⊎ ((k : ℕ) × (other + k ≡ limit)) → Alike other limit (e other) (e limit)
    at (inl p) = subst (λ o. Alike o limit (e o) (e limit)) p.1 (higher p.0 limit (e limit) (e (limit + p.0)) (ending_goes script word limit p.0) enough)
    at (inr p) =
        subst (λ l. used_at l (e l) ≤ other → Alike other l (e other) (e l)) p.1 (lower p.0 other (e other) (e (other + p.0)) (ending_goes script word other p.0)) below

pub used_suffice : UsedStepsSuffice
unfolding run_of used_of
used_suffice script word limit other below above = let h = both_limits script word limit other below above in (h.0, h.1)

pub used_touch : UsedStepsTouch
unfolding used_of touches_of
used_touch script word limit other below above = (both_limits script word limit other below above).2

-- ---- refused for its steps

refused_below_use : (l : ℕ) (e : Ending) → outcome_at e ≡ Refused faults.Steps → l < used_at l e
refused_below_use l (Signals b s) h = let no : ⊥ = cc in absurd no
refused_below_use l (Stops faults.Steps s) h = omega arith
refused_below_use l (Stops fault s) h = let no : ⊥ = cc in absurd no

unmet : (l : ℕ) (e : Ending) → l < used_at l e → outcome_at e ≡ Refused faults.Steps
unmet l (Signals b s) h = absurd (omega (arith, h))
unmet l (Stops faults.Steps s) h = refl
unmet l (Stops fault s) h = absurd (omega (arith, h))

pub refused_for_steps : RefusedForSteps
unfolding run_of used_of
refused_for_steps script word limit = (refused_below_use limit (meaning.ending script word limit), unmet limit (meaning.ending script word limit))
