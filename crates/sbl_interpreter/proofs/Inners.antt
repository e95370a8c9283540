-- What an instruction that runs others does from the state in which its steps are paid.
use Rattle.std.proofs.Common.{◌≡◌, ◌⊎◌, inl, inr, ℕ, Bool, true, false, List, Result, Err, rules, refl, sym, ap, ◌∙◌, Box, Global}
use Rattle.std.specs.declared.rc.Rc.{Rc}
use Rattle.sbl_program.specs.AmongStrings.{Listing}
use Rattle.sbl_program.specs.Program as programs
use Rattle.sbl_program.specs.ProgramOf.{view_number}
use Rattle.sbl_program.specs.declared.action.Arithmetic.{Arithmetic}
use Rattle.sbl_run_state.specs.declared.halt.Halt.{Halt}
use Rattle.sbl_run_state.specs.Endings.{Follows}
use Rattle.sbl_program.specs.Rows.{pays}
use Rattle.sbl_program.specs.Run.{calls}
use Rattle.sbl_program.specs.Search.{search_all}
use Rattle.sbl_run_state.proofs.EarlyEnds.{follows_at, after_halts}
use Rattle.sbl_semantics.specs.Control.{pay_first}
use Rattle.sbl_semantics.specs.State.{State, Ending, Signals, Stops, Doing, after, pay, then_on}
use Rattle.sbl_semantics.specs.declared.cursor.SavedCursor.{SavedCursor}
use Rattle.sbl_ast.specs.declared.mode.Mode.{Mode}
use Rattle.sbl_code.specs.declared.instruction.SearchSite.{SearchSite}
use Rattle.sbl_code.specs.declared.instruction.Instruction.{Instruction}
use Rattle.sbl_code.specs.declared.instruction.Instruction.TheVariants.{Nested, Loop, AtLeast, Seek, Backwards, SetLimit, Search}
use Rattle.sbl_code.specs.declared.instruction.Instruction.TheViews.{the_lemmas}
use Rattle.sbl_code.specs.Flow.{Flow, flow, alone, loop_of, at_least_of, seek_of, backwards_of, limited_of}
use Rattle.sbl_interpreter.specs.Inner.{inner_of}
use Rattle.sbl_code.proofs.Instructions.{flow_nested, flow_loop, flow_at_least, flow_seek, flow_backwards, flow_set_limit, flow_search}
use Rattle.sbl_interpreter.proofs.Flows.{IsPaid, after_paid}

-- the steps of a cost and the command's own are not left
unpaid_of : (e : Ending) (own d f g : State → Ending) (halt : Halt) (new : State) → Follows (Err halt) new (then_on e own) → Follows (Err halt) new (then_on e (λ v. after (then_on (own v) d) f g))
unpaid_of (Signals true v) own d f g halt new h = after_halts halt new (then_on (own v) d) f g (after_halts halt new (own v) d (Signals false) h)
unpaid_of (Signals false v) own d f g halt new h = h
unpaid_of (Stops fault v) own d f g halt new h = h

abbrev I : Type 0
I = Rc Instruction Global

module _ (p : programs.Program) (levels : ℕ) (tables : ℕ → Listing) where
  abbrev F : Instruction → Flow
  F = flow p levels tables

  abbrev D : Instruction → Doing
  D = inner_of p levels tables

  pub does_nested : (cost : ℕ) (body next fail : I) → D (Nested cost body next fail) ≡ alone (F body.value)
  does_nested cost body next fail = search (rules, the_lemmas)

  pub does_loop : (cost : ℕ) (count : Box Arithmetic Global) (body next fail : I) → D (Loop cost count body next fail) ≡ loop_of (view_number count.value) (alone (F body.value))
  does_loop cost count body next fail = search (rules, the_lemmas)

  pub does_at_least : (cost : ℕ) (count : Box Arithmetic Global) (body next fail : I) → D (AtLeast cost count body next fail) ≡ at_least_of (view_number count.value) (alone (F body.value))
  does_at_least cost count body next fail = search (rules, the_lemmas)

  pub does_seek : (cost : ℕ) (past : Bool) (body next fail : I) → D (Seek cost past body next fail) ≡ seek_of past (alone (F body.value))
  does_seek cost past body next fail = search (rules, the_lemmas)

  pub does_backwards : (cost : ℕ) (body next fail : I) → D (Backwards cost body next fail) ≡ backwards_of (alone (F body.value))
  does_backwards cost body next fail = search (rules, the_lemmas)

  pub does_set_limit : (cost : ℕ) (first second next fail : I) → D (SetLimit cost first second next fail) ≡ limited_of (alone (F first.value)) (alone (F second.value))
  does_set_limit cost first second next fail = search (rules, the_lemmas)

  pub does_search : (cost : ℕ) (among : ℕ) (site : Box SearchSite Global) (next fail : I) → D (Search cost among site next fail) ≡ search_all (calls p levels) among site.value.entries.items (tables site.value.table)
  does_search cost among site next fail = search (rules, the_lemmas)

  module _ (m : Mode) (slots : List SavedCursor) (s : State) (at : Instruction) where
    -- an instruction that runs others, with this cost and these exits
    abbrev IsInner : ℕ → I → I → Type 0
    IsInner cost next fail =
        ((body : I) × (at ≡ Nested cost body next fail)) ⊎
        (((count : Box Arithmetic Global) × (body : I) × (at ≡ Loop cost count body next fail)) ⊎
        (((count : Box Arithmetic Global) × (body : I) × (at ≡ AtLeast cost count body next fail)) ⊎
        (((past : Bool) × (body : I) × (at ≡ Seek cost past body next fail)) ⊎
        (((body : I) × (at ≡ Backwards cost body next fail)) ⊎
        (((first : I) × (second : I) × (at ≡ SetLimit cost first second next fail)) ⊎
        (((among : ℕ) × (site : Box SearchSite Global) × (at ≡ Search cost among site next fail))))))))

    abbrev Flows : ℕ → I → I → Type 0
    Flows cost next fail = F at m slots s ≡ then_on (pays cost s) (λ v. after (pay_first (D at) m v) (F next.value m slots) (F fail.value m slots))

    flows_as : (cost : ℕ) (next fail : I) (x : Instruction) (d : Doing) → at ≡ x → D x ≡ d → F x m slots s ≡ then_on (pays cost s) (λ v. after (pay_first d m v) (F next.value m slots) (F fail.value m slots)) → Flows cost next fail
    flows_as cost next fail x d is does flows =
        ap (λ (i : Instruction). F i m slots s) is
        ∙ flows
        ∙ ap (λ (e : Doing). then_on (pays cost s) (λ v. after (pay_first e m v) (F next.value m slots) (F fail.value m slots))) (sym (ap (λ (i : Instruction). D i) is ∙ does))

    inner_flows : (cost : ℕ) (next fail : I) → IsInner cost next fail → Flows cost next fail
    inner_flows cost next fail (inl x) = flows_as cost next fail (Nested cost x.0 next fail) (alone (F x.0.value)) x.1 (does_nested cost x.0 next fail) (flow_nested p levels tables m slots s cost x.0 next fail)
    inner_flows cost next fail (inr (inl x)) = flows_as cost next fail (Loop cost x.0 x.1 next fail) (loop_of (view_number x.0.value) (alone (F x.1.value))) x.2 (does_loop cost x.0 x.1 next fail) (flow_loop p levels tables m slots s cost x.0 x.1 next fail)
    inner_flows cost next fail (inr (inr (inl x))) = flows_as cost next fail (AtLeast cost x.0 x.1 next fail) (at_least_of (view_number x.0.value) (alone (F x.1.value))) x.2 (does_at_least cost x.0 x.1 next fail) (flow_at_least p levels tables m slots s cost x.0 x.1 next fail)
    inner_flows cost next fail (inr (inr (inr (inl x)))) = flows_as cost next fail (Seek cost x.0 x.1 next fail) (seek_of x.0 (alone (F x.1.value))) x.2 (does_seek cost x.0 x.1 next fail) (flow_seek p levels tables m slots s cost x.0 x.1 next fail)
    inner_flows cost next fail (inr (inr (inr (inr (inl x))))) = flows_as cost next fail (Backwards cost x.0 next fail) (backwards_of (alone (F x.0.value))) x.1 (does_backwards cost x.0 next fail) (flow_backwards p levels tables m slots s cost x.0 next fail)
    inner_flows cost next fail (inr (inr (inr (inr (inr (inl x)))))) = flows_as cost next fail (SetLimit cost x.0 x.1 next fail) (limited_of (alone (F x.0.value)) (alone (F x.1.value))) x.2 (does_set_limit cost x.0 x.1 next fail) (flow_set_limit p levels tables m slots s cost x.0 x.1 next fail)
    inner_flows cost next fail (inr (inr (inr (inr (inr (inr x)))))) = flows_as cost next fail (Search cost x.0 x.1 next fail) (search_all (calls p levels) x.0 x.1.value.entries.items (tables x.1.value.table)) x.2 (does_search cost x.0 x.1 next fail) (flow_search p levels tables m slots s cost x.0 x.1 next fail)

    pub has_exits : (cost : ℕ) (next fail : I) (u : State) → IsInner cost next fail → IsPaid cost s u → F at m slots s ≡ after (D at m u) (F next.value m slots) (F fail.value m slots)
    has_exits cost next fail u is h = inner_flows cost next fail is ∙ after_paid cost s u (D at m) (F next.value m slots) (F fail.value m slots) h

    pub inner_unpaid : (r : Result Bool Halt) (halt : Halt) (new : State) (w : Ending) (cost : ℕ) (next fail : I) → r ≡ Err halt → F at m slots s ≡ w → IsInner cost next fail → Follows (Err halt) new (then_on (pays cost s) (λ v. pay v.steps v)) → Follows r new w
    inner_unpaid r halt new w cost next fail e inv is h =
        rw e (follows_at (Err halt) new w _ (sym inv ∙ inner_flows cost next fail is) (unpaid_of (pays cost s) (λ v. pay v.steps v) (D at m) (F next.value m slots) (F fail.value m slots) halt new h))

    pub search_unpaid : (r : Result Bool Halt) (halt : Halt) (new : State) (cost among : ℕ) (site : Box SearchSite Global) (next fail : I) → r ≡ Err halt → at ≡ Search cost among site next fail → Follows (Err halt) new (then_on (pays cost s) (λ v. pay v.steps v)) → Follows r new (F at m slots s)
    search_unpaid r halt new cost among site next fail e is h =
        inner_unpaid r halt new (F at m slots s) cost next fail e refl (inr (inr (inr (inr (inr (inr (among, site, is))))))) h

    -- a search whose steps are paid, with the site that is read
    pub search_exits : (cost among : ℕ) (site : Box SearchSite Global) (next fail : I) (x : SearchSite) (u : State) → at ≡ Search cost among site next fail → x ≡ site.value → IsPaid cost s u → F at m slots s ≡ after (search_all (calls p levels) among x.entries.items (tables x.table) m u) (F next.value m slots) (F fail.value m slots)
    search_exits cost among site next fail x u is hx h =
        has_exits cost next fail u (inr (inr (inr (inr (inr (inr (among, site, is))))))) h
        ∙ ap (λ r. after r (F next.value m slots) (F fail.value m slots))
        (ap (λ (i : Instruction). D i m u) is
        ∙ ap (λ (d : Doing). d m u) (does_search cost among site next fail)
        ∙ ap (λ (z : SearchSite). search_all (calls p levels) among z.entries.items (tables z.table) m u) (sym hx))

  module _ (m : Mode) (s new : State) (at : Instruction) (r : Result Bool Halt) where
    pub follows_loop : (cost : ℕ) (count : Box Arithmetic Global) (body next fail : I) (k : Arithmetic) (x : Instruction) → at ≡ Loop cost count body next fail → k ≡ count.value → x ≡ body.value → Follows r new (loop_of (view_number k) (alone (F x)) m s) → Follows r new (D at m s)
    follows_loop cost count body next fail k x is hk hx h =
        follows_at r new (D at m s) (loop_of (view_number k) (alone (F x)) m s)
        (ap (λ (i : Instruction). D i m s) is
        ∙ ap (λ (d : Doing). d m s) (does_loop cost count body next fail)
        ∙ ap (λ (z : Arithmetic). loop_of (view_number z) (alone (F body.value)) m s) (sym hk)
        ∙ ap (λ (z : Instruction). loop_of (view_number k) (alone (F z)) m s) (sym hx))
        h

    pub follows_at_least : (cost : ℕ) (count : Box Arithmetic Global) (body next fail : I) (k : Arithmetic) (x : Instruction) → at ≡ AtLeast cost count body next fail → k ≡ count.value → x ≡ body.value → Follows r new (at_least_of (view_number k) (alone (F x)) m s) → Follows r new (D at m s)
    follows_at_least cost count body next fail k x is hk hx h =
        follows_at r new (D at m s) (at_least_of (view_number k) (alone (F x)) m s)
        (ap (λ (i : Instruction). D i m s) is
        ∙ ap (λ (d : Doing). d m s) (does_at_least cost count body next fail)
        ∙ ap (λ (z : Arithmetic). at_least_of (view_number z) (alone (F body.value)) m s) (sym hk)
        ∙ ap (λ (z : Instruction). at_least_of (view_number k) (alone (F z)) m s) (sym hx))
        h

    pub follows_set_limit : (cost : ℕ) (first second next fail : I) (x y : Instruction) → at ≡ SetLimit cost first second next fail → x ≡ first.value → y ≡ second.value → Follows r new (limited_of (alone (F x)) (alone (F y)) m s) → Follows r new (D at m s)
    follows_set_limit cost first second next fail x y is hx hy h =
        follows_at r new (D at m s) (limited_of (alone (F x)) (alone (F y)) m s)
        (ap (λ (i : Instruction). D i m s) is
        ∙ ap (λ (d : Doing). d m s) (does_set_limit cost first second next fail)
        ∙ ap (λ (z : Instruction). limited_of (alone (F z)) (alone (F second.value)) m s) (sym hx)
        ∙ ap (λ (z : Instruction). limited_of (alone (F x)) (alone (F z)) m s) (sym hy))
        h

    pub follows_search : (cost among : ℕ) (site : Box SearchSite Global) (next fail : I) (x : SearchSite) → at ≡ Search cost among site next fail → x ≡ site.value → Follows r new (search_all (calls p levels) among x.entries.items (tables x.table) m s) → Follows r new (D at m s)
    follows_search cost among site next fail x is hx h =
        follows_at r new (D at m s) (search_all (calls p levels) among x.entries.items (tables x.table) m s)
        (ap (λ (i : Instruction). D i m s) is
        ∙ ap (λ (d : Doing). d m s) (does_search cost among site next fail)
        ∙ ap (λ (z : SearchSite). search_all (calls p levels) among z.entries.items (tables z.table) m s) (sym hx))
        h
