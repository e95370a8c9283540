-- What calls do, and the laws of searches.
use Rattle.std.specs.Prelude.{⊤}
use Rattle.std.proofs.Common.{◌≤◌, subst, append_assoc, ◌≡◌, ℕ, zero, suc, ◌+◌, Bool, true, false, List, [], ◌∷◌, ◌++◌, Option, Some, None, refl, sym, ap, ◌∙◌, inl, inr, append-nil}
use Rattle.std.proofs.lemmas.List.{append-nil}
use Rattle.sbl_ast.specs.declared.tree.DeclarationKind.TheVariants as kinds
use Rattle.sbl_ast.specs.Order.{in_order}
use Rattle.sbl_ast.specs.declared.mode.Mode.{Mode}
use Rattle.sbl_ast.specs.declared.mode.Mode.TheVariants.{Forward}
use Rattle.sbl_semantics.specs.Fitting.{ahead_at}
use Rattle.sbl_semantics.specs.Items.{DeclaredNames, Body, place_of, known_in, char_class_of, classes_after, body_named}
use Rattle.sbl_semantics.specs.Regions.{number_after, number_after_others, first_others, waits}
use Rattle.sbl_semantics.specs.Landmarks.{Among}
use Rattle.sbl_semantics.specs.Events.{Event', Enters, Leaves, Searches, Finds, Puts}
use Rattle.sbl_semantics.specs.inside.EventParts.{with_event}
use Rattle.sbl_semantics.specs.Control.{back_in, enter, leave, pay_first}
use Rattle.sbl_semantics.specs.inside.ControlParts.{end_search}
use Rattle.sbl_semantics.specs.State.{State, Ending, Signals, Stops, Doing, bound_of}
use Rattle.sbl_semantics.specs.Meaning as meaning
use Rattle.sbl_semantics.specs.inside.RegionRuns as regions
use Rattle.sbl_semantics.proofs.ByLandmarks.{calls_same}
use Rattle.sbl_semantics.specs.inside.MeaningParts as parts
use Rattle.sbl_semantics.specs.Meaning.{Offer, prefixed_does, counted_does, joined_does, limited_does, simple_does, moved_does, assigned_does, compared_does, named_does, edited_does, takes, try_each, search}
use Rattle.sbl_semantics.specs.inside.MeaningParts.{begins}
use Rattle.sbl_semantics.specs.declared.fault.RunFault.TheVariants as faults
use Rattle.sbl_semantics.specs.Outcome.{events_at, events_in, events_of}
use Rattle.sbl_machine.specs.Why.{text_after}
use Rattle.sbl_uses.specs.TreeAmongs.{HasAmong, IsInOthers}
use Rattle.sbl_uses.proofs.LandmarkAmongs.{has_landmark}
use Rattle.sbl_uses.specs.Searches.{IsWhole, Course, EachSearchTakesFirst, EndsWith, SearchesTakeFirst, TakesFirst, call_of, course, fits, with_calls, within}
use Rattle.sbl_uses.proofs.FirstAmongs.{none_is, others_are}
use Rattle.sbl_uses.proofs.RunParts.{Any_refusal, Each, Family, GoodIn, IsOne, Moment, Part, PartBy, PartX, Some_end, add, add_add, add_none, at, each_append, each_at, here_with, recorded_events, stop_with, text_append, with_add, with_one}
use Rattle.sbl_uses.proofs.Commands.{Unended}
use Rattle.sbl_uses.proofs.SearchesEnd.{Called, CallsAre, first_in, search_found}
use Rattle.sbl_uses.proofs.Bodies.{act_paid, others_paid}

module _ (ns : DeclaredNames) (class : List ℕ → ℕ → Bool) (bodies : List ℕ → Option Body) where
  module _ (call : List ℕ → Doing) (calls : (r : ℕ) → CallsAre ns bodies r call) (x : List ℕ) (s : State) (m : Mode) (r : ℕ) where
    module _ (b : Body) (e : bodies x ≡ Some b) where
      abbrev p : ℕ
      p = place_of (ns kinds.Routines) x

      abbrev start_state : State
      start_state = enter p (number_after_others b.others (number_after b.first 0)) s

      abbrev row_run : Doing
      row_run = parts.row_does ns class call b.mode b.first b.others

      abbrev HasHere : Among → Type 0
      HasHere a = HasAmong ns bodies p a

      row_paid : GoodIn ns bodies p (pay_first row_run)
      row_paid =
          let others : (a : Among) → IsInOthers a b.mode (number_after b.first 0) b.others → HasHere a = λ a j. (x, b, refl, e, inr j) in
          let n = first_others b.mode b.others (number_after b.first 0) None in
          others_paid ns class bodies call p (calls p) b.others b.mode (number_after b.first 0) (waits b.first false) None (regions.act ns class call b.mode 0 false n b.first) others (none_is HasHere)
          (act_paid ns class bodies call p (calls p) b.first b.mode 0 false n (λ a j. (x, b, refl, e, inl j)) (others_are HasHere b.others b.mode (number_after b.first 0) None others (none_is HasHere)))

      abbrev run : Family
      run n = pay_first row_run m (at n start_state)

      abbrev whole : Family
      whole n = leave s.routine s.choices (run n)

      leave_grows : (i : Ending) → (zs : List Event') × (recorded_events (leave s.routine s.choices i) ≡ add zs (recorded_events i))
      leave_grows (Signals true t) = (Leaves true ∷ [], with_one (Leaves true) t.events)
      leave_grows (Signals false t) = (Leaves false ∷ [], with_one (Leaves false) t.events)
      leave_grows (Stops fault t) = ([], add_none t.events)

      moment_out : (E : Type 0) (most : ℕ) (before : List Event') (i k : ℕ) (n : Mode) (c : ℕ) (rest : List Event') → Moment ns bodies p E start_state.events start_state.text start_state.routine run most before i k n c rest → Moment ns bodies r E s.events s.text s.routine whole most (Enters p ∷ before) i k n c rest
      moment_out E most before i k n c rest h =
          let g = leave_grows (run (suc h.0)) in
          let y = Searches i k n c in (
            h.0,
            h.1,
            h.2 ++ g.0,
            h.3,
            ap (leave s.routine s.choices) h.4,
            h.5 ∙ ap (add before) (with_one (Enters p) s.events) ∙ add_add (Enters p ∷ []) before s.events,
            h.6,
            g.1 ∙ ap (add g.0) h.7 ∙ add_add (before ++ (y ∷ h.2)) g.0 start_state.events ∙ ap (λ zs. add zs start_state.events) (append_assoc before (y ∷ h.2) g.0)
                ∙ ap (add (before ++ (y ∷ (h.2 ++ g.0)))) (with_one (Enters p) s.events) ∙ add_add (Enters p ∷ []) (before ++ (y ∷ (h.2 ++ g.0))) s.events,
            (h.8.0, h.8.1, h.8.2, (λ z. h.8.3 refl), h.8.4, h.8.5, h.8.6),
          )

      one_out : (E : Type 0) (most : ℕ) (before : List Event') (y : Event') (rest : List Event') → IsOne ns bodies p E start_state.events start_state.text start_state.routine run most before y rest → IsOne ns bodies r E s.events s.text s.routine whole most (Enters p ∷ before) y rest
      one_out E most before (Searches i k n c) rest h = moment_out E most before i k n c rest h
      one_out E most before (Enters i) rest h = tt
      one_out E most before (Leaves c) rest h = tt
      one_out E most before (Finds k end_search) rest h = tt
      one_out E most before (Puts from to put) rest h = tt

      each_out : (E : Type 0) (most : ℕ) (before ys es : List Event') → Each ns bodies p E start_state.events start_state.text start_state.routine run most before ys es → Each ns bodies r E s.events s.text s.routine whole most (Enters p ∷ before) ys es
      each_out E most before [] es h = tt
      each_out E most before (y ∷ ys) es h = (one_out E most before y (ys ++ es) h.0, each_out E most (before ++ (y ∷ [])) ys es h.1)

      call_is : (c : Bool) → call_of ns bodies x c (bodies x) ≡ record { routine = p; signal = c } ∷ []
      call_is true = refl
      call_is false = ap (call_of ns bodies x false) e

      -- the body ends, and the routine is left
      body_leaves : (most : ℕ) (c : Bool) (t : State) → whole most ≡ Signals c (back_in s.routine s.choices c t)
          → (h : PartBy ns bodies p (Some_end ns bodies p) (Any_refusal ns bodies p) start_state.events start_state.text start_state.routine run most (Signals c t)) → ((n : ℕ) → n ≤ t.steps → whole (h.6 + n) ≡ Signals c (at n (back_in s.routine s.choices c t)))
          → PartX ns bodies r (Called ns bodies r x s) (Unended ns bodies r) s whole most
      body_leaves most c t end h shift =
          let ys : List Event' = Enters p ∷ (h.0 ++ (Leaves c ∷ [])) in
          let inside : (j d : ℕ) (es : List Event') → within ((h.0 ++ (Leaves c ∷ [])) ++ es) j d ≡ within (Leaves c ∷ es) j d =
          λ j d es. ap (λ zs. within zs j d) (append_assoc h.0 (Leaves c ∷ []) es) ∙ h.4 j d (Leaves c ∷ es) in
          let text : t.text ≡ text_after s.text ys = h.2 ∙ sym (text_append s.text h.0 (Leaves c ∷ [])) in
          let events : with_event (Leaves c) t.events ≡ add ys s.events =
          ap (with_event (Leaves c)) (h.1 ∙ ap (add h.0) (with_one (Enters p) s.events) ∙ add_add (Enters p ∷ []) h.0 s.events) ∙ with_add (Leaves c) (Enters p ∷ h.0) s.events in
          let each : (es : List Event') → Each ns bodies r ⊤ s.events s.text s.routine whole most [] ys es =
          λ es. (tt, each_append ns bodies r ⊤ s.events s.text s.routine whole most (Enters p ∷ []) h.0 (Leaves c ∷ []) es (each_out ⊤ most [] h.0 (Leaves c ∷ es) (h.5 (Leaves c ∷ es))) (tt, tt)) in (
            Signals c (back_in s.routine s.choices c t),
            end,
            (ys, events, text, refl, (λ j d es. inside j (suc d) es), each, h.6, h.7, shift, (refl, (λ es. inside p 0 es ∙ ap (λ cs. with_calls cs (course es)) (sym (call_is c))))),
          )

      back_called : (most : ℕ) → Part ns bodies p start_state run most → PartX ns bodies r (Called ns bodies r x s) (Unended ns bodies r) s whole most
      back_called most (Signals true t, end, h) = body_leaves most true t (ap (leave s.routine s.choices) end) h (λ n l. ap (leave s.routine s.choices) (h.8 n l))
      back_called most (Signals false t, end, h) = body_leaves most false t (ap (leave s.routine s.choices) end) h (λ n l. ap (leave s.routine s.choices) (h.8 n l))
      back_called most (Stops fault t, end, h) = (
        Stops fault t,
        ap (leave s.routine s.choices) end,
        (
          Enters p ∷ h.0,
          h.1 ∙ ap (add h.0) (with_one (Enters p) s.events) ∙ add_add (Enters p ∷ []) h.0 s.events,
          (λ j d. h.2 j (suc d)),
          (tt, each_out ⊥ most [] h.0 [] h.3),
          h.2 p 0,
        ),
      )

    with_none : (c : Course) → c ≡ with_calls [] c
    with_none c = refl

    body_called : (o : Option Body) → bodies x ≡ o → PartX ns bodies r (Called ns bodies r x s) (Unended ns bodies r) s (λ k. regions.body_does ns class call x o m (at k s)) s.steps
    body_called None e =
        here_with ns bodies r (Called ns bodies r x s) (Unended ns bodies r) s s false s.steps refl refl refl (refl, (λ es. with_none (course es) ∙ ap (λ o. with_calls (call_of ns bodies x false o) (course es)) (sym e)))
    body_called (Some b) e = back_called b e s.steps (row_paid b e m (start_state b e))

  pub calls_are : (levels r : ℕ) → CallsAre ns bodies r (regions.calls ns class bodies levels)
  calls_are zero r x m s = stop_with ns bodies r (Called ns bodies r x s) (Unended ns bodies r) s s faults.Depth s.steps refl refl
  calls_are (suc levels) r x m s = body_called (regions.calls ns class bodies levels) (calls_are levels) x s m r (bodies x) refl

-- ---- the laws

events_recorded : (e : Ending) → events_at e ≡ events_in (recorded_events e)
events_recorded (Signals b t) = refl
events_recorded (Stops fault t) = refl

pub searches_take_first : SearchesTakeFirst
searches_take_first script levels a m s before e =
    let items = in_order script.items in
    let known = known_in items in
    let bodies = body_named items in
    let class = char_class_of (classes_after items []) in
    let call = meaning.calls known class bodies levels in
    let calls = subst (CallsAre known bodies 0) (sym (calls_same known class bodies levels)) (calls_are known class bodies levels 0) in
    let end_search = search_found known bodies 0 call calls a m s s.steps in
    let h = first_in known bodies 0 call calls a m s end_search.0 (λ n. search call a m (at n s)) s.steps end_search.2 in (
      h.0,
      events_recorded (search call a m s) ∙ ap (λ i. events_in (recorded_events i)) end_search.1 ∙ ap events_in (h.1 ∙ ap (add (Searches s.routine a.number m s.cursor ∷ h.0)) e),
      subst (EndsWith known bodies a.number s.choices (fits a (ahead_at a.mode s.text s.cursor (bound_of m s))) (course h.0)) (sym end_search.1) h.2,
    )

-- the searches of a run that recorded its events from the start
module _ (ns : DeclaredNames) (bodies : List ℕ → Option Body) (s : State) (none : s.events ≡ Some []) (run : Family) (x : List ℕ) where
  each_in : (most : ℕ) → PartX ns bodies 0 (Called ns bodies 0 x s) (Unended ns bodies 0) s run most → Each ns bodies 0 (IsWhole (run most)) s.events s.text s.routine run most [] (events_at (run most)) []
  each_in most (Signals b t, e, h) =
      let same : events_at (run most) ≡ h.0 = ap events_at e ∙ ap events_in (h.1 ∙ ap (add h.0) none) in
      subst (λ i. Each ns bodies 0 (IsWhole i) s.events s.text s.routine run most [] (events_at (run most)) []) (sym e)
      (subst (λ es. Each ns bodies 0 ⊤ s.events s.text s.routine run most [] es []) (sym same) (h.5 []))
  each_in most (Stops fault t, e, h) =
      let same : events_at (run most) ≡ h.0 = ap events_at e ∙ ap events_in (h.1 ∙ ap (add h.0) none) in
      subst (λ i. Each ns bodies 0 (IsWhole i) s.events s.text s.routine run most [] (events_at (run most)) []) (sym e)
      (subst (λ es. Each ns bodies 0 ⊥ s.events s.text s.routine run most [] es []) (sym same) h.3)

pub each_search_takes_first : EachSearchTakesFirst
unfolding meaning.ending_with_events events_of
each_search_takes_first script word limit before rest i k m c e =
    let items = in_order script.items in
    let known = known_in items in
    let bodies = body_named items in
    let class = char_class_of (classes_after items []) in
    let start : State = record (meaning.start known word limit) { events = Some [] } in
    let run : Family = meaning.ending_with_events script word in
    let calls = subst (CallsAre known bodies 0) (sym (calls_same known class bodies 32)) (calls_are known class bodies 32 0) in
    let all : Each known bodies 0 (IsWhole (run limit)) (Some []) word 0 run limit [] (events_of script word limit) [] =
    each_in known bodies start refl run script.external limit (calls script.external Forward start) in
    let h : Moment known bodies 0 (IsWhole (run limit)) (Some []) word 0 run limit before i k m c (rest ++ []) =
    each_at known bodies 0 (IsWhole (run limit)) (Some []) word 0 run limit [] before (Searches i k m c) rest [] (subst (λ es. Each known bodies 0 (IsWhole (run limit)) (Some []) word 0 run limit [] es []) e all) in
    record {
      steps = h.0;
      fewer = h.3;
      start = h.1;
      stopped = h.4;
      so_far = h.5;
      next = (h.2, events_recorded (run (suc h.0)) ∙ ap events_in h.7);
      at_cursor = h.8.1;
      in_text = h.6;
      among = h.8.2;
      there = has_landmark known bodies i h.8.2 (h.8.3 refl);
      number = h.8.4;
      first = subst (λ es. TakesFirst known bodies h.8.2 h.1.text c (bound_of m h.1) es) (append-nil rest) h.8.5;
      ends = λ z. subst (λ es. (x : Event') × ((course es).end ≡ Some x)) (append-nil rest) (h.8.6 z);
    }
