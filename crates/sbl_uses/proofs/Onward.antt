-- One part of a run after another.
use Rattle.std.proofs.Common.{◌≡◌, ◌≤◌, ℕ, zero, suc, ◌+◌, Bool, true, false, List, [], ◌∷◌, ◌++◌, Option, refl, sym, ap, subst, ◌∙◌, append_assoc, append-nil, arith}
use Rattle.std.specs.Prelude.{⊤}
use Rattle.sbl_machine.specs.Why.{text_after}
use Rattle.sbl_semantics.specs.Items.{Body, DeclaredNames}
use Rattle.sbl_semantics.specs.declared.fault.RunFault.{RunFault}
use Rattle.sbl_semantics.specs.declared.fault.RunFault.TheVariants as faults
use Rattle.sbl_semantics.specs.Events.{Event', Searches}
use Rattle.sbl_semantics.specs.Control.{pay_first}
use Rattle.sbl_semantics.specs.State.{State, Ending, Signals, Stops, Doing, after, pay, then_on}
use Rattle.sbl_ast.specs.declared.mode.Mode.{Mode}
use Rattle.sbl_uses.specs.Searches.{within}
use Rattle.sbl_uses.proofs.RunParts.{Any_refusal, Each, Ends, Family, Good, GoodIn, Moment, Part, PartBy, PartX, Refused, Some_end, add, add_add, add_none, at, each_append, each_go, recorded_events, signals_good, text_append}

module _ (ns : DeclaredNames) (bodies : List ℕ → Option Body) (r : ℕ) where
  -- ---- the moments of a later part

  module _ (E : Type 0) (events events' : Option (List Event')) (text text' : List ℕ) (routine routine' : ℕ) (ys : List Event') (of_events : events' ≡ add ys events) (of_text : text' ≡ text_after text ys) (of_routine : routine' ≡ routine) (run next : Family) (most least d : ℕ) (sum : most ≡ d + least)
      (same : (n : ℕ) → n ≤ least → run (d + n) ≡ next n) where
    moment_shifts : (before : List Event') (i k : ℕ) (m : Mode) (c : ℕ) (rest : List Event') → Moment ns bodies r E events' text' routine' next least before i k m c rest → Moment ns bodies r E events text routine run most (ys ++ before) i k m c rest
    moment_shifts before i k m c rest q =
        let x = Searches i k m c in
        let one_more : suc (d + q.0) ≡ d + suc q.0 = omega arith in
        let inside : suc (d + q.0) ≤ most = omega (arith, q.3, sum) in
        let below : q.0 ≤ least = omega (arith, q.3) in (
          d + q.0,
          q.1,
          q.2,
          inside,
          same q.0 below ∙ q.4,
          q.5 ∙ ap (add before) of_events ∙ add_add ys before events,
          q.6 ∙ ap (λ y. text_after y before) of_text ∙ sym (text_append text ys before),
          ap (λ y. recorded_events (run y)) one_more ∙ ap recorded_events (same (suc q.0) q.3) ∙ q.7 ∙ ap (add (before ++ (x ∷ q.2))) of_events ∙ add_add ys (before ++ (x ∷ q.2)) events
              ∙ ap (λ zs. add zs events) (sym (append_assoc ys before (x ∷ q.2))),
          (q.8.0, q.8.1, q.8.2, (λ e. q.8.3 (of_routine ∙ e)), q.8.4, q.8.5, q.8.6),
        )

    pub each_shifts : (zs es : List Event') → Each ns bodies r E events' text' routine' next least [] zs es → Each ns bodies r E events text routine run most ys zs es
    each_shifts zs es h =
        subst (λ b. Each ns bodies r E events text routine run most b zs es) (append-nil ys) (each_go ns bodies r E E events' events text' text routine' routine next run least most ys moment_shifts [] zs es h)

  -- ---- a part, and what goes on from it

  module _ (s : State) (run run' : Family) (most : ℕ)
      (stops : (n : ℕ) (u : State) → run n ≡ Stops faults.Steps u → run' n ≡ Stops faults.Steps u) (grows : (n : ℕ) → (zs : List Event') × (recorded_events (run' n) ≡ add zs (recorded_events (run n)))) where
    moment_stays : (E E' : Type 0) → (E' → E) → (before : List Event') (i k : ℕ) (m : Mode) (c : ℕ) (rest : List Event') → Moment ns bodies r E s.events s.text s.routine run most before i k m c rest → Moment ns bodies r E' s.events s.text s.routine run' most before i k m c rest
    moment_stays E E' w before i k m c rest h =
        let g = grows (suc h.0) in
        let x = Searches i k m c in (
          h.0,
          h.1,
          h.2 ++ g.0,
          h.3,
          stops h.0 h.1 h.4,
          h.5,
          h.6,
          g.1 ∙ ap (add g.0) h.7 ∙ add_add (before ++ (x ∷ h.2)) g.0 s.events ∙ ap (λ ys. add ys s.events) (append_assoc before (x ∷ h.2) g.0),
          (h.8.0, h.8.1, h.8.2, h.8.3, h.8.4, h.8.5, (λ z. h.8.6 (w z))),
        )

    stays : (E E' : Type 0) → (E' → E) → (ys es : List Event') → Each ns bodies r E s.events s.text s.routine run most [] ys es → Each ns bodies r E' s.events s.text s.routine run' most [] ys es
    stays E E' w ys es h = each_go ns bodies r E E' s.events s.events s.text s.text s.routine s.routine run run' most most [] (moment_stays E E' w) [] ys es h

    module _ (A : Ends ns bodies r) (B : Refused ns bodies r) where
      pub ends_there : (A1 : Ends ns bodies r) (B1 : Refused ns bodies r) (fault : RunFault) (t : State) → run' most ≡ Stops fault t → (h : PartBy ns bodies r A1 B1 s.events s.text s.routine run most (Stops fault t)) → B h.0 → PartX ns bodies r A B s run' most
      ends_there A1 B1 fault t e h b = (Stops fault t, e, (h.0, h.1, h.2, stays ⊥ ⊥ (λ z. z) h.0 [] h.3, b))

      module _ (A1 : Ends ns bodies r) (B1 : Refused ns bodies r) (b : Bool) (t : State) (h : PartBy ns bodies r A1 B1 s.events s.text s.routine run most (Signals b t)) (next : Family)
          (same : (n : ℕ) → n ≤ t.steps → run' (h.6 + n) ≡ next n) where
        each_on : (E : Type 0) (zs es : List Event') → Each ns bodies r E t.events t.text t.routine next t.steps [] zs es → Each ns bodies r E s.events s.text s.routine run' most [] (h.0 ++ zs) es
        each_on E zs es q =
            each_append ns bodies r E s.events s.text s.routine run' most [] h.0 zs es (stays ⊤ E (λ z. tt) h.0 (zs ++ es) (h.5 (zs ++ es)))
            (each_shifts E s.events t.events s.text t.text s.routine t.routine h.0 h.1 h.2 h.3 run' next most t.steps h.6 h.7 same zs es q)

        there : run' most ≡ next t.steps
        there = ap run' h.7 ∙ same t.steps (omega arith)

        pub goes_on : PartX ns bodies r (λ c v zs. A c v (h.0 ++ zs)) (λ zs. B (h.0 ++ zs)) t next t.steps → PartX ns bodies r A B s run' most
        goes_on (Signals c v, e, p) = (
          Signals c v,
          there ∙ e,
          (
            h.0 ++ p.0,
            p.1 ∙ ap (add p.0) h.1 ∙ add_add h.0 p.0 s.events,
            p.2 ∙ ap (λ x. text_after x p.0) h.2 ∙ sym (text_append s.text h.0 p.0),
            p.3 ∙ h.3,
            (λ i d es. ap (λ zs. within zs i d) (append_assoc h.0 p.0 es) ∙ h.4 i d (p.0 ++ es) ∙ p.4 i d es),
            (λ es. each_on ⊤ p.0 es (p.5 es)),
            h.6 + p.6,
            (omega (arith, h.7, p.7)),
            (λ n l.
                let sum : h.6 + p.6 + n ≡ h.6 + (p.6 + n) = omega arith in
                let inside : p.6 + n ≤ t.steps = omega (arith, l, p.7) in
                ap run' sum ∙ same (p.6 + n) inside ∙ p.8 n l),
            p.9,
          ),
        )
        goes_on (Stops fault v, e, p) = (
          Stops fault v,
          there ∙ e,
          (
            h.0 ++ p.0,
            p.1 ∙ ap (add p.0) h.1 ∙ add_add h.0 p.0 s.events,
            (λ i d. ap (λ c. c.end) (h.4 i d p.0) ∙ p.2 i d),
            each_on ⊥ p.0 [] p.3,
            p.4,
          ),
        )

  -- ---- what a command adds to the events

  abbrev pub Grows : (State → Ending) → Type 0
  Grows f = (t : State) → (zs : List Event') × (recorded_events (f t) ≡ add zs t.events)

  pub added_by : (A : Ends ns bodies r) (B : Refused ns bodies r) (s : State) (run : Family) (most : ℕ) → PartX ns bodies r A B s run most → (zs : List Event') × (recorded_events (run most) ≡ add zs s.events)
  added_by A B s run most (Signals b t, e, h) = (h.0, ap recorded_events e ∙ h.1)
  added_by A B s run most (Stops fault t, e, h) = (h.0, ap recorded_events e ∙ h.1)

  pub grows_by : (A : State → Ends ns bodies r) (B : Refused ns bodies r) (f : State → Ending) → ((t : State) → PartX ns bodies r (A t) B t (λ n. f (at n t)) t.steps) → Grows f
  grows_by A B f h t = added_by (A t) B t (λ n. f (at n t)) t.steps (h t)

  pub good_grows : (f : State → Ending) → Good ns bodies r f → Grows f
  good_grows f h = grows_by (λ t. Some_end ns bodies r) (Any_refusal ns bodies r) f h

  after_grows : (g h : State → Ending) → Grows g → Grows h → (e : Ending) → (zs : List Event') × (recorded_events (after e g h) ≡ add zs (recorded_events e))
  after_grows g h i j (Signals true t) = i t
  after_grows g h i j (Signals false t) = j t
  after_grows g h i j (Stops fault t) = ([], add_none t.events)

  -- ---- `after`

  module _ (A1 : Ends ns bodies r) (B1 : Refused ns bodies r) (A : Ends ns bodies r) (B : Refused ns bodies r) (s : State) (run : Family) (most : ℕ) (g h : State → Ending) (grow_g : Grows g) (grow_h : Grows h)
      (on_t : (t : State) (ys : List Event') → A1 true t ys → PartX ns bodies r (λ c v zs. A c v (ys ++ zs)) (λ zs. B (ys ++ zs)) t (λ n. g (at n t)) t.steps)
      (on_f : (t : State) (ys : List Event') → A1 false t ys → PartX ns bodies r (λ c v zs. A c v (ys ++ zs)) (λ zs. B (ys ++ zs)) t (λ n. h (at n t)) t.steps)
      (on_stop : (ys : List Event') → B1 ys → B ys) where
    abbrev both : Family
    both n = after (run n) g h

    stop_both : (n : ℕ) (u : State) → run n ≡ Stops faults.Steps u → both n ≡ Stops faults.Steps u
    stop_both n u e = ap (λ x. after x g h) e

    grow_both : (n : ℕ) → (zs : List Event') × (recorded_events (both n) ≡ add zs (recorded_events (run n)))
    grow_both n = after_grows g h grow_g grow_h (run n)

    pub after_x : PartX ns bodies r A1 B1 s run most → PartX ns bodies r A B s both most
    after_x (Signals true t, e, p) = goes_on s run both most stop_both grow_both A B A1 B1 true t p (λ n. g (at n t)) (λ n l. ap (λ x. after x g h) (p.8 n l)) (on_t t p.0 p.9)
    after_x (Signals false t, e, p) = goes_on s run both most stop_both grow_both A B A1 B1 false t p (λ n. h (at n t)) (λ n l. ap (λ x. after x g h) (p.8 n l)) (on_f t p.0 p.9)
    after_x (Stops fault t, e, p) = ends_there s run both most stop_both grow_both A B A1 B1 fault t (ap (λ x. after x g h) e) p (on_stop p.0 p.4)

  pub after_part : (s : State) (run : Family) (most : ℕ) (g h : State → Ending) → Part ns bodies r s run most → Good ns bodies r g → Good ns bodies r h → Part ns bodies r s (λ n. after (run n) g h) most
  after_part s run most g h p i j =
      after_x (Some_end ns bodies r) (Any_refusal ns bodies r) (Some_end ns bodies r) (Any_refusal ns bodies r) s run most g h (good_grows g i) (good_grows h j) (λ t ys a. i t) (λ t ys a. j t) (λ ys b. tt) p

  pub then_part : (s : State) (run : Family) (most : ℕ) (g : State → Ending) → Part ns bodies r s run most → Good ns bodies r g → Part ns bodies r s (λ n. then_on (run n) g) most
  then_part s run most g p i = after_part s run most g (Signals false) p i (signals_good ns bodies r false)

  -- ---- paying

  module _ (A : Ends ns bodies r) (B : Refused ns bodies r) (s : State) (f : State → Ending) (rest : (c : ℕ) → PartX ns bodies r A B (at c s) (λ n. f (at n s)) c) (none : B []) where
    abbrev paying : Family
    paying n = then_on (pay n (at n s)) f

    grow_paying : (n : ℕ) → (zs : List Event') × (recorded_events (paying n) ≡ add zs (recorded_events (pay n (at n s))))
    grow_paying zero = ([], add_none s.events)
    grow_paying (suc n) = added_by A B (at n s) (λ n. f (at n s)) n (rest n)

    pays_one : (n : ℕ) → paying (1 + n) ≡ f (at n s)
    pays_one n = let e : suc n ≡ 1 + n = omega arith in subst (λ x. paying x ≡ f (at n s)) e refl

    leaves_one : (n : ℕ) → pay (1 + n) (at (1 + n) s) ≡ Signals true (at n s)
    leaves_one n = let e : suc n ≡ 1 + n = omega arith in subst (λ x. pay x (at x s) ≡ Signals true (at n s)) e refl

    pub paid_x : (most : ℕ) → PartX ns bodies r A B s paying most
    paid_x zero = (Stops faults.Steps (at 0 s), refl, ([], add_none s.events, (λ i d. refl), tt, none))
    paid_x (suc c) =
        goes_on s (λ n. pay n (at n s)) paying (suc c) (λ n u e. ap (λ x. then_on x f) e) grow_paying A B (Some_end ns bodies r) (Any_refusal ns bodies r) true (at c s)
        ([], add_none s.events, refl, refl, (λ i d es. refl), (λ es. tt), 1, omega arith, (λ n l. leaves_one n), tt) (λ n. f (at n s)) (λ n l. pays_one n) (rest c)

  pub paid_good : (d : Doing) → GoodIn ns bodies r d → GoodIn ns bodies r (pay_first d)
  paid_good d i m s = paid_x (Some_end ns bodies r) (Any_refusal ns bodies r) s (d m) (λ c. i m (at c s)) tt s.steps
