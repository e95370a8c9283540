-- Parts of a run: what a part adds to the events, and that it ends in the same way with fewer steps, or is refused for them.
use Rattle.std.proofs.Common.{◌≡◌, ◌≤◌, ℕ, suc, ◌+◌, Bool, true, false, List, [], ◌∷◌, ◌++◌, Option, Some, None, Ok, Err, refl, sym, ap, subst, ◌∙◌, append_assoc, append-nil, arith}
use Rattle.std.specs.Prelude.{ℤ, ⊤, if◌then◌else◌}
use Rattle.sbl_ast.specs.declared.mode.Mode.{Mode}
use Rattle.sbl_machine.specs.Why.{text_after, text_after_one}
use Rattle.sbl_semantics.specs.Items.{Body, DeclaredNames}
use Rattle.sbl_semantics.specs.declared.fault.RunFault.{RunFault}
use Rattle.sbl_semantics.specs.declared.fault.RunFault.TheVariants as faults
use Rattle.sbl_semantics.specs.Events.{Event', Enters, Leaves, Searches, Finds, Puts}
use Rattle.sbl_semantics.specs.inside.EventParts.{with_event}
use Rattle.sbl_semantics.specs.Numbers.{Value, continue_with}
use Rattle.sbl_semantics.specs.State.{State, Ending, Signals, Stops, Doing, bound_of}
use Rattle.sbl_uses.specs.TreeAmongs.{HasAmong}
use Rattle.sbl_semantics.specs.Landmarks.{Among}
use Rattle.sbl_uses.specs.Searches.{TakesFirst, course, within}

-- ---- events added

abbrev pub add : List Event' → Option (List Event') → Option (List Event')
add ys None = None
add ys (Some xs) = Some (xs ++ ys)

pub add_none : (o : Option (List Event')) → o ≡ add [] o
add_none None = refl
add_none (Some xs) = ap Some (sym (append-nil xs))

pub add_add : (ys zs : List Event') (o : Option (List Event')) → add zs (add ys o) ≡ add (ys ++ zs) o
add_add ys zs None = refl
add_add ys zs (Some xs) = ap Some (append_assoc xs ys zs)

pub with_add : (x : Event') (ys : List Event') (o : Option (List Event')) → with_event x (add ys o) ≡ add (ys ++ (x ∷ [])) o
with_add x ys None = refl
with_add x ys (Some xs) = ap Some (append_assoc xs ys (x ∷ []))

pub with_one : (x : Event') (o : Option (List Event')) → with_event x o ≡ add (x ∷ []) o
with_one x None = refl
with_one x (Some xs) = refl

pub text_append : (text : List ℕ) (ys zs : List Event') → text_after text (ys ++ zs) ≡ text_after (text_after text ys) zs
text_append text [] zs = refl
text_append text (y ∷ ys) zs = text_append (text_after_one text y) ys zs

-- ---- with other steps

abbrev pub at : ℕ → State → State
at n s = record s { steps = n }

-- what a part does with each number of steps
abbrev pub Family : Type 0
Family = ℕ → Ending

abbrev pub recorded_events : Ending → Option (List Event')
recorded_events (Signals b t) = t.events
recorded_events (Stops fault t) = t.events

module _ (ns : DeclaredNames) (bodies : List ℕ → Option Body) (r : ℕ) where
  -- What is told of a search that begins in a state, in a part that the routine with number r begins. If E holds, the search
  -- ends.
  abbrev pub Begins : Type 0 → ℕ → State → ℕ → ℕ → Mode → ℕ → List Event' → Type 0
  Begins E routine u i k m c rest =
      (u.routine ≡ i) × (u.cursor ≡ c) × (a : Among) × (routine ≡ r → HasAmong ns bodies i a) × (a.number ≡ k) × TakesFirst ns bodies a u.text c (bound_of m u) rest × (E → (x : Event') × ((course rest).end ≡ Some x))

  -- With n steps the part is refused in the state in which the search begins, and with one step more it begins. Before it
  -- come these events; the part begins with these events and this text.
  abbrev pub Moment : Type 0 → Option (List Event') → List ℕ → ℕ → Family → ℕ → List Event' → ℕ → ℕ → Mode → ℕ → List Event' → Type 0
  Moment E events text routine run most before i k m c rest =
      (n : ℕ) × (u : State) × (later : List Event') × (suc n ≤ most) × (run n ≡ Stops faults.Steps u) × (u.events ≡ add before events) × (u.text ≡ text_after text before) ×
      (recorded_events (run (suc n)) ≡ add (before ++ (Searches i k m c ∷ later)) events) × Begins E routine u i k m c rest

  abbrev pub IsOne : Type 0 → Option (List Event') → List ℕ → ℕ → Family → ℕ → List Event' → Event' → List Event' → Type 0
  IsOne E events text routine run most before (Searches i k m c) rest = Moment E events text routine run most before i k m c rest
  IsOne E events text routine run most before (Enters i) rest = ⊤
  IsOne E events text routine run most before (Leaves b) rest = ⊤
  IsOne E events text routine run most before (Finds k found) rest = ⊤
  IsOne E events text routine run most before (Puts from to put) rest = ⊤

  -- each of the events ys that begins a search does so, after the events `before`, if the events es follow
  abbrev pub Each : Type 0 → Option (List Event') → List ℕ → ℕ → Family → ℕ → List Event' → List Event' → List Event' → Type 0
  Each E events text routine run most before [] es = ⊤
  Each E events text routine run most before (y ∷ ys) es = IsOne E events text routine run most before y (ys ++ es) × Each E events text routine run most (before ++ (y ∷ [])) ys es

  module _ (E : Type 0) (events : Option (List Event')) (text : List ℕ) (routine : ℕ) (run : Family) (most : ℕ) where
    pub each_append : (before ys zs es : List Event') → Each E events text routine run most before ys (zs ++ es) → Each E events text routine run most (before ++ ys) zs es → Each E events text routine run most before (ys ++ zs) es
    each_append before [] zs es h k = subst (λ b. Each E events text routine run most b zs es) (append-nil before) k
    each_append before (y ∷ ys) zs es h k = (
      subst (IsOne E events text routine run most before y) (sym (append_assoc ys zs es)) h.0,
      each_append (before ++ (y ∷ [])) ys zs es h.1 (subst (λ b. Each E events text routine run most b zs es) (sym (append_assoc before (y ∷ []) ys)) k),
    )

    pub each_at : (first before : List Event') (x : Event') (rest es : List Event') → Each E events text routine run most first (before ++ (x ∷ rest)) es → IsOne E events text routine run most (first ++ before) x (rest ++ es)
    each_at first [] x rest es h = subst (λ b. IsOne E events text routine run most b x (rest ++ es)) (sym (append-nil first)) h.0
    each_at first (y ∷ before) x rest es h = subst (λ b. IsOne E events text routine run most b x (rest ++ es)) (append_assoc first (y ∷ []) before) (each_at (first ++ (y ∷ [])) before x rest es h.1)

  module _ (E E' : Type 0) (events events' : Option (List Event')) (text text' : List ℕ) (routine routine' : ℕ) (run run' : Family) (most most' : ℕ) (pre : List Event')
      (go : (before : List Event') (i k : ℕ) (m : Mode) (c : ℕ) (rest : List Event') → Moment E events text routine run most before i k m c rest → Moment E' events' text' routine' run' most' (pre ++ before) i k m c rest) where
    one_go : (before : List Event') (x : Event') (rest : List Event') → IsOne E events text routine run most before x rest → IsOne E' events' text' routine' run' most' (pre ++ before) x rest
    one_go before (Searches i k m c) rest h = go before i k m c rest h
    one_go before (Enters i) rest h = tt
    one_go before (Leaves b) rest h = tt
    one_go before (Finds k found) rest h = tt
    one_go before (Puts from to put) rest h = tt

    pub each_go : (before ys es : List Event') → Each E events text routine run most before ys es → Each E' events' text' routine' run' most' (pre ++ before) ys es
    each_go before [] es h = tt
    each_go before (y ∷ ys) es h = (one_go before y (ys ++ es) h.0, subst (λ b. Each E' events' text' routine' run' most' b ys es) (sym (append_assoc pre before (y ∷ []))) (each_go (before ++ (y ∷ [])) ys es h.1))

  -- ---- parts

  abbrev pub Skips : List Event' → Type 0
  Skips ys = (i d : ℕ) (es : List Event') → within (ys ++ es) i d ≡ within es i d

  abbrev pub Open : List Event' → Type 0
  Open ys = (i d : ℕ) → (within ys i d).end ≡ None

  -- what else is told of a part by the events that it adds: how it ends, or that it is refused
  abbrev pub Ends : Type 1
  Ends = Bool → State → List Event' → Type 0

  abbrev pub Refused : Type 1
  Refused = List Event' → Type 0

  -- A part with its first state, its family and its number of steps. It adds the events ys, in which each search does as it
  -- should. If it ends, it uses d steps: with d and n steps it ends as it does here, with n left.
  abbrev pub PartBy : Ends → Refused → Option (List Event') → List ℕ → ℕ → Family → ℕ → Ending → Type 0
  PartBy A B events text routine run most (Signals b t) =
      (ys : List Event') × (t.events ≡ add ys events) × (t.text ≡ text_after text ys) × (t.routine ≡ routine) × Skips ys × ((es : List Event') → Each ⊤ events text routine run most [] ys es) ×
      (d : ℕ) × (most ≡ d + t.steps) × ((n : ℕ) → n ≤ t.steps → run (d + n) ≡ Signals b (at n t)) × A b t ys
  PartBy A B events text routine run most (Stops fault t) = (ys : List Event') × (t.events ≡ add ys events) × Open ys × Each ⊥ events text routine run most [] ys [] × B ys

  abbrev pub PartOf : Ends → Refused → Option (List Event') → List ℕ → ℕ → Family → ℕ → Type 0
  PartOf A B events text routine run most = (e : Ending) × (run most ≡ e) × PartBy A B events text routine run most e

  abbrev pub PartX : Ends → Refused → State → Family → ℕ → Type 0
  PartX A B s run most = PartOf A B s.events s.text s.routine run most

  -- nothing else is told
  abbrev pub Some_end : Ends
  Some_end b t ys = ⊤

  abbrev pub Any_refusal : Refused
  Any_refusal ys = ⊤

  abbrev pub Part : State → Family → ℕ → Type 0
  Part s run most = PartX Some_end Any_refusal s run most

  -- from each state it is such a part
  abbrev pub Good : (State → Ending) → Type 0
  Good f = (s : State) → Part s (λ n. f (at n s)) s.steps

  abbrev pub GoodIn : Doing → Type 0
  GoodIn d = (m : Mode) → Good (d m)

  pub forget : (A : Ends) (B : Refused) (s : State) (run : Family) (most : ℕ) → PartX A B s run most → Part s run most
  forget A B s run most (Signals b t, e, h) = (Signals b t, e, (h.0, h.1, h.2, h.3, h.4, h.5, h.6, h.7, h.8, tt))
  forget A B s run most (Stops fault t, e, h) = (Stops fault t, e, (h.0, h.1, h.2, h.3, tt))

  zero_plus : (n : ℕ) → 0 + n ≡ n
  zero_plus n = omega arith

  -- ---- parts that change no event

  pub here_with : (A : Ends) (B : Refused) (s u : State) (b : Bool) (most : ℕ) → u.events ≡ s.events → u.text ≡ s.text → u.routine ≡ s.routine → A b (at most u) [] → PartX A B s (λ n. Signals b (at n u)) most
  here_with A B s u b most events text routine a =
      (Signals b (at most u), refl, ([], events ∙ add_none s.events, text, routine, (λ i d es. refl), (λ es. tt), 0, sym (zero_plus most), (λ n l. ap (λ x. Signals b (at x u)) (zero_plus n)), a))

  pub stop_with : (A : Ends) (B : Refused) (s u : State) (fault : RunFault) (most : ℕ) → u.events ≡ s.events → B [] → PartX A B s (λ n. Stops fault (at n u)) most
  stop_with A B s u fault most events b = (Stops fault (at most u), refl, ([], events ∙ add_none s.events, (λ i d. refl), tt, b))

  pub here : (s u : State) (b : Bool) (most : ℕ) → u.events ≡ s.events → u.text ≡ s.text → u.routine ≡ s.routine → Part s (λ n. Signals b (at n u)) most
  here s u b most e x r = here_with Some_end Any_refusal s u b most e x r tt

  pub stop : (s u : State) (fault : RunFault) (most : ℕ) → u.events ≡ s.events → Part s (λ n. Stops fault (at n u)) most
  stop s u fault most e = stop_with Some_end Any_refusal s u fault most e tt

  pub signals_good : (b : Bool) → Good (Signals b)
  signals_good b s = here s s b s.steps refl refl refl

  -- one event that begins no search and ends no call
  pub noted_with : (A : Ends) (B : Refused) (s u : State) (b : Bool) (x : Event') (most : ℕ) → ((i d : ℕ) (es : List Event') → within (x ∷ es) i d ≡ within es i d) → ((run : Family) (rest : List Event') → IsOne ⊤ s.events s.text s.routine run most [] x rest)
      → u.events ≡ with_event x s.events → u.text ≡ text_after_one s.text x → u.routine ≡ s.routine → A b (at most u) (x ∷ []) → PartX A B s (λ n. Signals b (at n u)) most
  noted_with A B s u b x most skip one events text routine a =
      (Signals b (at most u), refl, (x ∷ [], events ∙ with_one x s.events, text, routine, skip, (λ es. (one (λ n. Signals b (at n u)) es, tt)), 0, sym (zero_plus most), (λ n l. ap (λ y. Signals b (at y u)) (zero_plus n)), a))

  pub if_part : (A : Ends) (B : Refused) (s : State) (most : ℕ) (b : Bool) (x y : Family) → PartX A B s x most → PartX A B s y most → PartX A B s (λ n. if b then x n else y n) most
  if_part A B s most true x y h i = h
  if_part A B s most false x y h i = i

  pub given_part : (s : State) (most : ℕ) (v : Value) (go : ℤ → Family) → ((z : ℤ) → Part s (go z) most) → Part s (λ n. continue_with v (at n s) (λ z. go z n)) most
  given_part s most (Ok z) go h = h z
  given_part s most (Err fault) go h = stop s s fault most refl

  -- ---- the same with other families

  abbrev SameUpTo : ℕ → Family → Family → Type 0
  SameUpTo most run run' = (n : ℕ) → n ≤ most → run n ≡ run' n

  module _ (E : Type 0) (events : Option (List Event')) (text : List ℕ) (routine : ℕ) (run run' : Family) (most : ℕ) (same : SameUpTo most run run') where
    moment_same : (before : List Event') (i k : ℕ) (m : Mode) (c : ℕ) (rest : List Event') → Moment E events text routine run most before i k m c rest → Moment E events text routine run' most before i k m c rest
    moment_same before i k m c rest h = (
      h.0,
      h.1,
      h.2,
      h.3,
      sym (same h.0 (omega (arith, h.3))) ∙ h.4,
      h.5,
      h.6,
      ap recorded_events (sym (same (suc h.0) h.3)) ∙ h.7,
      h.8,
    )

    each_same : (before ys es : List Event') → Each E events text routine run most before ys es → Each E events text routine run' most before ys es
    each_same before ys es h = each_go E E events events text text routine routine run run' most most [] moment_same before ys es h

  pub part_same : (A : Ends) (B : Refused) (s : State) (run run' : Family) (most : ℕ) → SameUpTo most run run' → PartX A B s run most → PartX A B s run' most
  part_same A B s run run' most same (Signals b t, e, h) = (
    Signals b t,
    sym (same most (omega arith)) ∙ e,
    (
      h.0,
      h.1,
      h.2,
      h.3,
      h.4,
      (λ es. each_same ⊤ s.events s.text s.routine run run' most same [] h.0 es (h.5 es)),
      h.6,
      h.7,
      (λ n l. let inside : h.6 + n ≤ most = omega (arith, h.7, l) in sym (same (h.6 + n) inside) ∙ h.8 n l),
      h.9,
    ),
  )
  part_same A B s run run' most same (Stops fault t, e, h) =
      (Stops fault t, sym (same most (omega arith)) ∙ e, (h.0, h.1, h.2, each_same ⊥ s.events s.text s.routine run run' most same [] h.0 [] h.3, h.4))
