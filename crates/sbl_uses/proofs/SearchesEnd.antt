-- A search takes the first of the strings that fit, if each call does what a call does; it is such a part of a run.
use Rattle.std.proofs.Common.{◌≡◌, ℕ, zero, suc, ◌+◌, Bool, true, false, List, [], ◌∷◌, ◌++◌, length, map, Option, Some, None, refl, sym, ap, subst, ◌∙◌, append_assoc, append-nil, arith}
use Rattle.std.specs.Prelude.{⊤, ◌&&◌, cond, if◌then◌else◌, nat_eq, nat_lt, take, slice_index_or, slice_set}
use Rattle.std.specs.List.{list_all, position_or_len}
use Rattle.std.specs.Cmp.Lexicographic.{pointwise}
use Rattle.std.proofs.lemmas.Bool.{lt-ltb, true≢false}
use Rattle.std.proofs.lemmas.Grind.{flat_map-append}
use Rattle.std.proofs.lemmas.List.Recursion.{is_position_or_len}
use Rattle.sbl_semantics.specs.inside.MeaningParts as parts
use Rattle.sbl_semantics.specs.Meaning.{Offer, offers, search, takes, try_each}
use Rattle.sbl_semantics.specs.inside.MeaningParts.{offering}
use Rattle.sbl_semantics.specs.Items.{Body, DeclaredNames}
use Rattle.sbl_semantics.specs.Landmarks.{Among}
use Rattle.sbl_compiler.proofs.SoundItems.{less_suc}
use Rattle.sbl_semantics.specs.Events.{Event', Searches, Finds}
use Rattle.sbl_semantics.specs.Choices.{take_none, take_string, touch_among}
use Rattle.sbl_semantics.specs.declared.cursor.SavedCursor.{SavedCursor}
use Rattle.sbl_semantics.specs.State.{State, Ending, Signals, Stops, Doing, after, bound_of, pay, place_after, saved_cursor, then_on}
use Rattle.sbl_semantics.specs.Fitting.{ahead_at, below, fitting, onto, read_all, read_as}
use Rattle.sbl_ast.specs.declared.mode.Mode.{Mode}
use Rattle.sbl_uses.specs.TreeAmongs.{HasAmong}
use Rattle.sbl_uses.specs.Searches.{Call, Course, EndsBy, EndsWith, TakesFirst, condition_calls, course, fits, is_conditional, no_offer, refusals, call_of, string_of, with_calls}
use Rattle.std.proofs.Math.Path.{fun_ext}
use Rattle.sbl_semantics.specs.declared.fault.RunFault.TheVariants as faults
use Rattle.sbl_semantics.specs.Control.{pay_first}
use Rattle.sbl_ast.specs.declared.mode.Mode.TheVariants.{Forward, Backward}
use Rattle.sbl_uses.proofs.RunParts.{Each, Ends, Family, Moment, Part, PartBy, PartX, Refused, add, add_add, add_none, at, noted_with, part_same, recorded_events, signals_good, with_one}
use Rattle.sbl_uses.proofs.Onward.{Grows, added_by, after_x, each_shifts, good_grows, grows_by, paid_x}
use Rattle.sbl_uses.proofs.Commands.{Placed, Unended, conv, place_after_x}

-- ---- the entries that fit, one length after another

abbrev nth : List Offer → ℕ → Offer
nth os i = slice_index_or os i no_offer

-- the entries whose strings have fewer than l characters and are a prefix of x
abbrev fit_below : Mode → List Offer → List ℕ → ℕ → List Offer
fit_below r os x l = map (nth os) (below (read_all r (map string_of os)) x l)

abbrev with_offer : Option Offer → List Offer → List Offer
with_offer None os = os
with_offer (Some o) os = o ∷ os

abbrev nth_of : List Offer → Option ℕ → Option Offer
nth_of os None = None
nth_of os (Some i) = Some (nth os i)

onto_nth : (os : List Offer) (p : Option ℕ) (is : List ℕ) → map (nth os) (onto p is) ≡ with_offer (nth_of os p) (map (nth os) is)
onto_nth os None is = refl
onto_nth os (Some i) is = refl

-- the place of the first that passes
first_place : (List ℕ → Bool) → List (List ℕ) → ℕ
first_place p [] = 0
first_place p (x ∷ xs) = cond (p x) 0 (suc (first_place p xs))

one_further : (b : Bool) (n : ℕ) → cond b 0 (suc n) ≡ cond b 0 (1 + n)
one_further true n = refl
one_further false n = omega arith

first_is : (p : List ℕ → Bool) (xs : List (List ℕ)) → first_place p xs ≡ position_or_len p xs
unfolding first_place
first_is p xs = is_position_or_len (first_place p) p refl (λ x xs. one_further (p x) (first_place p xs)) xs

abbrev at_place : ℕ → ℕ → Option ℕ
at_place n l = cond (nat_lt n l) (Some n) None

one_on : (o : Offer) (os : List Offer) (n : ℕ) (t : Bool) → nth_of (o ∷ os) (cond t (Some (suc n)) None) ≡ nth_of os (cond t (Some n) None)
one_on o os n true = refl
one_on o os n false = refl

nth_step : (b : Bool) (o : Offer) (os : List Offer) (n l : ℕ) (x : Option Offer) → nth_of os (at_place n l) ≡ x → nth_of (o ∷ os) (at_place (cond b 0 (suc n)) (suc l)) ≡ (if b then Some o else x)
nth_step true o os n l x h = ap (λ t. nth_of (o ∷ os) (cond t (Some 0) None)) (lt-ltb 0 (suc l) (omega arith))
nth_step false o os n l x h = ap (λ t. nth_of (o ∷ os) (cond t (Some (suc n)) None)) (less_suc n l (nat_lt n l) refl) ∙ one_on o os n (nat_lt n l) ∙ h

abbrev strings : Mode → List Offer → List (List ℕ)
strings r os = read_all r (map string_of os)

nth_first : (r : Mode) (w : List ℕ) (os : List Offer) → nth_of os (at_place (first_place (pointwise nat_eq w) (strings r os)) (length (strings r os))) ≡ offering r w os
unfolding first_place
nth_first r w [] = refl
nth_first r w (o ∷ os) = nth_step (pointwise nat_eq w (read_as r o.string)) o os _ (length (strings r os)) _ (nth_first r w os)

fit_step : (r : Mode) (os : List Offer) (x : List ℕ) (l : ℕ) → fit_below r os x (suc l) ≡ with_offer (offering r (take l x) os) (fit_below r os x l)
fit_step r os x l =
    let p = pointwise nat_eq (take l x) in
    onto_nth os (at_place (position_or_len p (strings r os)) (length (strings r os))) (below (strings r os) x l)
    ∙ ap (λ n. with_offer (nth_of os (at_place n (length (strings r os)))) (fit_below r os x l)) (sym (first_is p (strings r os)))
    ∙ ap (λ o. with_offer o (fit_below r os x l)) (nth_first r (take l x) os)

with_both : (cs ds : List Call) (c : Course) → with_calls cs (with_calls ds c) ≡ with_calls (cs ++ ds) c
with_both cs ds c = ap (λ es. record { calls = es; end = c.end }) (sym (append_assoc cs ds c.calls))

and_both : (a b c : Bool) → (a && b) ≡ true → (b ≡ true → c ≡ true) → (a && c) ≡ true
and_both true b c h f = f h
and_both false b c h f = h

module _ (ns : DeclaredNames) (bodies : List ℕ → Option Body) (r : ℕ) where
  all_both : (os : List Offer) (o : Offer) → list_all (λ x. is_conditional x.condition) os ≡ true → is_conditional o.condition ≡ true → list_all (λ x. is_conditional x.condition) (os ++ (o ∷ [])) ≡ true
  all_both [] o h k = ap (λ b. b && true) k
  all_both (x ∷ os) o h k = and_both (is_conditional x.condition) _ _ h (λ i. all_both os o i k)

  refused_more : (os : List Offer) (o : Offer) → refusals ns bodies (os ++ (o ∷ [])) ≡ refusals ns bodies os ++ condition_calls ns bodies false o.condition
  refused_more os o = flat_map-append (λ x. condition_calls ns bodies false x.condition) os (o ∷ []) ∙ ap (λ cs. refusals ns bodies os ++ cs) (append-nil (condition_calls ns bodies false o.condition))

  -- what a call of a condition does: with its events the search has one call more
  abbrev pub Called : List ℕ → State → Ends ns bodies r
  Called n s b t ys = (t.choices ≡ s.choices) × ((es : List Event') → course (ys ++ es) ≡ with_calls (call_of ns bodies n b (bodies n)) (course es))

  abbrev pub CallsAre : (List ℕ → Doing) → Type 0
  CallsAre call = (n : List ℕ) (m : Mode) (s : State) → PartX ns bodies r (Called n s) (Unended ns bodies r) s (λ k. call n m (at k s)) s.steps

  module _ (call : List ℕ → Doing) (calls : CallsAre call) (choices : List (Option ℕ)) (k : ℕ) (os : List Offer) where
    abbrev Stuck : Refused ns bodies r
    Stuck = Unended ns bodies r

    -- how the search ends, if it has made these calls before
    abbrev pub Found : List Call → State → Ends ns bodies r
    Found cs t b u ys = t.choices ≡ choices → (es : List Event') → EndsWith ns bodies k choices os (with_calls cs (course (ys ++ es))) (Signals b u)

    abbrev pub Finds_by : List Call → (State → Ending) → Type 0
    Finds_by cs f = (t : State) → PartX ns bodies r (Found cs t) Stuck t (λ n. f (at n t)) t.steps

    grow : (cs : List Call) (f : State → Ending) → Finds_by cs f → Grows ns bodies r f
    grow cs f h = grows_by ns bodies r (Found cs) Stuck f h

    grow_none : (b : Bool) → Grows ns bodies r (Signals b)
    grow_none b = good_grows ns bodies r (Signals b) (signals_good ns bodies r b)

    -- none is taken
    none_good : (passed : List Offer) → os ≡ passed → list_all (λ o. is_conditional o.condition) passed ≡ true → Finds_by (refusals ns bodies passed) (λ t. Signals false (take_none k t))
    none_good passed same c t =
        noted_with ns bodies r (Found (refusals ns bodies passed) t) Stuck t (take_none k t) false (Finds k None) t.steps (λ i d es. refl) (λ run rest. tt) refl refl refl
        (λ h es. (
          refl,
          record { conditional = ap (list_all (λ o. is_conditional o.condition)) same ∙ c; calls_are = append-nil (refusals ns bodies passed) ∙ ap (refusals ns bodies) (sym same) },
          ap (λ x. slice_set x k None) h,
        ))

    -- one is taken
    one_good : (passed : List Offer) (o : Offer) (others : List Offer) → os ≡ passed ++ (o ∷ others) → list_all (λ x. is_conditional x.condition) passed ≡ true
        → Finds_by (refusals ns bodies passed ++ condition_calls ns bodies true o.condition) (λ t. Signals true (take_string k (length o.string) o.group t))
    one_good passed o others split c t =
        let cs = refusals ns bodies passed ++ condition_calls ns bodies true o.condition in
        noted_with ns bodies r (Found cs t) Stuck t (take_string k (length o.string) o.group t) true (Finds k (Some (length o.string))) t.steps (λ i d es. refl) (λ run rest. tt) refl refl refl
        (λ h es. (
          length o.string,
          refl,
          record { before = passed; entry = o; rest = others; split = split; length_is = refl; conditional = c; calls_are = append-nil cs },
          ap (λ x. slice_set x k (Some o.group)) h,
        ))

    -- the cursor moves, and the search goes on
    placed_then : (cs : List Call) (f : State → Ending) → Finds_by cs f → (m : Mode) (from : SavedCursor) (i : ℕ) → Finds_by cs (λ t. then_on (place_after m from i t) f)
    placed_then cs f good m from i t =
        after_x ns bodies r (Placed ns bodies r t) Stuck (Found cs t) Stuck t (λ n. place_after m from i (at n t)) t.steps f (Signals false) (grow cs f good) (grow_none false)
        (λ u ys h.
        conv ns bodies r (Found cs u) (λ c v zs. Found cs t c v (ys ++ zs)) Stuck (λ zs. Stuck (ys ++ zs)) u (λ n. f (at n u)) u.steps
        (λ c v zs q e es. subst (λ x. EndsWith ns bodies k choices os (with_calls cs x) (Signals c v)) (sym (ap course (append_assoc ys zs es) ∙ h.2 (zs ++ es))) (q (h.1 ∙ e) es))
        (λ zs q. ap (λ c. c.end) (h.2 zs) ∙ q) (good u))
        (λ u ys h. absurd (true≢false (sym h.0))) (λ ys b. b) (place_after_x ns bodies r m from i t)

    -- a condition is called, and the search goes on
    module _ (cs : List Call) (n : List ℕ) (a : State) where
      call_on : (b : Bool) (f : State → Ending) → Finds_by (cs ++ call_of ns bodies n b (bodies n)) f → (u : State) (ys : List Event') → Called n a b u ys
          → PartX ns bodies r (λ c v zs. Found cs a c v (ys ++ zs)) (λ zs. Stuck (ys ++ zs)) u (λ j. f (at j u)) u.steps
      call_on b f good u ys h =
          let cs' = call_of ns bodies n b (bodies n) in
          conv ns bodies r (Found (cs ++ cs') u) (λ c v zs. Found cs a c v (ys ++ zs)) Stuck (λ zs. Stuck (ys ++ zs)) u (λ j. f (at j u)) u.steps
          (λ c v zs q e es.
          subst (λ x. EndsWith ns bodies k choices os x (Signals c v)) (sym (ap (λ x. with_calls cs (course x)) (append_assoc ys zs es) ∙ ap (with_calls cs) (h.1 (zs ++ es)) ∙ with_both cs cs' (course (zs ++ es)))) (q (h.0 ∙ e) es))
          (λ zs q. ap (λ c. c.end) (h.1 zs) ∙ q) (good u)

    called_then : (cs : List Call) (n : List ℕ) (f g : State → Ending) → Finds_by (cs ++ call_of ns bodies n true (bodies n)) f → Finds_by (cs ++ call_of ns bodies n false (bodies n)) g → (m : Mode) → Finds_by cs (λ a. after (pay_first (call n) m a) f g)
    called_then cs n f g on_t on_f m a =
        after_x ns bodies r (Called n a) Stuck (Found cs a) Stuck a (λ j. pay_first (call n) m (at j a)) a.steps f g
        (grow (cs ++ call_of ns bodies n true (bodies n)) f on_t) (grow (cs ++ call_of ns bodies n false (bodies n)) g on_f)
        (call_on cs n a true f on_t) (call_on cs n a false g on_f) (λ ys b. b) (paid_x ns bodies r (Called n a) Stuck a (call n m) (λ c. calls n m (at c a)) refl a.steps)

    -- one entry is tried
    module _ (passed : List Offer) (o : Offer) (others : List Offer) (split : os ≡ passed ++ (o ∷ others)) (c : list_all (λ x. is_conditional x.condition) passed ≡ true) (m : Mode) (from : State) (next : State → Ending)
        (go : is_conditional o.condition ≡ true → Finds_by (refusals ns bodies (passed ++ (o ∷ []))) next) where
      abbrev takes_it : State → Ending
      takes_it b = then_on (place_after m (saved_cursor from) (length o.string) b) (λ t. Signals true (take_string k (length o.string) o.group t))

      string_taken : Finds_by (refusals ns bodies passed ++ condition_calls ns bodies true o.condition) takes_it
      string_taken =
          placed_then (refusals ns bodies passed ++ condition_calls ns bodies true o.condition) (λ t. Signals true (take_string k (length o.string) o.group t)) (one_good passed o others split c) m (saved_cursor from) (length o.string)

      condition_finds : (x : Option (List ℕ)) → o.condition ≡ x → Finds_by (refusals ns bodies passed) (λ a. after (parts.condition_does call x m a) takes_it next)
      condition_finds None e =
          subst (λ cs. Finds_by cs takes_it) (ap (λ x. refusals ns bodies passed ++ condition_calls ns bodies true x) e ∙ append-nil (refusals ns bodies passed)) string_taken
      condition_finds (Some n) e =
          let more : refusals ns bodies (passed ++ (o ∷ [])) ≡ refusals ns bodies passed ++ condition_calls ns bodies false (Some n) =
          refused_more passed o ∙ ap (λ x. refusals ns bodies passed ++ condition_calls ns bodies false x) e in
          called_then (refusals ns bodies passed) n takes_it next (subst (λ x. Finds_by (refusals ns bodies passed ++ condition_calls ns bodies true x) takes_it) e string_taken)
          (subst (λ cs. Finds_by cs next) more (go (ap is_conditional e))) m

      one_tried : Finds_by (refusals ns bodies passed) (λ t. takes call k (Some o) m from t next)
      one_tried = placed_then (refusals ns bodies passed) (λ a. after (parts.condition_does call o.condition m a) takes_it next) (condition_finds o.condition refl) m (saved_cursor from) (length o.string)

    -- the entries that fit, one length after another
    module _ (offers : List Offer) (w m : Mode) (from : State) (x : List ℕ) where
      abbrev Tries : ℕ → Type 0
      Tries l = (passed : List Offer) → os ≡ passed ++ fit_below w offers x l → list_all (λ y. is_conditional y.condition) passed ≡ true → Finds_by (refusals ns bodies passed) (try_each call k offers w m from x l)

      tries_one : (l : ℕ) → Tries l → (o : Option Offer) (passed : List Offer) → os ≡ passed ++ with_offer o (fit_below w offers x l) → list_all (λ y. is_conditional y.condition) passed ≡ true
          → Finds_by (refusals ns bodies passed) (λ t. takes call k o m from t (try_each call k offers w m from x l))
      tries_one l go None passed split c = go passed split c
      tries_one l go (Some o) passed split c =
          one_tried passed o (fit_below w offers x l) split c m from (try_each call k offers w m from x l)
          (λ d. go (passed ++ (o ∷ [])) (split ∙ sym (append_assoc passed (o ∷ []) (fit_below w offers x l))) (all_both passed o c d))

      pub tries_all : (l : ℕ) → Tries l
      tries_all zero passed split c = none_good passed (split ∙ append-nil passed) c
      tries_all (suc l) passed split c = tries_one l (tries_all l) (offering w (take l x) offers) passed (split ∙ ap (λ os. passed ++ os) (fit_step w offers x l)) c

  -- ---- a search of an among from a state

  module _ (call : List ℕ → Doing) (calls : CallsAre call) (a : Among) (m : Mode) (s : State) where
    -- of the state in which a search began only its cursor counts
    take_same : (i : ℕ) (o : Option Offer) (m : Mode) (from : State) (n : ℕ) (next next' : State → Ending) (t : State) → next ≡ next' → takes call i o m (at n from) t next ≡ takes call i o m from t next'
    take_same i None m from n next next' t e = ap (λ f. f t) e
    take_same i (Some o) m from n next next' t e = ap (takes call i (Some o) m from t) e

    tried_same : (i : ℕ) (os : List Offer) (w m : Mode) (from : State) (n : ℕ) (x : List ℕ) (l : ℕ) (t : State) → try_each call i os w m (at n from) x l t ≡ try_each call i os w m from x l t
    tried_same i os w m from n x zero t = refl
    tried_same i os w m from n x (suc l) t = take_same i (offering w (take l x) os) m from n _ _ t (fun_ext (tried_same i os w m from n x l))

    abbrev pub after_touch : State
    after_touch = touch_among a.number m s

    bound_same : (m : Mode) (n : ℕ) → bound_of m (touch_among a.number m (at n s)) ≡ bound_of m s
    bound_same Forward n = refl
    bound_same Backward n = refl

    pub bound_at : (m : Mode) (n : ℕ) → bound_of m (at n s) ≡ bound_of m s
    bound_at Forward n = refl
    bound_at Backward n = refl

    abbrev pub text_ahead : List ℕ
    text_ahead = ahead_at a.mode s.text s.cursor (bound_of m s)

    abbrev trying : List ℕ → State → ℕ → Ending
    trying x from n = try_each call a.number (offers 0 a.groups) a.mode m from x (suc (length x)) (at n after_touch)

    search_at : (n : ℕ) → trying text_ahead after_touch n ≡ search call a m (at n s)
    search_at n =
        sym (tried_same a.number (offers 0 a.groups) a.mode m after_touch n text_ahead (suc (length text_ahead)) (at n after_touch))
        ∙ ap (λ b. trying (ahead_at a.mode s.text s.cursor b) (at n after_touch) n) (sym (bound_same m n))

    abbrev pub FoundHere : Ends ns bodies r
    FoundHere b u ys = (es : List Event') → EndsWith ns bodies a.number s.choices (fits a text_ahead) (course (ys ++ es)) (Signals b u)

    -- what it adds after its first event
    pub search_found : (most : ℕ) → PartX ns bodies r FoundHere (Unended ns bodies r) after_touch (λ n. search call a m (at n s)) most
    unfolding fitting
    search_found most =
        let found = tries_all call calls s.choices a.number (fits a text_ahead) (offers 0 a.groups) a.mode m after_touch text_ahead (suc (length text_ahead)) [] refl refl (at most after_touch) in
        part_same ns bodies r FoundHere (Unended ns bodies r) after_touch (trying text_ahead after_touch) (λ n. search call a m (at n s)) most (λ n l. search_at n)
        (conv ns bodies r (Found call calls s.choices a.number (fits a text_ahead) [] (at most after_touch)) FoundHere (Unended ns bodies r) (Unended ns bodies r) (at most after_touch) (trying text_ahead after_touch) most (λ b u ys q es. q refl es) (λ ys q. q) found)

    ends_by : (c : Course) (e : Ending) → EndsWith ns bodies a.number s.choices (fits a text_ahead) c e → EndsBy ns bodies a.number (fits a text_ahead) c.calls c.end
    ends_by c (Signals true t) h = subst (EndsBy ns bodies a.number (fits a text_ahead) c.calls) (sym h.1) (refl, h.2)
    ends_by c (Signals false t) h = subst (EndsBy ns bodies a.number (fits a text_ahead) c.calls) (sym h.0) (refl, h.1)
    ends_by c (Stops fault t) h = subst (EndsBy ns bodies a.number (fits a text_ahead) c.calls) (sym h) tt

    end_event : (c : Course) (b : Bool) (t : State) → EndsWith ns bodies a.number s.choices (fits a text_ahead) c (Signals b t) → (y : Event') × (c.end ≡ Some y)
    end_event c true t h = (Finds a.number (Some h.0), h.1)
    end_event c false t h = (Finds a.number None, h.0)

    abbrev x : Event'
    x = Searches s.routine a.number m s.cursor

    abbrev paying : Family
    paying n = then_on (pay n (at n s)) (search call a m)

    module _ (has : s.routine ≡ r → HasAmong ns bodies s.routine a) (c : ℕ) where
      one_less : (n : ℕ) → paying (1 + n) ≡ search call a m (at n s)
      one_less n = let e : suc n ≡ 1 + n = omega arith in subst (λ y. paying y ≡ search call a m (at n s)) e refl

      first_here : (E : Type 0) (rest : List Event') → EndsBy ns bodies a.number (fits a text_ahead) (course rest).calls (course rest).end → (E → (y : Event') × ((course rest).end ≡ Some y)) → Moment ns bodies r E s.events s.text s.routine paying (suc c) [] s.routine a.number m s.cursor rest
      first_here E rest h end =
          let later = added_by ns bodies r FoundHere (Unended ns bodies r) after_touch (λ n. search call a m (at n s)) 0 (search_found 0) in
          let begins : recorded_events (paying 1) ≡ add (x ∷ later.0) s.events = later.1 ∙ ap (add later.0) (with_one x s.events) ∙ add_add (x ∷ []) later.0 s.events in (
            0,
            at 0 s,
            later.0,
            omega arith,
            refl,
            add_none s.events,
            refl,
            begins,
            (refl, refl, a, has, refl, subst (λ b. TakesFirst ns bodies a s.text s.cursor b rest) (sym (bound_at m 0)) h, end),
          )

      others_here : (E : Type 0) (ys es : List Event') → Each ns bodies r E after_touch.events after_touch.text after_touch.routine (λ n. search call a m (at n s)) c [] ys es → Each ns bodies r E s.events s.text s.routine paying (suc c) (x ∷ []) ys es
      others_here E ys es h = each_shifts ns bodies r E s.events after_touch.events s.text after_touch.text s.routine after_touch.routine (x ∷ []) (with_one x s.events) refl refl paying (λ n. search call a m (at n s)) (suc c) c 1 (omega arith) (λ n l. one_less n) ys es h

      search_part : PartX ns bodies r FoundHere (Unended ns bodies r) after_touch (λ n. search call a m (at n s)) c → Part ns bodies r s paying (suc c)
      search_part (Signals b t, e, h) = (
        Signals b t,
        e,
        (
          x ∷ h.0,
          h.1 ∙ ap (add h.0) (with_one x s.events) ∙ add_add (x ∷ []) h.0 s.events,
          h.2,
          h.3,
          (λ i d es. h.4 i d es),
          (λ es. (first_here ⊤ (h.0 ++ es) (ends_by (course (h.0 ++ es)) (Signals b t) (h.9 es)) (λ z. end_event (course (h.0 ++ es)) b t (h.9 es)), others_here ⊤ h.0 es (h.5 es))),
          1 + h.6,
          (omega (arith, h.7)),
          (λ n l.
              let sum : 1 + h.6 + n ≡ 1 + (h.6 + n) = omega arith in
              ap paying sum ∙ one_less (h.6 + n) ∙ h.8 n l),
          tt,
        ),
      )
      search_part (Stops fault t, e, h) = (
        Stops fault t,
        e,
        (
          x ∷ h.0,
          h.1 ∙ ap (add h.0) (with_one x s.events) ∙ add_add (x ∷ []) h.0 s.events,
          (λ i d. h.2 i d),
          (first_here ⊥ (h.0 ++ []) (ends_by (course (h.0 ++ [])) (Stops fault t) (ap (λ ys. (course ys).end) (append-nil h.0) ∙ h.4)) (λ z. absurd z), others_here ⊥ h.0 [] h.3),
          tt,
        ),
      )

    pub search_paid : (s.routine ≡ r → HasAmong ns bodies s.routine a) → (most : ℕ) → Part ns bodies r s paying most
    search_paid has zero = (Stops faults.Steps (at 0 s), refl, ([], add_none s.events, (λ i d. refl), tt, tt))
    search_paid has (suc c) = search_part has c (search_found c)

    -- ---- the search alone

    pub first_in : (e : Ending) (run : Family) (most : ℕ) → PartBy ns bodies r FoundHere (Unended ns bodies r) after_touch.events after_touch.text after_touch.routine run most e
        → (rest : List Event') × (recorded_events e ≡ add (x ∷ rest) s.events) × EndsWith ns bodies a.number s.choices (fits a text_ahead) (course rest) e
    first_in (Signals b t) run most h =
        (h.0, h.1 ∙ ap (add h.0) (with_one x s.events) ∙ add_add (x ∷ []) h.0 s.events, subst (λ ys. EndsWith ns bodies a.number s.choices (fits a text_ahead) (course ys) (Signals b t)) (append-nil h.0) (h.9 []))
    first_in (Stops fault t) run most h = (h.0, h.1 ∙ ap (add h.0) (with_one x s.events) ∙ add_add (x ∷ []) h.0 s.events, h.4)
