-- Searches, and the among after one, in two ways that are the same unless something that is picked is touched.
use Rattle.std.proofs.Common.{◌≡◌, ℕ, zero, suc, Bool, true, false, List, length, refl, sym, ap, ◌∙◌, subst, inl, inr, Option, Some, None}
use Rattle.std.specs.Prelude.{take, ◌≢◌}
use Rattle.std.proofs.lemmas.Bool.{true≢false}
use Rattle.std.proofs.lemmas.List.{get_or-set_other}
use Rattle.sbl_semantics.specs.Fitting.{ahead_at}
use Rattle.sbl_ast.specs.declared.mode.Mode.{Mode}
use Rattle.sbl_semantics.specs.declared.touch.Touch.{Touch}
use Rattle.sbl_semantics.specs.declared.touch.Touch.TheVariants.{Searched}
use Rattle.sbl_semantics.specs.Meaning.{Offer, takes, try_each}
use Rattle.sbl_semantics.specs.inside.MeaningParts.{offering, condition_does, begins}
use Rattle.sbl_semantics.specs.Control.{with_group, pay_first}
use Rattle.sbl_semantics.specs.Choices.{choice, touch_among}
use Rattle.sbl_semantics.specs.inside.ChoiceParts.{choose}
use Rattle.sbl_semantics.specs.Events.{Event', Finds}
use Rattle.sbl_semantics.specs.State.{note_event, State, bound_of, Ending, Signals, Doing, after, then_on, pay, saved_cursor, put_back, place_after, step_over}
use Rattle.sbl_machine.proofs.Touching.{with_chosen, with_grows, not_then}
use Rattle.sbl_machine.proofs.Stays.{pay_same, back_same, over_same}
use Rattle.sbl_machine.proofs.FramePairs.{Here, dirty, dirty_at, Grown, Within, Kept, Pair, Alike, here_from, grown_after, dirty_after, within_dirty, after_pair, from_pair, same_grown, same_pair, signals_pair, spoiled_pair, chosen_pair, paid_alike}

-- the search of an among, by its number, its strings and the mode of its place
abbrev pub finds : (List ℕ → Doing) → ℕ → List Offer → Mode → Doing
finds call k os r m s =
    let t = touch_among k m s in
    let x = ahead_at r t.text t.cursor (bound_of m t) in
    try_each call k os r m t x (suc (length x)) t

module _ (picked : Touch → Bool) where
  -- ---- one way alone

  module _ (call : List ℕ → Doing) (calls_grown : (n : List ℕ) (m : Mode) (s : State) → Grown picked s (call n m s)) where
    place_grown : (m : Mode) (from : State) (n : ℕ) (s : State) → Grown picked s (place_after m (saved_cursor from) n s)
    place_grown m from n s =
        grown_after picked s (put_back m (saved_cursor from) s) (step_over m n) (Signals false) (same_grown picked s _ (back_same m (saved_cursor from) s)) (λ t. same_grown picked t _ (over_same m n t)) (λ t. same_grown picked t _ refl)

    condition_grown : (o : Option (List ℕ)) (m : Mode) (s : State) → Grown picked s (condition_does call o m s)
    condition_grown None m s = same_grown picked s _ refl
    condition_grown (Some n) m s = grown_after picked s (pay s.steps s) (call n m) (Signals false) (same_grown picked s _ (pay_same s.steps s)) (λ t. calls_grown n m t) (λ t. same_grown picked t _ refl)

    take_grown : (k : ℕ) (o : Option Offer) (m : Mode) (from : State) (go : State → Ending) → ((t : State) → Grown picked t (go t)) → (s : State) → Grown picked s (takes call k o m from s go)
    take_grown k None m from go h s = h s
    take_grown k (Some o) m from go h s =
        grown_after picked s _ _ _ (place_grown m from (length o.string) s)
        (λ a. grown_after picked a _ _ _ (condition_grown o.condition m a)
        (λ b. grown_after picked b _ _ _ (place_grown m from (length o.string) b) (λ c. record { up = λ d. d; here = refl }) (λ c. same_grown picked c _ refl))
        h)
        (λ a. same_grown picked a _ refl)

    tried_grown : (k : ℕ) (os : List Offer) (r m : Mode) (from : State) (x : List ℕ) (l : ℕ) (s : State) → Grown picked s (try_each call k os r m from x l s)
    tried_grown k os r m from x zero s = record { up = λ d. d; here = refl }
    tried_grown k os r m from x (suc l) s = take_grown k (offering r (take l x) os) m from _ (tried_grown k os r m from x l) s

    pub finds_grown : (k : ℕ) (os : List Offer) (r m : Mode) (s : State) → Grown picked s (finds call k os r m s)
    finds_grown k os r m s =
        let t = touch_among k m s in
        let x = ahead_at r t.text t.cursor (bound_of m t) in
        let g = tried_grown k os r m t x (suc (length x)) t in
        record { up = λ d. g.up (with_grows picked (Searched s.routine k) s.touched d); here = g.here }

    -- the search of a picked among
    pub finds_dirty : (i k : ℕ) → picked (Searched i k) ≡ true → (os : List Offer) (r m : Mode) (s : State) → Within picked i s → dirty_at picked (finds call k os r m s) ≡ true
    finds_dirty i k c os r m s w =
        let t = touch_among k m s in
        let x = ahead_at r t.text t.cursor (bound_of m t) in
        (tried_grown k os r m t x (suc (length x)) t).up (with_chosen picked (Searched s.routine k) s.touched (ap (λ n. picked (Searched n k)) w.here ∙ c))

  chosen_grown : (o : Option ℕ) (go : ℕ → State → Ending) → ((g : ℕ) (s : State) → Grown picked s (go g s)) → (s : State) → Grown picked s (with_group o s (λ g. go g s))
  chosen_grown None go h s = same_grown picked s _ refl
  chosen_grown (Some g) go h s = h g s

  begins_grown : (w : Bool) (d b : Doing) (m : Mode) → ((s : State) → Grown picked s (d m s)) → ((s : State) → Grown picked s (b m s)) → (s : State) → Grown picked s (begins w d b m s)
  begins_grown true d b m h k s = same_grown picked s _ refl
  begins_grown false d b m h k s =
      grown_after picked s (pay_first d m s) (b m) (Signals false)
      (grown_after picked s (pay s.steps s) (d m) (Signals false) (same_grown picked s _ (pay_same s.steps s)) h (λ t. same_grown picked t _ refl))
      k (λ t. same_grown picked t _ refl)

  -- an among: what is done before its choice, and what is done with it
  abbrev pub choosing : ℕ → Ending → (ℕ → State → Ending) → Ending
  choosing k e go = after e (λ t. with_group (choice k t) t (λ g. go g t)) (Signals false)

  pub choosing_grown : (k : ℕ) (w : Bool) (d b : Doing) (go : ℕ → State → Ending) (m : Mode) → ((s : State) → Grown picked s (d m s)) → ((s : State) → Grown picked s (b m s)) → ((g : ℕ) (s : State) → Grown picked s (go g s)) → (s : State) → Grown picked s (choosing k (begins w d b m s) go)
  choosing_grown k w d b go m h j l s =
      grown_after picked s (begins w d b m s) (λ t. with_group (choice k t) t (λ g. go g t)) (Signals false) (begins_grown w d b m h j s) (λ t. chosen_grown (choice k t) go l t) (λ t. same_grown picked t _ refl)

  -- ---- in two ways

  module _ (call call' : List ℕ → Doing) (i : ℕ) (calls_alike : (n : List ℕ) → Alike picked i (call n) (call' n)) where
    place_pair : (m : Mode) (from : State) (n : ℕ) → Pair picked i (place_after m (saved_cursor from) n) (place_after m (saved_cursor from) n)
    place_pair m from n =
        after_pair picked i _ _ _ _ _ _ (same_pair picked i (put_back m (saved_cursor from)) (back_same m (saved_cursor from))) (λ s. same_pair picked i (step_over m n) (over_same m n)) (λ s. signals_pair picked i false)

    condition_pair : (o : Option (List ℕ)) (m : Mode) → Pair picked i (condition_does call o m) (condition_does call' o m)
    condition_pair None m = signals_pair picked i true
    condition_pair (Some n) m =
        after_pair picked i (λ s. pay s.steps s) (λ s. pay s.steps s) _ _ _ _ (same_pair picked i _ (λ s. pay_same s.steps s)) (λ s. (calls_alike n).in_mode m) (λ s. signals_pair picked i false)

    choose_grown : (b : Bool) (k : ℕ) (x : Event') (g : Option ℕ) (s : State) → Grown picked s (Signals b (note_event x (choose k g s)))
    choose_grown b k x g s = record { up = λ d. d; here = refl }

    other : (k l : ℕ) → picked (Searched i k) ≡ false → picked (Searched i l) ≡ true → l ≢ k
    other k l n c e = true≢false (sym c ∙ ap (λ x. picked (Searched i x)) e ∙ n)

    choose_pair : (b : Bool) (k : ℕ) (x : Event') (g : Option ℕ) → picked (Searched i k) ≡ false → Pair picked i (λ s. Signals b (note_event x (choose k g s))) (λ s. Signals b (note_event x (choose k g s)))
    choose_pair b k x g n =
        record {
          grown = choose_grown b k x g;
          grown' = choose_grown b k x g;
          at = λ s w. record {
            kin = inl refl;
            within = record { here = w.here; quiet = λ l c clear. get_or-set_other s.choices k l g None (other k l n c) ∙ w.quiet l c clear };
          };
        }

    take_pair : (k : ℕ) → picked (Searched i k) ≡ false → (o : Option Offer) (m : Mode) (from : State) (go go' : State → Ending) → Pair picked i go go' → Pair picked i (λ s. takes call k o m from s go) (λ s. takes call' k o m from s go')
    take_pair k n None m from go go' h = h
    take_pair k n (Some o) m from go go' h =
        after_pair picked i _ _ _ _ _ _ (place_pair m from (length o.string))
        (λ s. after_pair picked i _ _ _ _ _ _ (condition_pair o.condition m)
        (λ a. after_pair picked i _ _ _ _ _ _ (place_pair m from (length o.string)) (λ b. choose_pair true k (Finds k (Some (length o.string))) (Some o.group) n) (λ b. signals_pair picked i false))
        (λ a. h))
        (λ s. signals_pair picked i false)

    tried_pair : (k : ℕ) → picked (Searched i k) ≡ false → (os : List Offer) (r m : Mode) (from : State) (x : List ℕ) (l : ℕ) → Pair picked i (try_each call k os r m from x l) (try_each call' k os r m from x l)
    tried_pair k n os r m from x zero = choose_pair false k (Finds k None) None n
    tried_pair k n os r m from x (suc l) = take_pair k n (offering r (take l x) os) m from _ _ (tried_pair k n os r m from x l)

    searched_pair : (k : ℕ) (m : Mode) (f f' : State → Ending) → Pair picked i f f' → Pair picked i (λ s. f (touch_among k m s)) (λ s. f' (touch_among k m s))
    searched_pair k m f f' h =
        let grows = λ (s : State). with_grows picked (Searched s.routine k) s.touched in
        record {
          grown = λ s. record { up = λ d. (h.grown (touch_among k m s)).up (grows s d); here = (h.grown (touch_among k m s)).here };
          grown' = λ s. record { up = λ d. (h.grown' (touch_among k m s)).up (grows s d); here = (h.grown' (touch_among k m s)).here };
          at = λ s w. h.at (touch_among k m s) (record { here = w.here; quiet = λ l c clear. w.quiet l c (not_then _ _ (grows s) clear) });
        }

    grown_call : (n : List ℕ) (m : Mode) (s : State) → Grown picked s (call n m s)
    grown_call n m s = ((calls_alike n).in_mode m).grown s

    pub grown_call' : (n : List ℕ) (m : Mode) (s : State) → Grown picked s (call' n m s)
    grown_call' n m s = ((calls_alike n).in_mode m).grown' s

    -- the search of an among that is not picked
    pub finds_alike : (k : ℕ) → picked (Searched i k) ≡ false → (os : List Offer) (r : Mode) → Alike picked i (finds call k os r) (finds call' k os r)
    finds_alike k n os r =
        record {
          in_mode = λ m.
              searched_pair k m
              (λ t. try_each call k os r m t (ahead_at r t.text t.cursor (bound_of m t)) (suc (length (ahead_at r t.text t.cursor (bound_of m t)))) t)
              (λ t. try_each call' k os r m t (ahead_at r t.text t.cursor (bound_of m t)) (suc (length (ahead_at r t.text t.cursor (bound_of m t)))) t)
              (from_pair picked i (λ s. s)
              (λ x s. try_each call k os r m x (ahead_at r x.text x.cursor (bound_of m x)) (suc (length (ahead_at r x.text x.cursor (bound_of m x)))) s)
              (λ x s. try_each call' k os r m x (ahead_at r x.text x.cursor (bound_of m x)) (suc (length (ahead_at r x.text x.cursor (bound_of m x)))) s)
              (λ x. tried_pair k n os r m x (ahead_at r x.text x.cursor (bound_of m x)) (suc (length (ahead_at r x.text x.cursor (bound_of m x))))));
        }

    -- that of one that is
    pub finds_spoiled : (k : ℕ) → picked (Searched i k) ≡ true → (os os' : List Offer) (r r' : Mode) → Alike picked i (finds call k os r) (finds call' k os' r')
    finds_spoiled k c os os' r r' =
        record {
          in_mode = λ m.
              spoiled_pair picked i _ _ (finds_grown call grown_call k os r m) (finds_grown call' grown_call' k os' r' m)
              (finds_dirty call grown_call i k c os r m) (finds_dirty call' grown_call' i k c os' r' m);
        }

    -- ---- amongs

    begins_pair : (w : Bool) (d d' b b' : Doing) → Alike picked i d d' → Alike picked i b b' → (m : Mode) → Pair picked i (begins w d b m) (begins w d' b' m)
    begins_pair true d d' b b' h k m = signals_pair picked i true
    begins_pair false d d' b b' h k m = after_pair picked i _ _ _ _ _ _ ((paid_alike picked i d d' h).in_mode m) (λ s. k.in_mode m) (λ s. signals_pair picked i false)

    -- one that is not picked
    pub choosing_pair : (k : ℕ) (w : Bool) (d d' b b' : Doing) (go go' : ℕ → State → Ending) (m : Mode) → Alike picked i d d' → Alike picked i b b' → ((g : ℕ) → Pair picked i (go g) (go' g)) → Pair picked i (λ s. choosing k (begins w d b m s) go) (λ s. choosing k (begins w d' b' m s) go')
    choosing_pair k w d d' b b' go go' m h j l =
        after_pair picked i _ _ _ _ _ _ (begins_pair w d d' b b' h j m)
        (λ s. from_pair picked i (choice k) _ _ (λ o. chosen_pair picked i o go go' l))
        (λ s. signals_pair picked i false)

    quiet_kept : (k : ℕ) → picked (Searched i k) ≡ true → (go go' : ℕ → State → Ending) → ((g : ℕ) (s : State) → Grown picked s (go g s)) → ((g : ℕ) (s : State) → Grown picked s (go' g s)) → (s : State) → Within picked i s → (b : Bool) → dirty picked s ≡ b
        → Kept picked i (with_group (choice k s) s (λ g. go g s)) (with_group (choice k s) s (λ g. go' g s))
    quiet_kept k c go go' h h' s w true d =
        let g = chosen_grown (choice k s) go h s in
        let g' = chosen_grown (choice k s) go' h' s in
        record { kin = inr (g.up d, g'.up d); within = within_dirty picked i _ (here_from picked i s.routine _ w.here g.here) (g.up d) }
    quiet_kept k c go go' h h' s w false d =
        subst (λ o. Kept picked i (with_group o s (λ g. go g s)) (with_group o s (λ g. go' g s))) (sym (w.quiet k c d)) (record { kin = inl refl; within = w })

    quiet_pair : (k : ℕ) → picked (Searched i k) ≡ true → (go go' : ℕ → State → Ending) → ((g : ℕ) (s : State) → Grown picked s (go g s)) → ((g : ℕ) (s : State) → Grown picked s (go' g s)) → Pair picked i (λ s. with_group (choice k s) s (λ g. go g s)) (λ s. with_group (choice k s) s (λ g. go' g s))
    quiet_pair k c go go' h h' =
        record {
          grown = λ s. chosen_grown (choice k s) go h s;
          grown' = λ s. chosen_grown (choice k s) go' h' s;
          at = λ s w. quiet_kept k c go go' h h' s w _ refl;
        }

    -- if something that is picked is touched in the search, it is also after the choice
    after_dirty : (k : ℕ) (b : Doing) (go : ℕ → State → Ending) (m : Mode) → ((s : State) → Grown picked s (b m s)) → ((g : ℕ) (s : State) → Grown picked s (go g s)) → (e : Ending) → dirty_at picked e ≡ true → dirty_at picked (choosing k (after e (b m) (Signals false)) go) ≡ true
    after_dirty k b go m h l e d =
        dirty_after picked (after e (b m) (Signals false)) (λ t. with_group (choice k t) t (λ g. go g t)) (Signals false)
        (dirty_after picked e (b m) (Signals false) d h (λ t. same_grown picked t _ refl)) (λ t. chosen_grown (choice k t) go l t) (λ t. same_grown picked t _ refl)

    -- one that is picked, with anything in it
    module _ (k : ℕ) (c : picked (Searched i k) ≡ true) (os os' : List Offer) (r r' : Mode) (b b' : Doing) (go go' : ℕ → State → Ending) (m : Mode)
        (h : (s : State) → Grown picked s (b m s)) (h' : (s : State) → Grown picked s (b' m s)) (l : (g : ℕ) (s : State) → Grown picked s (go g s)) (l' : (g : ℕ) (s : State) → Grown picked s (go' g s)) where
      paid_kept : (n : ℕ) (s : State) → Within picked i s → Here s.routine (choosing k (after (then_on (pay n s) (finds call k os r m)) (b m) (Signals false)) go)
          → Kept picked i (choosing k (after (then_on (pay n s) (finds call k os r m)) (b m) (Signals false)) go) (choosing k (after (then_on (pay n s) (finds call' k os' r' m)) (b' m) (Signals false)) go')
      paid_kept zero s w here = record { kin = inl refl; within = tt }
      paid_kept (suc n) s w here =
          let t = record s { steps = n } in
          let v : Within picked i t = record { here = w.here; quiet = w.quiet } in
          let d = after_dirty k b go m h l (finds call k os r m t) (finds_dirty call grown_call i k c os r m t v) in
          let d' = after_dirty k b' go' m h' l' (finds call' k os' r' m t) (finds_dirty call' grown_call' i k c os' r' m t v) in
          record { kin = inr (d, d'); within = within_dirty picked i _ (here_from picked i s.routine _ w.here here) d }

      pub hole_pair : (w : Bool) → Pair picked i (λ s. choosing k (begins w (finds call k os r) b m s) go) (λ s. choosing k (begins w (finds call' k os' r') b' m s) go')
      hole_pair true = quiet_pair k c go go' l l'
      hole_pair false =
          let begun = choosing_grown k false (finds call k os r) b go m (finds_grown call grown_call k os r m) h l in
          record {
            grown = begun;
            grown' = choosing_grown k false (finds call' k os' r') b' go' m (finds_grown call' grown_call' k os' r' m) h' l';
            at = λ s w. paid_kept s.steps s w (begun s).here;
          }
