-- Two ways of doing a thing that are the same unless something that is picked is touched.
use Rattle.std.proofs.Common.{◌≡◌, ℕ, ℤ, zero, suc, Bool, true, false, [], refl, sym, ap, ◌∙◌, subst, ◌⊎◌, inl, inr, Option, Some, None, Ok, Err}
use Rattle.std.specs.Prelude.{if◌then◌else◌, slice_index_or}
use Rattle.std.specs.List.{list_any}
use Rattle.std.proofs.lemmas.Bool.{true≢false}
use Rattle.sbl_ast.specs.declared.tree.Count.{Count}
use Rattle.sbl_ast.specs.declared.tree.Count.TheVariants as counts
use Rattle.sbl_ast.specs.declared.tree.Joiner.{Joiner}
use Rattle.sbl_ast.specs.declared.tree.Joiner.TheVariants.{Or, And}
use Rattle.sbl_ast.specs.declared.tree.Prefix.{Prefix}
use Rattle.sbl_ast.specs.declared.tree.Prefix.TheVariants as prefixes
use Rattle.sbl_ast.specs.declared.tree.Simple.{Simple}
use Rattle.sbl_ast.specs.declared.tree.Simple.TheVariants as simples
use Rattle.sbl_ast.specs.declared.mode.Mode.{Mode}
use Rattle.sbl_ast.specs.declared.mode.Mode.TheVariants.{Forward, Backward}
use Rattle.sbl_semantics.specs.declared.touch.Touch.{Touch}
use Rattle.sbl_semantics.specs.declared.touch.Touch.TheVariants.{Searched}
use Rattle.sbl_semantics.specs.Meaning.{prefixed_does, counted_does, joined_does, limited_does, simple_does}
use Rattle.sbl_semantics.specs.Moves.{next}
use Rattle.sbl_semantics.specs.Numbers.{Value, continue_with}
use Rattle.sbl_semantics.specs.Control.{turns, times, count_of, seeks, limits, limit_here, limit_back, backwards_from, backwards_end, with_group, pay_first}
use Rattle.sbl_semantics.specs.Choices.{choice}
use Rattle.sbl_semantics.specs.State.{State, Ending, Signals, Stops, Doing, after, then_on, pay, saved_cursor, put_back}
use Rattle.sbl_semantics.specs.Touches.{with_touch}
use Rattle.sbl_machine.proofs.Touching.{with_grows, with_chosen, not_then}
use Rattle.sbl_machine.proofs.Stays.{Rest, end_state, Same, pay_same, place_same, to_limit_same, back_same, next_same, found_same, here_same, limit_back_same, left_same, right_same, replace_same}

-- the routine that runs is back at an ending with a signal
abbrev pub Here : ℕ → Ending → Type 0
Here i (Signals b t) = t.routine ≡ i
Here i (Stops fault t) = Unit {0}

module _ (picked : Touch → Bool) where
  -- something that is picked was touched
  abbrev pub dirty : State → Bool
  dirty s = list_any picked s.touched

  abbrev pub dirty_at : Ending → Bool
  dirty_at e = dirty (end_state e)

  -- from a state to an ending: what was touched stays so, and the routine that runs is the same
  pub record Grown (s : State) (e : Ending) : Type 0 where
    pub up : dirty s ≡ true → dirty_at e ≡ true
    pub here : Here s.routine e

  -- where nothing that is picked was touched, no picked among of the routine that runs has a choice
  pub record Within (i : ℕ) (s : State) : Type 0 where
    pub here : s.routine ≡ i
    pub quiet : (k : ℕ) → picked (Searched i k) ≡ true → dirty s ≡ false → choice k s ≡ None

  abbrev pub WithinAt : ℕ → Ending → Type 0
  WithinAt i (Signals b t) = Within i t
  WithinAt i (Stops fault t) = Unit {0}

  -- two endings are the same, or something that is picked was touched in both
  pub record Kept (i : ℕ) (e e' : Ending) : Type 0 where
    pub kin : (e' ≡ e) ⊎ ((dirty_at e ≡ true) × (dirty_at e' ≡ true))
    pub within : WithinAt i e

  pub record Pair (i : ℕ) (f f' : State → Ending) : Type 0 where
    pub grown : (s : State) → Grown s (f s)
    pub grown' : (s : State) → Grown s (f' s)
    pub at : (s : State) → Within i s → Kept i (f s) (f' s)

  -- two ways of doing a thing, in each mode
  pub record Alike (i : ℕ) (d d' : Doing) : Type 0 where
    pub in_mode : (m : Mode) → Pair i (d m) (d' m)

  -- ---- joining

  pub here_from : (i j : ℕ) (e : Ending) → j ≡ i → Here j e → Here i e
  here_from i j (Signals b t) p h = h ∙ p
  here_from i j (Stops fault t) p h = tt

  pub grown_after : (s : State) (e : Ending) (on_t on_f : State → Ending) → Grown s e → ((t : State) → Grown t (on_t t)) → ((t : State) → Grown t (on_f t)) → Grown s (after e on_t on_f)
  grown_after s (Signals true t) on_t on_f h kt kf =
      record { up = λ d. (kt t).up (h.up d); here = here_from s.routine t.routine (on_t t) h.here (kt t).here }
  grown_after s (Signals false t) on_t on_f h kt kf =
      record { up = λ d. (kf t).up (h.up d); here = here_from s.routine t.routine (on_f t) h.here (kf t).here }
  grown_after s (Stops fault t) on_t on_f h kt kf = record { up = h.up; here = tt }

  pub dirty_after : (e : Ending) (on_t on_f : State → Ending) → dirty_at e ≡ true → ((t : State) → Grown t (on_t t)) → ((t : State) → Grown t (on_f t)) → dirty_at (after e on_t on_f) ≡ true
  dirty_after (Signals true t) on_t on_f d kt kf = (kt t).up d
  dirty_after (Signals false t) on_t on_f d kt kf = (kf t).up d
  dirty_after (Stops fault t) on_t on_f d kt kf = d

  pub within_dirty : (i : ℕ) (e : Ending) → Here i e → dirty_at e ≡ true → WithinAt i e
  within_dirty i (Signals b t) h d = record { here = h; quiet = λ k c clear. absurd (true≢false (sym d ∙ clear)) }
  within_dirty i (Stops fault t) h d = tt

  same_after : (i : ℕ) (e : Ending) (on_t on_t' on_f on_f' : State → Ending) → WithinAt i e → Pair i on_t on_t' → Pair i on_f on_f' → Kept i (after e on_t on_f) (after e on_t' on_f')
  same_after i (Signals true s) on_t on_t' on_f on_f' w kt kf = kt.at s w
  same_after i (Signals false s) on_t on_t' on_f on_f' w kt kf = kf.at s w
  same_after i (Stops fault s) on_t on_t' on_f on_f' w kt kf = record { kin = inl refl; within = tt }

  kept_after : (i : ℕ) (e e' : Ending) (on_t on_t' on_f on_f' : State → Ending) → Kept i e e' → Pair i on_t on_t' → Pair i on_f on_f' → Kept i (after e on_t on_f) (after e' on_t' on_f')
  kept_after i e e' on_t on_t' on_f on_f' h kt kf =
      elim h.kin [
        | inl p ↦ subst (λ x. Kept i (after e on_t on_f) (after x on_t' on_f')) (sym p) (same_after i e on_t on_t' on_f on_f' h.within kt kf)
        | inr d ↦ record {
          kin = inr (dirty_after e on_t on_f d.0 kt.grown kf.grown, dirty_after e' on_t' on_f' d.1 kt.grown' kf.grown');
          within = (same_after i e on_t on_t' on_f on_f' h.within kt kf).within;
        }
      ]

  pub after_pair : (i : ℕ) (g g' : State → Ending) (on_t on_t' on_f on_f' : State → State → Ending) → Pair i g g' → ((s : State) → Pair i (on_t s) (on_t' s)) → ((s : State) → Pair i (on_f s) (on_f' s)) → Pair i (λ s. after (g s) (on_t s) (on_f s)) (λ s. after (g' s) (on_t' s) (on_f' s))
  after_pair i g g' on_t on_t' on_f on_f' h kt kf =
      record {
        grown = λ s. grown_after s (g s) (on_t s) (on_f s) (h.grown s) (kt s).grown (kf s).grown;
        grown' = λ s. grown_after s (g' s) (on_t' s) (on_f' s) (h.grown' s) (kt s).grown' (kf s).grown';
        at = λ s w. kept_after i (g s) (g' s) _ _ _ _ (h.at s w) (kt s) (kf s);
      }

  -- a part that depends on where it begins
  pub from_pair : {A : Type 0} (i : ℕ) (a : State → A) (f f' : A → State → Ending) → ((x : A) → Pair i (f x) (f' x)) → Pair i (λ s. f (a s) s) (λ s. f' (a s) s)
  from_pair i a f f' h = record { grown = λ s. (h (a s)).grown s; grown' = λ s. (h (a s)).grown' s; at = λ s w. (h (a s)).at s w }

  pub if_pair : (i : ℕ) (b : Bool) (f f' g g' : State → Ending) → Pair i f f' → Pair i g g' → Pair i (λ s. if b then f s else g s) (λ s. if b then f' s else g' s)
  if_pair i true f f' g g' h k = h
  if_pair i false f f' g g' h k = k

  -- ---- parts that change neither what is touched nor choices

  same_here : (s : State) (e : Ending) → Same s e → Here s.routine e
  same_here s (Signals b t) p = ap (λ (r : Rest). r.routine) p
  same_here s (Stops fault t) p = tt

  same_within : (i : ℕ) (s : State) (e : Ending) → Same s e → Within i s → WithinAt i e
  same_within i s (Signals b t) p w =
      record {
        here = ap (λ (r : Rest). r.routine) p ∙ w.here;
        quiet = λ k c clear. ap (λ (r : Rest). slice_index_or r.choices k None) p ∙ w.quiet k c (sym (ap (λ (r : Rest). list_any picked r.touched) p) ∙ clear);
      }
  same_within i s (Stops fault t) p w = tt

  pub same_grown : (s : State) (e : Ending) → Same s e → Grown s e
  same_grown s e p = record { up = λ d. ap (λ (r : Rest). list_any picked r.touched) p ∙ d; here = same_here s e p }

  pub same_pair : (i : ℕ) (f : State → Ending) → ((s : State) → Same s (f s)) → Pair i f f
  same_pair i f h =
      record {
        grown = λ s. same_grown s (f s) (h s);
        grown' = λ s. same_grown s (f s) (h s);
        at = λ s w. record { kin = inl refl; within = same_within i s (f s) (h s) w };
      }

  pub signals_pair : (i : ℕ) (b : Bool) → Pair i (Signals b) (Signals b)
  signals_pair i b = same_pair i (Signals b) (λ s. refl)

  -- ---- a touch

  abbrev pub touching : Touch → State → State
  touching x s = record s { touched = with_touch x s.touched }

  pub touched_grown : (x : Touch) (s : State) (e : Ending) → Grown (touching x s) e → Grown s e
  touched_grown x s e h = record { up = λ d. h.up (with_grows picked x s.touched d); here = h.here }

  pub touched_pair : (i : ℕ) (x : State → Touch) (f f' : State → Ending) → Pair i f f' → Pair i (λ s. f (touching (x s) s)) (λ s. f' (touching (x s) s))
  touched_pair i x f f' h =
      record {
        grown = λ s. touched_grown (x s) s _ (h.grown (touching (x s) s));
        grown' = λ s. touched_grown (x s) s _ (h.grown' (touching (x s) s));
        at = λ s w. h.at (touching (x s) s) (record { here = w.here; quiet = λ k c clear. w.quiet k c (not_then _ _ (with_grows picked (x s) s.touched) clear) });
      }

  -- what is picked is touched in both
  pub spoiled_pair : (i : ℕ) (f f' : State → Ending) → ((s : State) → Grown s (f s)) → ((s : State) → Grown s (f' s)) → ((s : State) → Within i s → dirty_at (f s) ≡ true) → ((s : State) → Within i s → dirty_at (f' s) ≡ true) → Pair i f f'
  spoiled_pair i f f' g g' d d' =
      record {
        grown = g;
        grown' = g';
        at = λ s w. record {
          kin = inr (d s w, d' s w);
          within = within_dirty i (f s) (here_from i s.routine (f s) w.here (g s).here) (d s w);
        };
      }

  -- a touch of what is picked, and then anything
  pub touched_spoiled : (i : ℕ) (x : Touch) (f f' : State → Ending) → picked x ≡ true → ((s : State) → Grown s (f s)) → ((s : State) → Grown s (f' s)) → Pair i (λ s. f (touching x s)) (λ s. f' (touching x s))
  touched_spoiled i x f f' c g g' =
      spoiled_pair i _ _ (λ s. touched_grown x s _ (g (touching x s))) (λ s. touched_grown x s _ (g' (touching x s)))
      (λ s w. (g (touching x s)).up (with_chosen picked x s.touched c)) (λ s w. (g' (touching x s)).up (with_chosen picked x s.touched c))

  -- ---- what is built of doings

  given_pair : (i : ℕ) (v : Value) (go go' : ℤ → State → Ending) → ((z : ℤ) → Pair i (go z) (go' z)) → Pair i (λ s. continue_with v s (λ z. go z s)) (λ s. continue_with v s (λ z. go' z s))
  given_pair i (Ok z) go go' h = h z
  given_pair i (Err fault) go go' h = same_pair i (Stops fault) (λ s. refl)

  pub chosen_pair : (i : ℕ) (o : Option ℕ) (go go' : ℕ → State → Ending) → ((g : ℕ) → Pair i (go g) (go' g)) → Pair i (λ s. with_group o s (λ g. go g s)) (λ s. with_group o s (λ g. go' g s))
  chosen_pair i None go go' h = signals_pair i false
  chosen_pair i (Some g) go go' h = h g

  turns_pair : (i n : ℕ) (d d' : Doing) (m : Mode) → Alike i d d' → Pair i (turns n d m) (turns n d' m)
  turns_pair i zero d d' m a = same_pair i _ (λ s. refl)
  turns_pair i (suc n) d d' m a =
      after_pair i (d m) (d' m) _ _ _ _ (a.in_mode m) (λ s. turns_pair i n d d' m a) (λ s. same_pair i _ (back_same m (saved_cursor s)))

  times_pair : (i n : ℕ) (d d' : Doing) (m : Mode) → Alike i d d' → Pair i (times n d m) (times n d' m)
  times_pair i zero d d' m a = signals_pair i true
  times_pair i (suc n) d d' m a =
      after_pair i (d m) (d' m) _ _ _ _ (a.in_mode m) (λ s. times_pair i n d d' m a) (λ s. signals_pair i false)

  seeks_pair : (i n : ℕ) (past : Bool) (d d' : Doing) (m : Mode) → Alike i d d' → Pair i (seeks n past d m) (seeks n past d' m)
  seeks_pair i zero past d d' m a = same_pair i _ (λ s. refl)
  seeks_pair i (suc n) past d d' m a =
      after_pair i (d m) (d' m) _ _ _ _ (a.in_mode m) (λ s. same_pair i _ (found_same past m s))
      (λ s. after_pair i (put_back m (saved_cursor s)) (put_back m (saved_cursor s)) _ _ _ _ (same_pair i _ (back_same m (saved_cursor s)))
      (λ f. after_pair i (next m) (next m) _ _ _ _ (same_pair i _ (next_same m)) (λ b. seeks_pair i n past d d' m a) (λ b. signals_pair i false))
      (λ f. signals_pair i false))

  pub paid_alike : (i : ℕ) (d d' : Doing) → Alike i d d' → Alike i (pay_first d) (pay_first d')
  paid_alike i d d' a =
      record {
        in_mode = λ m.
            after_pair i (λ s. pay s.steps s) (λ s. pay s.steps s) _ _ _ _ (same_pair i _ (λ s. pay_same s.steps s)) (λ s. a.in_mode m) (λ s. signals_pair i false);
      }

  back_pair : (i : ℕ) (m : Mode) (s : State) → Pair i (put_back m (saved_cursor s)) (put_back m (saved_cursor s))
  back_pair i m s = same_pair i _ (back_same m (saved_cursor s))

  -- back to a saved cursor, and on
  back_then_pair : (i : ℕ) (m : Mode) (s : State) (d d' : Doing) → Alike i d d' → Pair i (λ f. then_on (put_back m (saved_cursor s) f) (d m)) (λ f. then_on (put_back m (saved_cursor s) f) (d' m))
  back_then_pair i m s d d' a = after_pair i _ _ _ _ _ _ (back_pair i m s) (λ f. a.in_mode m) (λ f. signals_pair i false)

  -- ---- commands, by what their parts do

  pub prefixed_pair : (i : ℕ) (x : Prefix) (d d' : Doing) → Alike i d d' → (m : Mode) → Pair i (prefixed_does x d m) (prefixed_does x d' m)
  prefixed_pair i prefixes.Not d d' a m = after_pair i _ _ _ _ _ _ (a.in_mode m) (λ s. signals_pair i false) (back_pair i m)
  prefixed_pair i prefixes.Test d d' a m = after_pair i _ _ _ _ _ _ (a.in_mode m) (back_pair i m) (λ s. signals_pair i false)
  prefixed_pair i prefixes.Try d d' a m = after_pair i _ _ _ _ _ _ (a.in_mode m) (λ s. signals_pair i true) (back_pair i m)
  prefixed_pair i prefixes.Do d d' a m = after_pair i _ _ _ _ _ _ (a.in_mode m) (back_pair i m) (back_pair i m)
  prefixed_pair i prefixes.Fail d d' a m = after_pair i _ _ _ _ _ _ (a.in_mode m) (λ s. signals_pair i false) (λ s. signals_pair i false)
  prefixed_pair i prefixes.Repeat d d' a m = from_pair i (λ s. suc s.steps) _ _ (λ n. turns_pair i n d d' m a)
  prefixed_pair i prefixes.GoTo d d' a m = from_pair i (λ s. suc s.steps) _ _ (λ n. seeks_pair i n false d d' m a)
  prefixed_pair i prefixes.GoPast d d' a m = from_pair i (λ s. suc s.steps) _ _ (λ n. seeks_pair i n true d d' m a)
  prefixed_pair i prefixes.Backwards d d' a m =
      after_pair i backwards_from backwards_from _ _ _ _ (same_pair i backwards_from (λ s. to_limit_same Forward (record s { left = s.cursor })))
      (λ s. after_pair i _ _ _ _ _ _ (a.in_mode Backward) (λ b. same_pair i backwards_end (λ t. place_same t.left t)) (λ b. signals_pair i false))
      (λ s. signals_pair i false)

  pub counted_pair : (i : ℕ) (x : Count) (v : Value) (d d' : Doing) → Alike i d d' → (m : Mode) → Pair i (counted_does x v d m) (counted_does x v d' m)
  counted_pair i counts.Loop v d d' a m = given_pair i v _ _ (λ z. times_pair i (count_of z) d d' m a)
  counted_pair i counts.AtLeast v d d' a m =
      after_pair i _ _ _ _ _ _ (given_pair i v _ _ (λ z. times_pair i (count_of z) d d' m a))
      (λ s. from_pair i (λ t. suc t.steps) _ _ (λ n. turns_pair i n d d' m a)) (λ s. signals_pair i false)

  pub joined_alike : (i : ℕ) (j : Joiner) (a a' b b' : Doing) → Alike i a a' → Alike i b b' → Alike i (joined_does j a b) (joined_does j a' b')
  joined_alike i Or a a' b b' h k =
      record { in_mode = λ m. after_pair i _ _ _ _ _ _ (h.in_mode m) (λ s. signals_pair i true) (λ s. back_then_pair i m s b b' k) }
  joined_alike i And a a' b b' h k =
      record { in_mode = λ m. after_pair i _ _ _ _ _ _ (h.in_mode m) (λ s. back_then_pair i m s b b' k) (λ s. signals_pair i false) }

  pub limited_pair : (i : ℕ) (a a' b b' : Doing) → Alike i a a' → Alike i b b' → (m : Mode) → Pair i (limited_does a b m) (limited_does a' b' m)
  limited_pair i a a' b b' h k m =
      after_pair i _ _ _ _ _ _ (h.in_mode m)
      (λ s. after_pair i (λ t. put_back m (saved_cursor s) (limit_here m t)) (λ t. put_back m (saved_cursor s) (limit_here m t)) _ _ _ _
      (same_pair i _ (λ t. back_same m (saved_cursor s) (limit_here m t) ∙ here_same m t))
      (λ t. after_pair i _ _ _ _ _ _ (k.in_mode m)
      (λ u. same_pair i (λ v. Signals true (limit_back m (limits s) v)) (limit_back_same m (limits s)))
      (λ u. same_pair i (λ v. Signals false (limit_back m (limits s) v)) (limit_back_same m (limits s))))
      (λ t. signals_pair i false))
      (λ s. signals_pair i false)

  pub simple_pair : (i : ℕ) (x : Simple) (d d' : Doing) → Alike i d d' → (m : Mode) → Pair i (simple_does d x m) (simple_does d' x m)
  simple_pair i simples.Substring d d' a m = a.in_mode m
  simple_pair i simples.LeftBracket d d' a m = same_pair i _ (left_same m)
  simple_pair i simples.RightBracket d d' a m = same_pair i _ (right_same m)
  simple_pair i simples.Next d d' a m = same_pair i _ (next_same m)
  simple_pair i simples.ToLimit d d' a m = same_pair i _ (to_limit_same m)
  simple_pair i simples.AtLimit d d' a m = same_pair i _ (λ s. refl)
  simple_pair i simples.Delete d d' a m = same_pair i _ (replace_same [])
  simple_pair i simples.True d d' a m = signals_pair i true
  simple_pair i simples.False d d' a m = signals_pair i false
