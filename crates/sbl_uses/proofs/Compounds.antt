-- Commands with commands inside are such parts of a run.
use Rattle.std.proofs.Common.{◌≤◌, ◌<◌, arith, ◌≡◌, ℕ, zero, suc, ◌+◌, Bool, true, false, List, Option, Some, None, refl, sym, ap, ◌∙◌}
use Rattle.sbl_ast.specs.declared.tree.Count.{Count}
use Rattle.sbl_ast.specs.declared.tree.Count.TheVariants as counts
use Rattle.sbl_ast.specs.declared.tree.Joiner.{Joiner}
use Rattle.sbl_ast.specs.declared.tree.Joiner.TheVariants.{Or, And}
use Rattle.sbl_ast.specs.declared.tree.Prefix.{Prefix}
use Rattle.sbl_ast.specs.declared.tree.Prefix.TheVariants as prefixes
use Rattle.sbl_ast.specs.declared.mode.Mode.{Mode}
use Rattle.sbl_ast.specs.declared.mode.Mode.TheVariants.{Forward, Backward}
use Rattle.sbl_semantics.specs.Items.{DeclaredNames, Body}
use Rattle.sbl_semantics.specs.declared.cursor.SavedCursor.{SavedCursor}
use Rattle.sbl_semantics.specs.declared.limits.Limits.{Limits}
use Rattle.sbl_semantics.specs.Moves.{next}
use Rattle.sbl_semantics.specs.Numbers.{Value, continue_with}
use Rattle.sbl_semantics.specs.Control.{turns, times, count_of, seeks, limits, restore_limit, limit_here, limit_back, backwards_from, backwards_end, with_group, pay_first}
use Rattle.sbl_semantics.specs.inside.ControlParts.{end_search}
use Rattle.sbl_semantics.specs.Choices.{choice}
use Rattle.sbl_semantics.specs.State.{State, Ending, Signals, Stops, Doing, after, then_on, saved_cursor, put_back}
use Rattle.sbl_semantics.specs.Meaning.{prefixed_does, counted_does, joined_does, limited_does}
use Rattle.sbl_semantics.specs.inside.MeaningParts.{begins}
use Rattle.sbl_semantics.specs.declared.fault.RunFault.TheVariants as faults
use Rattle.sbl_uses.proofs.RunParts.{Any_refusal, Family, Good, GoodIn, Part, PartBy, Some_end, at, given_part, part_same, signals_good, stop}
use Rattle.sbl_uses.proofs.Onward.{after_part, then_part}
use Rattle.sbl_uses.proofs.Commands.{back_good, next_good, place_good, still, to_limit_good}

abbrev steps_in : Ending → ℕ
steps_in (Signals b t) = t.steps
steps_in (Stops fault t) = t.steps

-- each run of it that ends uses a step at least
abbrev pub Pays : Doing → Type 0
Pays c = (m : Mode) (s : State) (b : Bool) (t : State) → c m s ≡ Signals b t → t.steps < s.steps

module _ (ns : DeclaredNames) (bodies : List ℕ → Option Body) (r : ℕ) where
  falls_by : (s : State) (run : Family) (most : ℕ) (e : Ending) (i : Ending) (b : Bool) (t : State) → i ≡ e → PartBy ns bodies r (Some_end ns bodies r) (Any_refusal ns bodies r) s.events s.text s.routine run most e → i ≡ Signals b t → t.steps ≤ most
  falls_by s run most (Signals c u) i b t e h f = let same : t.steps ≡ u.steps = ap steps_in (sym f ∙ e) in omega (arith, h.7, same)
  falls_by s run most (Stops fault u) i b t e h f = let both : Stops fault u ≡ Signals b t = sym e ∙ f in let none : ⊥ = cc in absurd none

  falls : (f : State → Ending) → Good ns bodies r f → (s : State) (b : Bool) (t : State) → f s ≡ Signals b t → t.steps ≤ s.steps
  falls f h s b t e = falls_by s (λ n. f (at n s)) s.steps (h s).0 (f s) b t (h s).1 (h s).2 e

  pays_by : (d : Doing) (m : Mode) (s u : State) (b : Bool) (most c : ℕ) → most ≡ c + u.steps → pay_first d m (at (c + 0) s) ≡ Signals b (at 0 u) → u.steps < most
  pays_by d m s u b most zero sum e = let none : ⊥ = cc in absurd none
  pays_by d m s u b most (suc c) sum e = omega (arith, sum)

  pays_end : (d : Doing) (m : Mode) (s : State) (most : ℕ) (e : Ending) (i : Ending) (b : Bool) (t : State) → i ≡ e → PartBy ns bodies r (Some_end ns bodies r) (Any_refusal ns bodies r) s.events s.text s.routine (λ n. pay_first d m (at n s)) most e → i ≡ Signals b t → t.steps < most
  pays_end d m s most (Signals c u) i b t e h f =
      let same : t.steps ≡ u.steps = ap steps_in (sym f ∙ e) in
      let less : u.steps < most = pays_by d m s u c most h.6 h.7 (h.8 0 (omega arith)) in
      omega (arith, less, same)
  pays_end d m s most (Stops fault u) i b t e h f = let both : Stops fault u ≡ Signals b t = sym e ∙ f in let none : ⊥ = cc in absurd none

  pub paid_pays : (d : Doing) → GoodIn ns bodies r (pay_first d) → Pays (pay_first d)
  paid_pays d i m s b t e = pays_end d m s s.steps (i m s).0 (pay_first d m s) b t (i m s).1 (i m s).2 e

  module _ (c : Doing) (i : GoodIn ns bodies r c) (p : Pays c) (m : Mode) where
    -- ---- turns

    turns_fixed : (k : ℕ) → Good ns bodies r (turns k c m)
    turns_fixed zero s = stop ns bodies r s s faults.Steps s.steps refl
    turns_fixed (suc k) s = after_part ns bodies r s (λ n. c m (at n s)) s.steps (turns k c m) (put_back m (saved_cursor s)) (i m s) (turns_fixed k) (back_good ns bodies r m (saved_cursor s))

    turns_after : (k l : ℕ) (s : State) → s.steps < suc k → s.steps < suc l → ((t : State) → t.steps < k → t.steps < l → turns k c m t ≡ turns l c m t) → (e : Ending) → c m s ≡ e
        → after e (turns k c m) (put_back m (saved_cursor s)) ≡ after e (turns l c m) (put_back m (saved_cursor s))
    turns_after k l s a b go (Signals true t) e = let less : t.steps < s.steps = p m s true t e in go t (omega (arith, less, a)) (omega (arith, less, b))
    turns_after k l s a b go (Signals false t) e = refl
    turns_after k l s a b go (Stops fault t) e = refl

    turns_fuel : (k l : ℕ) (s : State) → s.steps < k → s.steps < l → turns k c m s ≡ turns l c m s
    turns_fuel zero l s a b = absurd (omega (arith, a))
    turns_fuel (suc k) zero s a b = absurd (omega (arith, b))
    turns_fuel (suc k) (suc l) s a b = turns_after k l s a b (turns_fuel k l) (c m s) refl

    pub turns_good : Good ns bodies r (λ s. turns (suc s.steps) c m s)
    turns_good s =
        part_same ns bodies r (Some_end ns bodies r) (Any_refusal ns bodies r) s (λ n. turns (suc s.steps) c m (at n s)) (λ n. turns (suc n) c m (at n s)) s.steps
        (λ n l. turns_fuel (suc s.steps) (suc n) (at n s) (omega (arith, l)) (omega arith)) (turns_fixed (suc s.steps) s)

    pub times_good : (k : ℕ) → Good ns bodies r (times k c m)
    times_good zero s = still ns bodies r s s true refl refl refl
    times_good (suc k) s = after_part ns bodies r s (λ n. c m (at n s)) s.steps (times k c m) (Signals false) (i m s) (times_good k) (signals_good ns bodies r false)

    -- ---- seeking

    abbrev further : ℕ → Bool → State → Ending
    further k past b = after (next m b) (seeks k past c m) (Signals false)

    further_good : (k : ℕ) (past : Bool) → Good ns bodies r (seeks k past c m) → Good ns bodies r (further k past)
    further_good k past h b = after_part ns bodies r b (λ n. next m (at n b)) b.steps (seeks k past c m) (Signals false) (next_good ns bodies r m b) h (signals_good ns bodies r false)

    back_further : (k : ℕ) (past : Bool) (from : SavedCursor) → Good ns bodies r (seeks k past c m) → Good ns bodies r (λ f. then_on (put_back m from f) (further k past))
    back_further k past from h f = then_part ns bodies r f (λ n. put_back m from (at n f)) f.steps (further k past) (back_good ns bodies r m from f) (further_good k past h)

    seeks_fixed : (k : ℕ) (past : Bool) → Good ns bodies r (seeks k past c m)
    seeks_fixed zero past s = stop ns bodies r s s faults.Steps s.steps refl
    seeks_fixed (suc k) true s =
        after_part ns bodies r s (λ n. c m (at n s)) s.steps (Signals true) (λ f. then_on (put_back m (saved_cursor s) f) (further k true)) (i m s) (signals_good ns bodies r true) (back_further k true (saved_cursor s) (seeks_fixed k true))
    seeks_fixed (suc k) false s =
        after_part ns bodies r s (λ n. c m (at n s)) s.steps (put_back m (saved_cursor s)) (λ f. then_on (put_back m (saved_cursor s) f) (further k false)) (i m s) (back_good ns bodies r m (saved_cursor s)) (back_further k false (saved_cursor s) (seeks_fixed k false))

    module _ (past : Bool) (k l : ℕ) (go : (t : State) → t.steps < k → t.steps < l → seeks k past c m t ≡ seeks l past c m t) where
      next_after : (u : State) → u.steps < k → u.steps < l → (e : Ending) → next m u ≡ e → after e (seeks k past c m) (Signals false) ≡ after e (seeks l past c m) (Signals false)
      next_after u a b (Signals true v) e = let less : v.steps ≤ u.steps = falls (next m) (next_good ns bodies r m) u true v e in go v (omega (arith, less, a)) (omega (arith, less, b))
      next_after u a b (Signals false v) e = refl
      next_after u a b (Stops fault v) e = refl

      back_after : (t : State) (from : SavedCursor) → t.steps < k → t.steps < l → (e : Ending) → put_back m from t ≡ e → then_on e (further k past) ≡ then_on e (further l past)
      back_after t from a b (Signals true u) e = let less : u.steps ≤ t.steps = falls (put_back m from) (back_good ns bodies r m from) t true u e in next_after u (omega (arith, less, a)) (omega (arith, less, b)) (next m u) refl
      back_after t from a b (Signals false u) e = refl
      back_after t from a b (Stops fault u) e = refl

      seeks_after : (s : State) → s.steps < suc k → s.steps < suc l → (e : Ending) → c m s ≡ e
          → after e (end_search past m s) (λ f. then_on (put_back m (saved_cursor s) f) (further k past)) ≡ after e (end_search past m s) (λ f. then_on (put_back m (saved_cursor s) f) (further l past))
      seeks_after s a b (Signals true t) e = refl
      seeks_after s a b (Signals false t) e = let less : t.steps < s.steps = p m s false t e in back_after t (saved_cursor s) (omega (arith, less, a)) (omega (arith, less, b)) (put_back m (saved_cursor s) t) refl
      seeks_after s a b (Stops fault t) e = refl

    seeks_fuel : (past : Bool) (k l : ℕ) (s : State) → s.steps < k → s.steps < l → seeks k past c m s ≡ seeks l past c m s
    seeks_fuel past zero l s a b = absurd (omega (arith, a))
    seeks_fuel past (suc k) zero s a b = absurd (omega (arith, b))
    seeks_fuel past (suc k) (suc l) s a b = seeks_after past k l (seeks_fuel past k l) s a b (c m s) refl

    pub seeks_good : (past : Bool) → Good ns bodies r (λ s. seeks (suc s.steps) past c m s)
    seeks_good past s =
        part_same ns bodies r (Some_end ns bodies r) (Any_refusal ns bodies r) s (λ n. seeks (suc s.steps) past c m (at n s)) (λ n. seeks (suc n) past c m (at n s)) s.steps
        (λ n l. seeks_fuel past (suc s.steps) (suc n) (at n s) (omega (arith, l)) (omega arith)) (seeks_fixed (suc s.steps) past s)

  -- ---- prefixes, counts and joiners

  pub prefixed_good : (x : Prefix) (c : Doing) → GoodIn ns bodies r c → Pays c → GoodIn ns bodies r (prefixed_does x c)
  prefixed_good prefixes.Not c i p m s = after_part ns bodies r s (λ n. c m (at n s)) s.steps (Signals false) (put_back m (saved_cursor s)) (i m s) (signals_good ns bodies r false) (back_good ns bodies r m (saved_cursor s))
  prefixed_good prefixes.Test c i p m s = after_part ns bodies r s (λ n. c m (at n s)) s.steps (put_back m (saved_cursor s)) (Signals false) (i m s) (back_good ns bodies r m (saved_cursor s)) (signals_good ns bodies r false)
  prefixed_good prefixes.Try c i p m s = after_part ns bodies r s (λ n. c m (at n s)) s.steps (Signals true) (put_back m (saved_cursor s)) (i m s) (signals_good ns bodies r true) (back_good ns bodies r m (saved_cursor s))
  prefixed_good prefixes.Do c i p m s = after_part ns bodies r s (λ n. c m (at n s)) s.steps (put_back m (saved_cursor s)) (put_back m (saved_cursor s)) (i m s) (back_good ns bodies r m (saved_cursor s)) (back_good ns bodies r m (saved_cursor s))
  prefixed_good prefixes.Fail c i p m s = after_part ns bodies r s (λ n. c m (at n s)) s.steps (Signals false) (Signals false) (i m s) (signals_good ns bodies r false) (signals_good ns bodies r false)
  prefixed_good prefixes.Repeat c i p m s = turns_good c i p m s
  prefixed_good prefixes.GoTo c i p m s = seeks_good c i p m false s
  prefixed_good prefixes.GoPast c i p m s = seeks_good c i p m true s
  prefixed_good prefixes.Backwards c i p m s =
      then_part ns bodies r s (λ n. backwards_from (at n s)) s.steps (λ b. after (c Backward b) backwards_end (Signals false)) (to_limit_good ns bodies r Forward (record s { left = s.cursor }))
      (λ b. after_part ns bodies r b (λ n. c Backward (at n b)) b.steps backwards_end (Signals false) (i Backward b) (λ t. place_good ns bodies r t.left t) (signals_good ns bodies r false))

  loop_good : (v : Value) (c : Doing) → GoodIn ns bodies r c → Pays c → (m : Mode) → Good ns bodies r (λ s. continue_with v s (λ z. times (count_of z) c m s))
  loop_good v c i p m s = given_part ns bodies r s s.steps v (λ z n. times (count_of z) c m (at n s)) (λ z. times_good c i p m (count_of z) s)

  pub counted_good : (x : Count) (v : Value) (c : Doing) → GoodIn ns bodies r c → Pays c → GoodIn ns bodies r (counted_does x v c)
  counted_good counts.Loop v c i p m s = loop_good v c i p m s
  counted_good counts.AtLeast v c i p m s =
      after_part ns bodies r s (λ n. continue_with v (at n s) (λ z. times (count_of z) c m (at n s))) s.steps (λ t. turns (suc t.steps) c m t) (Signals false) (loop_good v c i p m s) (turns_good c i p m) (signals_good ns bodies r false)

  back_then : (m : Mode) (from : SavedCursor) (b : Doing) → GoodIn ns bodies r b → Good ns bodies r (λ f. then_on (put_back m from f) (b m))
  back_then m from b j f = then_part ns bodies r f (λ n. put_back m from (at n f)) f.steps (b m) (back_good ns bodies r m from f) (j m)

  pub joined_good : (x : Joiner) (a b : Doing) → GoodIn ns bodies r a → GoodIn ns bodies r b → GoodIn ns bodies r (joined_does x a b)
  joined_good Or a b i j m s = after_part ns bodies r s (λ n. a m (at n s)) s.steps (Signals true) (λ f. then_on (put_back m (saved_cursor s) f) (b m)) (i m s) (signals_good ns bodies r true) (back_then m (saved_cursor s) b j)
  joined_good And a b i j m s = after_part ns bodies r s (λ n. a m (at n s)) s.steps (λ f. then_on (put_back m (saved_cursor s) f) (b m)) (Signals false) (i m s) (back_then m (saved_cursor s) b j) (signals_good ns bodies r false)

  -- ---- setlimit

  within_good : (m : Mode) (from : Limits) (b : Doing) → GoodIn ns bodies r b → Good ns bodies r (λ u. restore_limit m from (b m u))
  within_good Forward from b j u =
      after_part ns bodies r u (λ n. b Forward (at n u)) u.steps (λ t. Signals true (limit_back Forward from t)) (λ t. Signals false (limit_back Forward from t)) (j Forward u)
      (λ t. still ns bodies r t (limit_back Forward from t) true refl refl refl) (λ t. still ns bodies r t (limit_back Forward from t) false refl refl refl)
  within_good Backward from b j u =
      after_part ns bodies r u (λ n. b Backward (at n u)) u.steps (λ t. Signals true (limit_back Backward from t)) (λ t. Signals false (limit_back Backward from t)) (j Backward u)
      (λ t. still ns bodies r t (limit_back Backward from t) true refl refl refl) (λ t. still ns bodies r t (limit_back Backward from t) false refl refl refl)

  here_good : (m : Mode) (from : SavedCursor) → Good ns bodies r (λ t. put_back m from (limit_here m t))
  here_good Forward from t = back_good ns bodies r Forward from (limit_here Forward t)
  here_good Backward from t = back_good ns bodies r Backward from (limit_here Backward t)

  pub limited_good : (a b : Doing) → GoodIn ns bodies r a → GoodIn ns bodies r b → GoodIn ns bodies r (limited_does a b)
  limited_good a b i j m s =
      let within : State → Ending = λ u. restore_limit m (limits s) (b m u) in
      after_part ns bodies r s (λ n. a m (at n s)) s.steps (λ t. then_on (put_back m (saved_cursor s) (limit_here m t)) within) (Signals false) (i m s)
      (λ t. then_part ns bodies r t (λ n. put_back m (saved_cursor s) (limit_here m (at n t))) t.steps within (here_good m (saved_cursor s) t) (within_good m (limits s) b j)) (signals_good ns bodies r false)

  -- ---- amongs

  pub begins_good : (waits : Bool) (d b : Doing) → GoodIn ns bodies r (pay_first d) → GoodIn ns bodies r b → GoodIn ns bodies r (begins waits d b)
  begins_good true d b i j m s = still ns bodies r s s true refl refl refl
  begins_good false d b i j m s = after_part ns bodies r s (λ n. pay_first d m (at n s)) s.steps (b m) (Signals false) (i m s) (j m) (signals_good ns bodies r false)

  pub chosen_good : (k : ℕ) (go : ℕ → State → Ending) → ((g : ℕ) → Good ns bodies r (go g)) → Good ns bodies r (λ t. with_group (choice k t) t (λ g. go g t))
  chosen_good k go i t = chosen_by (choice k t) where
    chosen_by : (o : Option ℕ) → Part ns bodies r t (λ n. with_group o (at n t) (λ g. go g (at n t))) t.steps
    chosen_by None = still ns bodies r t t false refl refl refl
    chosen_by (Some g) = i g t
