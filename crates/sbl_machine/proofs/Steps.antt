-- What is done with more steps left: the same, unless it ended for want of them.
use Rattle.std.proofs.Common.{◌≡◌, ℕ, zero, suc, ◌+◌, ◌-◌, ◌<◌, ◌≤◌, Bool, true, false, Ok, Err, None, refl, sym, ap, subst, arith}
use Rattle.std.specs.Prelude.{ℤ, length, nat_le, nat_lt, if◌then◌else◌}
use Rattle.sbl_semantics.specs.declared.fault.RunFault.{RunFault}
use Rattle.sbl_semantics.specs.declared.fault.RunFault.TheVariants as faults
use Rattle.sbl_semantics.specs.declared.cursor.SavedCursor.{SavedCursor}
use Rattle.sbl_semantics.specs.Moves.{next}
use Rattle.sbl_semantics.specs.Numbers.{Value, continue_with}
use Rattle.sbl_semantics.specs.Control.{turns, times, seeks, pay_first}
use Rattle.sbl_semantics.specs.inside.ControlParts.{end_search}
use Rattle.sbl_semantics.specs.State.{State, Ending, Signals, Stops, Doing, after, then_on, pay, at_place, at_difference, to_limit, room, saved_cursor, put_back, step_over, place_after}
use Rattle.sbl_ast.specs.declared.mode.Mode.{Mode}
use Rattle.sbl_ast.specs.declared.mode.Mode.TheVariants.{Forward, Backward}

-- a state with k steps more, whose run is not asked what it does
abbrev pub more : ℕ → State → State
more k s = record s { steps = s.steps + k; events = None }

-- fewer than n steps are left, unless it ended for want of them
abbrev pub Within : ℕ → Ending → Type 0
Within n (Signals b s) = s.steps < n
Within n (Stops faults.Steps s) = Unit {0}
Within n (Stops fault s) = s.steps < n

-- an ending with fewer than n steps left, and that of the same with k steps more; with none more they are one
abbrev pub Goes : ℕ → ℕ → Ending → Ending → Type 0
Goes k n (Signals b s) e = (s.steps < n) × (e ≡ Signals b (more k s))
Goes k n (Stops faults.Steps s) e = (k ≡ 0 → e ≡ Stops faults.Steps (more 0 s)) × Within k e
Goes k n (Stops fault s) e = (s.steps < n) × (e ≡ Stops fault (more k s))

-- what goes on from a state goes on so with any number of steps more
abbrev pub Steady : (State → Ending) → Type 0
Steady f = (k n : ℕ) (s : State) → s.steps < n → Goes k n (f s) (f (more k s))

-- the same of what pays a step at least
abbrev pub Pays : Doing → Type 0
Pays d = (k n : ℕ) (m : Mode) (s : State) → s.steps ≤ n → Goes k n (d m s) (d m (more k s))

-- what goes on from fewer than j steps, without the k steps more and with them
pub record Carries (k n j : ℕ) (f g : State → Ending) : Type 0 where
  pub same : (s : State) → s.steps < j → Goes k n (f s) (g (more k s))
  pub low : (s : State) → s.steps < k → Within k (g s)

pub within_of : (k n : ℕ) (e e' : Ending) → Goes k n e e' → Within n e
within_of k n (Signals b s) e' h = h.0
within_of k n (Stops faults.Steps s) e' h = tt
within_of k n (Stops fault s) e' h = h.0

pub steady_low : (f : State → Ending) → Steady f → (n : ℕ) (s : State) → s.steps < n → Within n (f s)
steady_low f h n s l = within_of 0 n (f s) (f (more 0 s)) (h 0 n s l)

pub carries : (f : State → Ending) → Steady f → (k n j : ℕ) → j ≤ n → Carries k n j f f
carries f h k n j l = record { same = λ s i. h k n s (omega (arith, l, i)); low = λ s i. steady_low f h k s i }

-- ---- one after another

pub after_low : (n : ℕ) (e : Ending) (f g : State → Ending) → Within n e → ((s : State) → s.steps < n → Within n (f s)) → ((s : State) → s.steps < n → Within n (g s)) → Within n (after e f g)
after_low n (Signals true s) f g h on_t on_f = on_t s h
after_low n (Signals false s) f g h on_t on_f = on_f s h
after_low n (Stops faults.Steps s) f g h on_t on_f = tt
after_low n (Stops fault s) f g h on_t on_f = h

pub after_goes : (k n j : ℕ) (e e' : Ending) (f g f' g' : State → Ending) → j ≤ n → Goes k j e e' → Carries k n j f f' → Carries k n j g g' → Goes k n (after e f g) (after e' f' g')
after_goes k n j (Signals true s) e' f g f' g' l h on_t on_f = subst (λ x. Goes k n (f s) (after x f' g')) (sym h.1) (on_t.same s h.0)
after_goes k n j (Signals false s) e' f g f' g' l h on_t on_f = subst (λ x. Goes k n (g s) (after x f' g')) (sym h.1) (on_f.same s h.0)
after_goes k n j (Stops faults.Steps s) e' f g f' g' l h on_t on_f = (λ z. ap (λ x. after x f' g') (h.0 z), after_low k e' f' g' h.1 on_t.low on_f.low)
after_goes k n j (Stops fault s) e' f g f' g' l h on_t on_f = (omega (arith, l, h.0), ap (λ x. after x f' g') h.1)

pub signals_go : (b : Bool) → Steady (Signals b)
signals_go b k n s l = (l, refl)

pub stops_go : (fault : RunFault) → Steady (Stops fault)
stops_go faults.Steps k n s l = (λ z. ap (λ j. Stops faults.Steps (more j s)) z, tt)
stops_go fault k n s l = (l, refl)

-- the same going on in both
pub steady_goes : (k n : ℕ) (e e' : Ending) (f g : State → Ending) → Goes k n e e' → Steady f → Steady g → Goes k n (after e f g) (after e' f g)
steady_goes k n e e' f g h on_t on_f = after_goes k n n e e' f g f g (omega arith) h (carries f on_t k n n (omega arith)) (carries g on_f k n n (omega arith))

pub then_goes : (k n : ℕ) (e e' : Ending) (f : State → Ending) → Goes k n e e' → Steady f → Goes k n (then_on e f) (then_on e' f)
then_goes k n e e' f h go = steady_goes k n e e' f (Signals false) h go (signals_go false)

pub if_goes : (k n : ℕ) (b : Bool) (x y x' y' : Ending) → Goes k n x x' → Goes k n y y' → Goes k n (if b then x else y) (if b then x' else y')
if_goes k n true x y x' y' h i = h
if_goes k n false x y x' y' h i = i

pub given_goes : (k n : ℕ) (v v' : Value) (s : State) (go go' : ℤ → Ending) → v' ≡ v → s.steps < n → ((z : ℤ) → Goes k n (go z) (go' z)) → Goes k n (continue_with v s go) (continue_with v' (more k s) go')
given_goes k n (Ok z) v' s go go' e l h = subst (λ x. Goes k n (go z) (continue_with x (more k s) go')) (sym e) (h z)
given_goes k n (Err fault) v' s go go' e l h = subst (λ x. Goes k n (Stops fault s) (continue_with x (more k s) go')) (sym e) (stops_go fault k n s l)

-- ---- paying

low_pay : (f : State → Ending) → Steady f → (k c : ℕ) (s : State) → c ≤ k → Within k (then_on (pay c s) f)
low_pay f h k zero s l = tt
low_pay f h k (suc p) s l = steady_low f h k (record s { steps = p }) (omega (arith, l))

pay_goes : (f : State → Ending) → Steady f → (k n c : ℕ) (s : State) → c ≤ n → Goes k n (then_on (pay c s) f) (then_on (pay (c + k) (more k s)) f)
pay_goes f h k n zero s l = (λ z. ap (λ j. then_on (pay (zero + j) (more j s)) f) z, low_pay f h k (zero + k) (more k s) (omega arith))
pay_goes f h k n (suc p) s l =
    let e : suc (p + k) ≡ suc p + k = omega arith in
    subst (λ c. Goes k n (f (record s { steps = p })) (then_on (pay c (more k s)) f)) e (h k n (record s { steps = p }) (omega (arith, l)))

pub paid_pays : (d : Doing) → ((m : Mode) → Steady (d m)) → Pays (pay_first d)
paid_pays d h k n m s l = pay_goes (d m) (h m) k n s.steps s l

pub pays_go : (d : Doing) → Pays d → (m : Mode) → Steady (d m)
pays_go d h m k n s l = h k n m s (omega (arith, l))

pub paid_go : (d : Doing) → ((m : Mode) → Steady (d m)) → (m : Mode) → Steady (pay_first d m)
paid_go d h = pays_go (pay_first d) (paid_pays d h)

-- ---- the cursor at a place

pub at_place_go : (p : ℕ) → Steady (at_place p)
at_place_go p k n s l = if_goes k n (nat_le p (length s.text)) _ _ _ _ (l, refl) (l, refl)

pub at_difference_go : (a b : ℕ) → Steady (at_difference a b)
at_difference_go a b k n s l = if_goes k n (nat_lt a b) _ _ _ _ (l, refl) (at_place_go (a - b) k n s l)

pub to_limit_go : (m : Mode) → Steady (to_limit m)
to_limit_go Forward k n s l = at_difference_go (length s.text) s.beyond k n s l
to_limit_go Backward k n s l = at_place_go s.left k n s l

pub put_back_go : (m : Mode) (from : SavedCursor) → Steady (put_back m from)
put_back_go Forward from k n s l = at_place_go from.cursor k n s l
put_back_go Backward from k n s l = at_difference_go (length s.text + from.beyond + from.cursor) (s.beyond + from.length) k n s l

step_over_go : (m : Mode) (i : ℕ) → Steady (step_over m i)
step_over_go Forward i k n s l = at_place_go (s.cursor + i) k n s l
step_over_go Backward i k n s l = at_difference_go s.cursor i k n s l

pub place_after_go : (m : Mode) (from : SavedCursor) (i : ℕ) → Steady (place_after m from i)
place_after_go m from i k n s l = then_goes k n _ _ (step_over m i) (put_back_go m from k n s l) (step_over_go m i)

pub next_go : (m : Mode) → Steady (next m)
next_go Forward k n s l = if_goes k n (nat_lt 0 (room Forward s)) _ _ _ _ (l, refl) (l, refl)
next_go Backward k n s l = if_goes k n (nat_lt 0 (room Backward s)) _ _ _ _ (l, refl) (l, refl)

-- ---- turns

pays_low : (c : Doing) → Pays c → (m : Mode) (n : ℕ) (s : State) → s.steps < n → Within n (c m s)
pays_low c h m n s l = steady_low (c m) (pays_go c h m) n s l

turns_low : (c : Doing) → Pays c → (m : Mode) (a n : ℕ) (s : State) → s.steps < n → Within n (turns a c m s)
turns_low c h m zero n s l = tt
turns_low c h m (suc a) n s l =
    after_low n (c m s) (turns a c m) (put_back m (saved_cursor s)) (pays_low c h m n s l) (turns_low c h m a n)
    (steady_low (put_back m (saved_cursor s)) (put_back_go m (saved_cursor s)) n)

pub turns_goes : (c : Doing) → Pays c → (m : Mode) (k n a b : ℕ) (s : State) → s.steps < a → s.steps + k < b → s.steps < n → Goes k n (turns a c m s) (turns b c m (more k s))
turns_goes c h m k n zero b s i j l = absurd (omega (arith, i))
turns_goes c h m k n (suc a) zero s i j l = absurd (omega (arith, j))
turns_goes c h m k n (suc a) (suc b) s i j l =
    let back = put_back m (saved_cursor s) in
    after_goes k n s.steps (c m s) (c m (more k s)) (turns a c m) back (turns b c m) back (omega (arith, l)) (h k s.steps m s (omega arith))
    (record { same = λ t p. turns_goes c h m k n a b t (omega (arith, p, i)) (omega (arith, p, j)) (omega (arith, p, l)); low = turns_low c h m b k })
    (carries back (put_back_go m (saved_cursor s)) k n s.steps (omega (arith, l)))

pub times_go : (c : Doing) → Pays c → (a : ℕ) (m : Mode) → Steady (times a c m)
times_go c h zero m k n s l = (l, refl)
times_go c h (suc a) m k n s l = steady_goes k n (c m s) (c m (more k s)) (times a c m) (Signals false) (pays_go c h m k n s l) (times_go c h a m) (signals_go false)

-- ---- seeking

found_carries : (past : Bool) (m : Mode) (s : State) (k n j : ℕ) → j ≤ n → Carries k n j (end_search past m s) (end_search past m (more k s))
found_carries true m s k n j l = carries (Signals true) (signals_go true) k n j l
found_carries false m s k n j l = carries (put_back m (saved_cursor s)) (put_back_go m (saved_cursor s)) k n j l

found_low : (past : Bool) (m : Mode) (s : State) (n : ℕ) (t : State) → t.steps < n → Within n (end_search past m s t)
found_low true m s n t l = l
found_low false m s n t l = steady_low (put_back m (saved_cursor s)) (put_back_go m (saved_cursor s)) n t l

-- what is tried further on
abbrev onward : ℕ → Bool → Doing → Mode → State → Ending
onward a past c m b = after (next m b) (seeks a past c m) (Signals false)

seeks_low : (past : Bool) (c : Doing) → Pays c → (m : Mode) (a n : ℕ) (s : State) → s.steps < n → Within n (seeks a past c m s)
seeks_low past c h m zero n s l = tt
seeks_low past c h m (suc a) n s l =
    let back = put_back m (saved_cursor s) in
    after_low n (c m s) (end_search past m s) (λ f. then_on (back f) (onward a past c m)) (pays_low c h m n s l) (found_low past m s n)
    (λ t i. after_low n (back t) (onward a past c m) (Signals false) (steady_low back (put_back_go m (saved_cursor s)) n t i)
    (λ u q. after_low n (next m u) (seeks a past c m) (Signals false) (steady_low (next m) (next_go m) n u q) (seeks_low past c h m a n) (λ v r. r))
    (λ u q. q))

onward_low : (past : Bool) (c : Doing) → Pays c → (m : Mode) (a n : ℕ) (s : State) → s.steps < n → Within n (onward a past c m s)
onward_low past c h m a n s l = after_low n (next m s) (seeks a past c m) (Signals false) (steady_low (next m) (next_go m) n s l) (seeks_low past c h m a n) (λ u q. q)

pub seeks_goes : (past : Bool) (c : Doing) → Pays c → (m : Mode) (k n a b : ℕ) (s : State) → s.steps < a → s.steps + k < b → s.steps < n → Goes k n (seeks a past c m s) (seeks b past c m (more k s))
seeks_goes past c h m k n zero b s i j l = absurd (omega (arith, i))
seeks_goes past c h m k n (suc a) zero s i j l = absurd (omega (arith, j))
seeks_goes past c h m k n (suc a) (suc b) s i j l =
    let back = put_back m (saved_cursor s) in
    let o : s.steps ≤ n = omega (arith, l) in
    let no = carries (Signals false) (signals_go false) k n s.steps o in
    let on : Carries k n s.steps (onward a past c m) (onward b past c m) = record {
      same = λ u q.
          after_goes k n s.steps (next m u) (next m (more k u)) (seeks a past c m) (Signals false) (seeks b past c m) (Signals false) o (next_go m k s.steps u q)
          (record { same = λ v r. seeks_goes past c h m k n a b v (omega (arith, r, i)) (omega (arith, r, j)) (omega (arith, r, l)); low = seeks_low past c h m b k }) no;
      low = onward_low past c h m b k;
    } in
    after_goes k n s.steps (c m s) (c m (more k s)) (end_search past m s) (λ f. then_on (back f) (onward a past c m)) (end_search past m (more k s)) (λ f. then_on (back f) (onward b past c m)) o (h k s.steps m s (omega arith))
    (found_carries past m s k n s.steps o)
    (record {
      same = λ t p. after_goes k n s.steps (back t) (back (more k t)) (onward a past c m) (Signals false) (onward b past c m) (Signals false) o (put_back_go m (saved_cursor s) k s.steps t p) on no;
      low = λ t p. after_low k (back t) (onward b past c m) (Signals false) (steady_low back (put_back_go m (saved_cursor s)) k t p) (onward_low past c h m b k) (λ u q. q);
    })
