-- How endings go on: laws of `after`, of steps and of putting a cursor back.
use Rattle.std.proofs.Common.{◌≡◌, ℕ, ◌+◌, ◌-◌, zero, suc, Bool, true, false, refl, sym, ap, ◌∙◌, arith, length}
use Rattle.std.specs.Prelude.{nat_le, nat_lt, if◌then◌else◌}
use Rattle.sbl_program.specs.Rows.{pays}
use Rattle.sbl_semantics.specs.Control.{pay_first}
use Rattle.sbl_semantics.specs.State.{State, Ending, Signals, Stops, Doing, after, then_on, pay, at_place, put_back}
use Rattle.sbl_semantics.specs.declared.fault.RunFault.TheVariants.{Cursor}
use Rattle.sbl_semantics.specs.declared.cursor.SavedCursor.{SavedCursor}
use Rattle.sbl_ast.specs.declared.mode.Mode.{Mode}
use Rattle.sbl_ast.specs.declared.mode.Mode.TheVariants.{Forward, Backward}

pub after_after : (e : Ending) (a b go stop : State → Ending) → after (after e a b) go stop ≡ after e (λ s. after (a s) go stop) (λ s. after (b s) go stop)
after_after (Signals true s) a b go stop = refl
after_after (Signals false s) a b go stop = refl
after_after (Stops fault s) a b go stop = refl

pub after_same : (e : Ending) (a b c d : State → Ending) → ((s : State) → a s ≡ c s) → ((s : State) → b s ≡ d s) → after e a b ≡ after e c d
after_same (Signals true s) a b c d p q = p s
after_same (Signals false s) a b c d p q = q s
after_same (Stops fault s) a b c d p q = refl

pub as_it_is : (e : Ending) → after e (Signals true) (Signals false) ≡ e
as_it_is (Signals true s) = refl
as_it_is (Signals false s) = refl
as_it_is (Stops fault s) = refl

-- the same, of the states in which it signals t
pub then_same : (e : Ending) (f g : State → Ending) → ((s : State) → e ≡ Signals true s → f s ≡ g s) → then_on e f ≡ then_on e g
then_same (Signals true s) f g h = h s refl
then_same (Signals false s) f g h = refl
then_same (Stops fault s) f g h = refl

-- an ending that is not f
abbrev pub Passes : Ending → Type 0
Passes e = (a b c : State → Ending) → after e a b ≡ after e a c

pub passes_then : (e : Ending) (f : State → Ending) → Passes e → ((s : State) → Passes (f s)) → Passes (then_on e f)
passes_then e f p q a b c =
    after_after e f (Signals false) a b
    ∙ p (λ s. after (f s) a b) b c
    ∙ after_same e (λ s. after (f s) a b) c (λ s. after (f s) a c) c (λ s. q s a b c) (λ s. refl)
    ∙ sym (after_after e f (Signals false) a c)

pub pay_passes : (k : ℕ) (s : State) → Passes (pay k s)
pay_passes zero s a b c = refl
pay_passes (suc k) s a b c = refl

pub pays_pass : (n : ℕ) (s : State) → Passes (pays n s)
pays_pass zero s = λ a b c. refl
pays_pass (suc n) s = passes_then (pay s.steps s) (pays n) (pay_passes s.steps s) (pays_pass n)

placed_passes : (b : Bool) (n : ℕ) (s : State) → Passes (if b then Signals true (record s { cursor = n }) else Stops Cursor s)
placed_passes true n s a b c = refl
placed_passes false n s a b c = refl

place_passes : (n : ℕ) (s : State) → Passes (at_place n s)
place_passes n s = placed_passes (nat_le n (length s.text)) n s

differ_passes : (t : Bool) (n : ℕ) (s : State) → Passes (if t then Stops Cursor s else at_place n s)
differ_passes true n s a b c = refl
differ_passes false n s a b c = place_passes n s a b c

pub back_passes : (m : Mode) (from : SavedCursor) (s : State) → Passes (put_back m from s)
back_passes Forward from s = place_passes from.cursor s
back_passes Backward from s = differ_passes (nat_lt (length s.text + from.beyond + from.cursor) (s.beyond + from.length)) ((length s.text + from.beyond + from.cursor) - (s.beyond + from.length)) s

-- one step more, as the first step of what follows
pub own_step : (n : ℕ) (s : State) (d : Doing) (m : Mode) → then_on (pays (suc n) s) (d m) ≡ then_on (pays n s) (pay_first d m)
own_step zero s d m = after_after (pay s.steps s) (pays zero) (Signals false) (d m) (Signals false)
own_step (suc n) s d m =
    after_after (pay s.steps s) (pays (suc n)) (Signals false) (d m) (Signals false)
    ∙ after_same (pay s.steps s) (λ u. then_on (pays (suc n) u) (d m)) (Signals false) (λ u. then_on (pays n u) (pay_first d m)) (Signals false) (λ u. own_step n u d m) (λ u. refl)
    ∙ sym (after_after (pay s.steps s) (pays n) (Signals false) (pay_first d m) (Signals false))

-- steps more, as the first steps of what follows
pub steps_more : (n k : ℕ) (s : State) (d : State → Ending) → then_on (pays (n + k) s) d ≡ then_on (pays n s) (λ u. then_on (pays k u) d)
steps_more zero k s d = let e : zero + k ≡ k = omega arith in ap (λ j. then_on (pays j s) d) e
steps_more (suc n) k s d =
    let e : suc n + k ≡ suc (n + k) = omega arith in
    ap (λ j. then_on (pays j s) d) e
    ∙ after_after (pay s.steps s) (pays (n + k)) (Signals false) d (Signals false)
    ∙ after_same (pay s.steps s) (λ u. then_on (pays (n + k) u) d) (Signals false) (λ u. then_on (pays n u) (λ v. then_on (pays k v) d)) (Signals false) (λ u. steps_more n k u d) (λ u. refl)
    ∙ sym (after_after (pay s.steps s) (pays n) (Signals false) (λ u. then_on (pays k u) d) (Signals false))
