-- What a command does, from its step on: the forms that the search leaves.
use Rattle.std.proofs.Common.{◌≡◌, ℕ, ◌-◌, ◌<◌, ◌≤◌, zero, suc, Bool, true, false, List, [], ◌∷◌, Option, Some, None, refl, sym, ap, ◌∙◌, arith, rules, length, get_or, Vec, Box, Global}
use Rattle.std.specs.Prelude.{slice_get, drop, take}
use Rattle.std.proofs.lemmas.List.{take_all}
use Rattle.sbl_program.specs.Terms.{class_at}
use Rattle.sbl_program.specs.declared.action.Action.{Action}
use Rattle.sbl_program.specs.declared.action.Action.TheVariants.{Grouping, NonGrouping}
use Rattle.sbl_program.specs.declared.action.Arithmetic.{Arithmetic}
use Rattle.sbl_program.specs.Actions.{acts, test_grouping}
use Rattle.sbl_semantics.specs.declared.fault.RunFault.{RunFault}
use Rattle.sbl_program.specs.declared.node.Candidate.{Candidate}
use Rattle.sbl_program.specs.declared.node.Node.{Node}
use Rattle.sbl_program.specs.declared.node.Node.TheVariants.{Act, Not, Test, Try, Do, Fail, Backwards, Goto, GoPast, SetLimit, Repeat, Loop, AtLeast, Search, Among, Sequence}
use Rattle.sbl_semantics.specs.declared.limits.Limits.{Limits}
use Rattle.sbl_program.specs.declared.node.Node.TheFolds.{fold_out-Node}
use Rattle.sbl_program.specs.declared.node.Node.TheViews.{the_lemmas}
use Rattle.sbl_program.specs.AmongStrings.{Listing}
use Rattle.sbl_semantics.specs.Fitting.{first}
use Rattle.sbl_program.specs.Arithmetic.{value}
use Rattle.sbl_semantics.specs.Numbers.{continue_with}
use Rattle.sbl_program.specs.ProgramOf.{view_action, view_node, view_nodes, view_number}
use Rattle.sbl_program.specs.Program as programs
use Rattle.sbl_semantics.specs.Control.{pay_first, turns, times, count_of, seeks, backwards_from, backwards_end, leave, back_in, enter, limits, restore_limit, limit_here, limit_back}
use Rattle.sbl_program.specs.Run.{runs_paid, calls, runs, all_run, group_runs, nth_runs, body_does}
use Rattle.sbl_semantics.specs.Choices.{choice}
use Rattle.sbl_program.specs.Search.{search_all, tries, try_one}
use Rattle.sbl_semantics.specs.State.{State, Ending, Doing, Signals, Stops, after, then_on, saved_cursor, put_back}
use Rattle.sbl_ast.specs.declared.mode.Mode.{Mode}
use Rattle.sbl_ast.specs.declared.mode.Mode.TheVariants.{Backward}

view_repeat : (T : ℕ → Listing) (inner : Box Node Global) → view_node T (Repeat inner) ≡ programs.repeat (view_node T inner.value)
view_repeat T inner = first_of (search (rules, the_lemmas), search (rules, the_lemmas, fold_out-Node))

view_loop : (T : ℕ → Listing) (n : Arithmetic) (inner : Box Node Global) → view_node T (Loop n inner) ≡ programs.loop (view_number n) (view_node T inner.value)
view_loop T n inner = first_of (search (rules, the_lemmas), search (rules, the_lemmas, fold_out-Node))

view_atleast : (T : ℕ → Listing) (n : Arithmetic) (inner : Box Node Global) → view_node T (AtLeast n inner) ≡ programs.atleast (view_number n) (view_node T inner.value)
view_atleast T n inner = first_of (search (rules, the_lemmas), search (rules, the_lemmas, fold_out-Node))

view_search : (T : ℕ → Listing) (k table : ℕ) (entries : Vec Candidate Global) → view_node T (Search k table entries) ≡ programs.search k (T table) entries.items
view_search T k table entries = first_of (search (rules, the_lemmas), search (rules, the_lemmas, fold_out-Node))

view_among : (T : ℕ → Listing) (k : ℕ) (before bodies : Vec Node Global) → view_node T (Among k before bodies) ≡ programs.among k (view_nodes T before.items) (view_nodes T bodies.items)
view_among T k before bodies = first_of (search (rules, the_lemmas), search (rules, the_lemmas, fold_out-Node))

view_sequence : (T : ℕ → Listing) (cs : Vec Node Global) → view_node T (Sequence cs) ≡ programs.sequence (view_nodes T cs.items)
view_sequence T cs = first_of (search (rules, the_lemmas), search (rules, the_lemmas, fold_out-Node))

view_goto : (T : ℕ → Listing) (inner : Box Node Global) → view_node T (Goto inner) ≡ programs.goto (view_node T inner.value)
view_goto T inner = first_of (search (rules, the_lemmas), search (rules, the_lemmas, fold_out-Node))

view_gopast : (T : ℕ → Listing) (inner : Box Node Global) → view_node T (GoPast inner) ≡ programs.gopast (view_node T inner.value)
view_gopast T inner = first_of (search (rules, the_lemmas), search (rules, the_lemmas, fold_out-Node))

view_setlimit : (T : ℕ → Listing) (a b : Box Node Global) → view_node T (SetLimit a b) ≡ programs.setlimit (view_node T a.value) (view_node T b.value)
view_setlimit T a b = first_of (search (rules, the_lemmas), search (rules, the_lemmas, fold_out-Node))

pub goto_does : (T : ℕ → Listing) (p : programs.Program) (levels : ℕ) (inner : Box Node Global) (m : Mode) (s : State) → runs_paid p levels (view_node T (Goto inner)) m s ≡ seeks (suc s.steps) false (runs p levels (view_node T inner.value)) m s
goto_does T p levels inner m s = ap (λ c. runs_paid p levels c m s) (view_goto T inner)

pub gopast_does : (T : ℕ → Listing) (p : programs.Program) (levels : ℕ) (inner : Box Node Global) (m : Mode) (s : State) → runs_paid p levels (view_node T (GoPast inner)) m s ≡ seeks (suc s.steps) true (runs p levels (view_node T inner.value)) m s
gopast_does T p levels inner m s = ap (λ c. runs_paid p levels c m s) (view_gopast T inner)

pub setlimit_does : (T : ℕ → Listing) (p : programs.Program) (levels : ℕ) (a b : Box Node Global) (m : Mode) (s : State) → runs_paid p levels (view_node T (SetLimit a b)) m s ≡ after (runs p levels (view_node T a.value) m s) (λ t. then_on (put_back m (saved_cursor s) (limit_here m t)) (λ u. restore_limit m (limits s) (runs p levels (view_node T b.value) m u))) (Signals false)
setlimit_does T p levels a b m s = ap (λ c. runs_paid p levels c m s) (view_setlimit T a b)

pub limited_signals : (m : Mode) (from : Limits) (e : Ending) (b : Bool) (t : State) → e ≡ Signals b t → restore_limit m from e ≡ Signals b (limit_back m from t)
limited_signals m from e true t p = ap (restore_limit m from) p
limited_signals m from e false t p = ap (restore_limit m from) p

pub one_time : (l : ℕ) (c : Doing) (m : Mode) (s new : State) (w : Ending) → 0 < l → c m s ≡ Signals true new → times l c m s ≡ w → times (l - 1) c m new ≡ w
one_time zero c m s new w l e h = absurd (omega arith)
one_time (suc k) c m s new w l e h =
    let j : suc k - 1 ≡ k = omega arith in
    ap (λ n. times n c m new) j ∙ sym (ap (λ r. after r (times k c m) (Signals false)) e) ∙ h

pub repeat_does : (T : ℕ → Listing) (p : programs.Program) (levels : ℕ) (inner : Box Node Global) (m : Mode) (s : State) → runs_paid p levels (view_node T (Repeat inner)) m s ≡ turns (suc s.steps) (runs p levels (view_node T inner.value)) m s
repeat_does T p levels inner m s = ap (λ c. runs_paid p levels c m s) (view_repeat T inner)

pub loop_does : (T : ℕ → Listing) (p : programs.Program) (levels : ℕ) (n : Arithmetic) (inner : Box Node Global) (m : Mode) (s : State) → runs_paid p levels (view_node T (Loop n inner)) m s ≡ continue_with (value (view_number n) m s) s (λ z. times (count_of z) (runs p levels (view_node T inner.value)) m s)
loop_does T p levels n inner m s = ap (λ c. runs_paid p levels c m s) (view_loop T n inner)

pub atleast_does : (T : ℕ → Listing) (p : programs.Program) (levels : ℕ) (n : Arithmetic) (inner : Box Node Global) (m : Mode) (s : State) → runs_paid p levels (view_node T (AtLeast n inner)) m s ≡ after (continue_with (value (view_number n) m s) s (λ z. times (count_of z) (runs p levels (view_node T inner.value)) m s)) (λ t. turns (suc t.steps) (runs p levels (view_node T inner.value)) m t) (Signals false)
atleast_does T p levels n inner m s = ap (λ c. runs_paid p levels c m s) (view_atleast T n inner)

pub search_does : (T : ℕ → Listing) (p : programs.Program) (levels k table : ℕ) (entries : Vec Candidate Global) (m : Mode) (s : State) → runs_paid p levels (view_node T (Search k table entries)) m s ≡ search_all (calls p levels) k entries.items (T table) m s
search_does T p levels k table entries m s = ap (λ c. runs_paid p levels c m s) (view_search T k table entries)

pub among_does : (T : ℕ → Listing) (p : programs.Program) (levels k : ℕ) (before bodies : Vec Node Global) (m : Mode) (s : State) → runs_paid p levels (view_node T (Among k before bodies)) m s ≡ after (all_run p levels (view_nodes T before.items) m s) (λ t. group_runs p levels (view_nodes T bodies.items) (choice k t) m t) (Signals false)
among_does T p levels k before bodies m s = ap (λ c. runs_paid p levels c m s) (view_among T k before bodies)

pub sequence_does : (T : ℕ → Listing) (p : programs.Program) (levels : ℕ) (cs : Vec Node Global) (m : Mode) (s : State) → runs_paid p levels (view_node T (Sequence cs)) m s ≡ all_run p levels (view_nodes T cs.items) m s
sequence_does T p levels cs m s = ap (λ c. runs_paid p levels c m s) (view_sequence T cs)

-- the g-th of some commands
pub nth_is : (T : ℕ → Listing) (p : programs.Program) (levels : ℕ) (ns : List Node) (g : ℕ) (n : Node) (m : Mode) (s : State) → g < length ns → n ≡ get_or ns g n → nth_runs p levels (view_nodes T ns) g m s ≡ runs p levels (view_node T n) m s
nth_is T p levels [] g n m s l e = absurd (omega arith)
nth_is T p levels (x ∷ ns) zero n m s l e = ap (λ c. runs p levels (view_node T c) m s) (sym e)
nth_is T p levels (x ∷ ns) (suc g) n m s l e = nth_is T p levels ns g n m s (omega arith) e

pub nth_past : (T : ℕ → Listing) (p : programs.Program) (levels : ℕ) (ns : List Node) (g : ℕ) (m : Mode) (s : State) → length ns ≤ g → nth_runs p levels (view_nodes T ns) g m s ≡ Signals true s
nth_past T p levels [] g m s l = refl
nth_past T p levels (x ∷ ns) zero m s l = absurd (omega arith)
nth_past T p levels (x ∷ ns) (suc g) m s l = nth_past T p levels ns g m s (omega arith)

pub one_turn : (n : ℕ) (c : Doing) (m : Mode) (s new : State) (w : Ending) → new.steps < s.steps → s.steps ≤ n → c m s ≡ Signals true new → turns (suc n) c m s ≡ w → (k : ℕ) × (new.steps ≤ k) × (turns (suc k) c m new ≡ w)
one_turn zero c m s new w f l e h = absurd (omega arith)
one_turn (suc k) c m s new w f l e h = (k, omega arith, sym (ap (λ r. after r (turns (suc k) c m) (put_back m (saved_cursor s))) e) ∙ h)

pub one_more : (call : ℕ → Doing) (a : ℕ) (es : List Candidate) (m : Mode) (from : State) (rest : List ℕ) (i : ℕ) (s : State) (place : Option ℕ) → place ≡ first rest → place ≡ Some i → (js : List ℕ) × (rest ≡ i ∷ js) × (tries call a es m from rest s ≡ try_one call a (slice_get es i) m from s (tries call a es m from js))
one_more call a es m from [] i s place p q = let e : Some i ≡ None = sym q ∙ p in absurd (let no : ⊥ = cc in no)
one_more call a es m from (j ∷ js) i s place p q =
    let e : Some i ≡ Some j = sym q ∙ p in
    let same : i ≡ j = cc in
    (js, ap (λ k. k ∷ js) (sym same), ap (λ k. try_one call a (slice_get es k) m from s (tries call a es m from js)) (sym same))

-- a call with a level left
pub calls_routine : (p : programs.Program) (n i : ℕ) (m : Mode) (s : State) (r : programs.Routine) → 0 < n → slice_get p.routines i ≡ Some r → calls p n i m s ≡ leave s.routine s.choices (runs p (n - 1) r.body m (enter i r.amongs s))
calls_routine p zero i m s r h e = absurd (omega arith)
calls_routine p (suc n) i m s r h e =
    let k : n ≡ suc n - 1 = omega arith in
    ap (λ o. body_does (runs p n) i o m s) e ∙ ap (λ k. leave s.routine s.choices (runs p k r.body m (enter i r.amongs s))) k

pub leave_signals : (i : ℕ) (cs : List (Option ℕ)) (e : Ending) (b : Bool) (t : State) → e ≡ Signals b t → leave i cs e ≡ Signals b (back_in i cs b t)
leave_signals i cs e true t p = ap (leave i cs) p
leave_signals i cs e false t p = ap (leave i cs) p

-- a command whose signal is not looked at
pub either_way : (b : Bool) (u : State) (go : State → Ending) → after (Signals b u) go go ≡ go u
either_way true u go = refl
either_way false u go = refl

-- a turn that is refused
pub time_stops : (l : ℕ) (c : Doing) (m : Mode) (s new : State) (fault : RunFault) → 0 < l → c m s ≡ Stops fault new → times l c m s ≡ Stops fault new
time_stops zero c m s new fault l e = absurd (omega arith)
time_stops (suc k) c m s new fault l e = ap (λ r. after r (times k c m) (Signals false)) e

view_act : (T : ℕ → Listing) (a : Action) → view_node T (Act a) ≡ programs.act (view_action a)
view_act T a = first_of (search (rules, the_lemmas), search (rules, the_lemmas, fold_out-Node))

-- commands of which the first holds no command
pub act_first : (T : ℕ → Listing) (p : programs.Program) (levels : ℕ) (cs : List Node) (a : Action) (m : Mode) (s : State) → slice_get cs 0 ≡ Some (Act a) → all_run p levels (view_nodes T cs) m s ≡ after (pay_first (acts p.groupings (view_action a)) m s) (all_run p levels (view_nodes T (drop 1 cs)) m) (Signals false)
act_first T p levels [] a m s e = let no : ⊥ = cc in absurd no
act_first T p levels (x ∷ cs) a m s e =
    let same : x ≡ Act a = cc in
    let rest = λ (v : programs.Node). after (runs p levels v m s) (all_run p levels (view_nodes T cs) m) (Signals false) in
    ap (λ y. rest (view_node T y)) same ∙ ap rest (view_act T a)

pub but_first : (cs : List Node) → take (length cs - 1) (drop 1 cs) ≡ drop 1 cs
but_first [] = refl
but_first (c ∷ cs) = take_all (length (c ∷ cs) - 1) cs (omega arith)

-- a command that is the test of a grouping
pub grouping_does : (T : ℕ → Listing) (p : programs.Program) (levels g : ℕ) → runs p levels (view_node T (Act (Grouping g))) ≡ pay_first (test_grouping true (class_at p.groupings g) g)
grouping_does T p levels g = ap (runs p levels) (view_act T (Grouping g))

pub non_does : (T : ℕ → Listing) (p : programs.Program) (levels g : ℕ) → runs p levels (view_node T (Act (NonGrouping g))) ≡ pay_first (test_grouping false (class_at p.groupings g) g)
non_does T p levels g = ap (runs p levels) (view_act T (NonGrouping g))

view_not : (T : ℕ → Listing) (inner : Box Node Global) → view_node T (Not inner) ≡ programs.not (view_node T inner.value)
view_not T inner = first_of (search (rules, the_lemmas), search (rules, the_lemmas, fold_out-Node))

pub not_does : (T : ℕ → Listing) (p : programs.Program) (levels : ℕ) (inner : Box Node Global) (m : Mode) (s : State) → runs_paid p levels (view_node T (Not inner)) m s ≡ after (runs p levels (view_node T inner.value) m s) (Signals false) (put_back m (saved_cursor s))
not_does T p levels inner m s = ap (λ c. runs_paid p levels c m s) (view_not T inner)

view_test : (T : ℕ → Listing) (inner : Box Node Global) → view_node T (Test inner) ≡ programs.test (view_node T inner.value)
view_test T inner = first_of (search (rules, the_lemmas), search (rules, the_lemmas, fold_out-Node))

pub test_does : (T : ℕ → Listing) (p : programs.Program) (levels : ℕ) (inner : Box Node Global) (m : Mode) (s : State) → runs_paid p levels (view_node T (Test inner)) m s ≡ after (runs p levels (view_node T inner.value) m s) (put_back m (saved_cursor s)) (Signals false)
test_does T p levels inner m s = ap (λ c. runs_paid p levels c m s) (view_test T inner)

view_do : (T : ℕ → Listing) (inner : Box Node Global) → view_node T (Do inner) ≡ programs.do_ (view_node T inner.value)
view_do T inner = first_of (search (rules, the_lemmas), search (rules, the_lemmas, fold_out-Node))

pub do_does : (T : ℕ → Listing) (p : programs.Program) (levels : ℕ) (inner : Box Node Global) (m : Mode) (s : State) → runs_paid p levels (view_node T (Do inner)) m s ≡ after (runs p levels (view_node T inner.value) m s) (put_back m (saved_cursor s)) (put_back m (saved_cursor s))
do_does T p levels inner m s = ap (λ c. runs_paid p levels c m s) (view_do T inner)

view_fail : (T : ℕ → Listing) (inner : Box Node Global) → view_node T (Fail inner) ≡ programs.fail (view_node T inner.value)
view_fail T inner = first_of (search (rules, the_lemmas), search (rules, the_lemmas, fold_out-Node))

pub fail_does : (T : ℕ → Listing) (p : programs.Program) (levels : ℕ) (inner : Box Node Global) (m : Mode) (s : State) → runs_paid p levels (view_node T (Fail inner)) m s ≡ after (runs p levels (view_node T inner.value) m s) (Signals false) (Signals false)
fail_does T p levels inner m s = ap (λ c. runs_paid p levels c m s) (view_fail T inner)

view_backwards : (T : ℕ → Listing) (inner : Box Node Global) → view_node T (Backwards inner) ≡ programs.backwards (view_node T inner.value)
view_backwards T inner = first_of (search (rules, the_lemmas), search (rules, the_lemmas, fold_out-Node))

pub backwards_does : (T : ℕ → Listing) (p : programs.Program) (levels : ℕ) (inner : Box Node Global) (m : Mode) (s : State) → runs_paid p levels (view_node T (Backwards inner)) m s ≡ then_on (backwards_from s) (λ b. after (runs p levels (view_node T inner.value) Backward b) backwards_end (Signals false))
backwards_does T p levels inner m s = ap (λ c. runs_paid p levels c m s) (view_backwards T inner)

view_try : (T : ℕ → Listing) (inner : Box Node Global) → view_node T (Try inner) ≡ programs.try (view_node T inner.value)
view_try T inner = first_of (search (rules, the_lemmas), search (rules, the_lemmas, fold_out-Node))

pub try_does : (T : ℕ → Listing) (p : programs.Program) (levels : ℕ) (inner : Box Node Global) (m : Mode) (s : State) → runs_paid p levels (view_node T (Try inner)) m s ≡ after (runs p levels (view_node T inner.value) m s) (Signals true) (put_back m (saved_cursor s))
try_does T p levels inner m s = ap (λ c. runs_paid p levels c m s) (view_try T inner)
