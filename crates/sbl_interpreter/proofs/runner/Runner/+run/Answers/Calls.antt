-- What instructions call: turns, searches and calls.
use Rattle.std.proofs.Common.{◌≡◌, true, false, Ok, Err, refl, ◌<◌, [], ◌∷◌, ◌++◌, ◌≤◌, sym, ap, ◌∙◌, arith, rules, append_assoc}
use Rattle.std.specs.Prelude.{slice_get, ◌-◌}
use Rattle.sbl_run_state.specs.Endings.{Follows}
use Rattle.sbl_program.proofs.Arms.{one_more, one_time, time_stops, calls_routine, leave_signals}
use Rattle.sbl_run_state.proofs.EarlyEnds.{by_fault, follows_at, stops_at, tries_halt, leave_halts}
use Rattle.sbl_semantics.specs.State.{Signals}
use Rattle.sbl_program.specs.ProgramOf.{program_of, view_number}
use Rattle.sbl_semantics.specs.Control.{times, count_of, back_in, enter}
use Rattle.sbl_semantics.specs.Numbers.{continue_with}
use Rattle.sbl_program.specs.Arithmetic.{value}
use Rattle.sbl_program.specs.Run.{runs, calls}
use Rattle.sbl_program.specs.Search.{tries, try_one, bound_in}
use Rattle.sbl_program.specs.Listing.{fits_at}
use Rattle.sbl_semantics.specs.Fitting.{first}
use Rattle.sbl_code.specs.Flow.{flow, alone}
use Rattle.sbl_interpreter.proofs.runner.Runner.+run.Goals as goal

pub run_search-loop-place-init : goal.run_search-loop-place-init
run_search-loop-place-init g t c =
    let T = g.T.Tables.listed c.args.self.now.tables.now c.args.table in
    let s = c.args.state.now in
    let fits = fits_at T s.text s.cursor (bound_in c.args.self.now.mode s) in
    let e = ap (λ x. first (fits_at T x c.place.result c.bound.result)) c.text.ensures ∙ ap (λ x. first (fits_at T s.text x c.bound.result)) c.place.ensures.value ∙ ap (λ x. first (fits_at T s.text s.cursor x)) c.bound.ensures.value in
    ([], fits, refl, c.longest-place.ensures ∙ e, refl, omega arith)

pub run_search-loop-place-preserved : goal.run_search-loop-place-preserved
run_search-loop-place-preserved g t c =
    let inv = c.loop-place.invariant in
    let s0 = c.args.state.now in
    let es = c.args.entries.now in
    let call = calls (program_of (g.T.Tables.listed c.args.self.now.tables.now) c.args.self.now.code.now) c.args.self.now.levels in
    let o = one_more call c.args.among es c.args.self.now.mode s0 inv.1 c.in-Some.i c.loop-place.state c.loop-place.place inv.3 c.in-Some.is in
    let follow = tries call c.args.among es c.args.self.now.mode s0 o.0 in
    let i = c.in-Some.i in
    let b : c.in-Ok-false.field-0 ≡ false = search rules in
    let cut = inv.2 ∙ ap (λ r. inv.0 ++ r) o.1 in
    let steps : c.try_string.new.state.steps ≤ s0.steps = omega (arith, c.in-Ok-false.ensures.no_more, inv.5) in
    (inv.0 ++ (i ∷ []), o.0, cut ∙ sym (append_assoc inv.0 (i ∷ []) o.0), c.next_shorter-place.ensures s0.text s0.cursor (bound_in c.args.self.now.mode s0) inv.0 o.0 cut, sym (rw b at (c.in-Ok-false.ensures.tried s0 follow c.saved_cursor-from.ensures.value)) ∙ sym o.2 ∙ inv.4, steps)

pub run_search-returns-in-Err-clause-follows : goal.run_search-returns-in-Err-clause-follows
run_search-returns-in-Err-clause-follows g t c =
    let inv = c.loop-place.invariant in
    let s0 = c.args.state.now in
    let es = c.args.entries.now in
    let call = calls (program_of (g.T.Tables.listed c.args.self.now.tables.now) c.args.self.now.code.now) c.args.self.now.levels in
    let o = one_more call c.args.among es c.args.self.now.mode s0 inv.1 c.in-Some.i c.loop-place.state c.loop-place.place inv.3 c.in-Some.is in
    let follow = tries call c.args.among es c.args.self.now.mode s0 o.0 in
    tries_halt c.in-Err.halt c.try_string.new.state (try_one call c.args.among (slice_get es c.in-Some.i) c.args.self.now.mode s0 c.loop-place.state follow) (follow c.try_string.new.state) _ (c.in-Err.ensures.tried s0 follow c.saved_cursor-from.ensures.value) (sym o.2 ∙ inv.4)

pub run_search-returns-in-Ok-true-clause-follows : goal.run_search-returns-in-Ok-true-clause-follows
run_search-returns-in-Ok-true-clause-follows g t c =
    let inv = c.loop-place.invariant in
    let s0 = c.args.state.now in
    let es = c.args.entries.now in
    let call = calls (program_of (g.T.Tables.listed c.args.self.now.tables.now) c.args.self.now.code.now) c.args.self.now.levels in
    let o = one_more call c.args.among es c.args.self.now.mode s0 inv.1 c.in-Some.i c.loop-place.state c.loop-place.place inv.3 c.in-Some.is in
    let follow = tries call c.args.among es c.args.self.now.mode s0 o.0 in
    let b : c.in-Ok-true.field-0 ≡ true = search rules in
    sym (sym o.2 ∙ inv.4) ∙ (rw b at (c.in-Ok-true.ensures.tried s0 follow c.saved_cursor-from.ensures.value))

pub run_call-returns-in_err-signal-in-Some-clause-follows : goal.run_call-returns-in_err-signal-in-Some-clause-follows
run_call-returns-in_err-signal-in-Some-clause-follows g t c =
    let T = g.T.Tables.listed c.args.self.now.tables.now in
    let p = program_of T c.args.self.now.code.now in
    let levels = c.args.self.now.levels in
    let m = c.args.self.now.mode in
    let s = c.args.state.now in
    let code = c.in-Some.routine.now in
    let new = c.run_body.new.state in
    let some : 0 < levels = omega (arith, c.if-self-eq0.false) in
    let is = c.in-Some.ensures T in
    let q = calls_routine p levels c.args.number m s is.0 some is.1 in
    let entered : c.enter.new.self ≡ enter c.args.number code.amongs s = c.in_ok-kept-in-Some.ensures.entered in
    let k = ap (λ x. alone (flow p (levels - 1) T x) m c.enter.new.self) c.deref.ensures ∙ ap (alone (flow p (levels - 1) T code.first.value) m) (entered ∙ ap (λ n. enter c.args.number n s) is.2.amongs) ∙ is.2.does p (levels - 1) m (enter c.args.number is.0.amongs s) in
    let body = runs p (levels - 1) is.0.body m (enter c.args.number is.0.amongs s) in
    let halt = c.in_err-signal-in-Some.field-0.0 in
    let r : c.from_residual-in_err-signal-in-Some.result ≡ Err halt = search rules in
    let h : Follows (Err halt) new body = follows_at (Err halt) new _ _ (sym k) c.in_err-signal-in-Some.ensures.follows in
    rw r (follows_at (Err halt) new _ _ q (leave_halts s.routine s.choices halt new body h))

pub run_call-returns-in_ok-leave-in-Some-clause-follows : goal.run_call-returns-in_ok-leave-in-Some-clause-follows
run_call-returns-in_ok-leave-in-Some-clause-follows g t c =
    let T = g.T.Tables.listed c.args.self.now.tables.now in
    let p = program_of T c.args.self.now.code.now in
    let levels = c.args.self.now.levels in
    let m = c.args.self.now.mode in
    let s = c.args.state.now in
    let code = c.in-Some.routine.now in
    let new = c.run_body.new.state in
    let some : 0 < levels = omega (arith, c.if-self-eq0.false) in
    let is = c.in-Some.ensures T in
    let q = calls_routine p levels c.args.number m s is.0 some is.1 in
    let entered : c.enter.new.self ≡ enter c.args.number code.amongs s = c.in_ok-kept-in-Some.ensures.entered in
    let k = ap (λ x. alone (flow p (levels - 1) T x) m c.enter.new.self) c.deref.ensures ∙ ap (alone (flow p (levels - 1) T code.first.value) m) (entered ∙ ap (λ n. enter c.args.number n s) is.2.amongs) ∙ is.2.does p (levels - 1) m (enter c.args.number is.0.amongs s) in
    let body = runs p (levels - 1) is.0.body m (enter c.args.number is.0.amongs s) in
    let b = c.in_ok-signal-in-Some.signal in
    let h : body ≡ Signals b new = sym k ∙ c.in_ok-signal-in-Some.ensures.follows in
    let kept : c.in_ok-kept-in-Some.kept ≡ s.choices = c.in_ok-kept-in-Some.ensures.kept in
    q ∙ leave_signals s.routine s.choices body b new h ∙ ap (λ i. Signals b (back_in i s.choices b new)) (sym c.routine-caller.ensures) ∙ ap (λ cs. Signals b (back_in c.routine-caller.result cs b new)) (sym kept) ∙ ap (Signals b) (sym c.in_ok-leave-in-Some.ensures)

pub run_times-loop-left-preserved : goal.run_times-loop-left-preserved
run_times-loop-left-preserved g t c =
    let inv = c.loop-left.invariant in
    let T = g.T.Tables.listed c.args.self.now.tables.now in
    let D = alone (flow (program_of T c.args.self.now.code.now) c.args.self.now.levels T c.args.body.now) in
    let m = c.args.self.now.mode in
    let s = c.loop-left.state in
    let new = c.run_from.new.state in
    let b : c.in_ok-run_from.field-0 ≡ true = search rules in
    let e : D m s ≡ Signals true new = c.in_ok-run_from.ensures.follows ∙ ap (λ v. Signals v new) b in
    let some : 0 < c.loop-left.left = omega (arith, c.loop-left-test.true) in
    let no_more : new.steps ≤ s.steps = c.in_ok-run_from.ensures.no_more in
    let steps : new.steps ≤ c.args.state.now.steps = omega (arith, no_more, inv.1) in
    (one_time c.loop-left.left D m s new _ some e inv.0, steps)

pub run_times-returns-in_err-run_from-clause-follows : goal.run_times-returns-in_err-run_from-clause-follows
run_times-returns-in_err-run_from-clause-follows g t c =
    let T = g.T.Tables.listed c.args.self.now.tables.now in
    let D = alone (flow (program_of T c.args.self.now.code.now) c.args.self.now.levels T c.args.body.now) in
    let m = c.args.self.now.mode in
    let s = c.loop-left.state in
    let u = c.run_from.new.state in
    let inv = c.loop-left.invariant in
    let number = c.in_ok-number.number in
    let halt = c.in_err-run_from.field-0.0 in
    let r : c.from_residual-in_err-run_from.result ≡ Err halt = search rules in
    let some : 0 < c.loop-left.left = omega (arith, c.loop-left-test.true) in
    let v : value (view_number c.args.count.now) m c.args.state.now ≡ Ok number = search rules in
    let left : c.count_of-left.result ≡ count_of number = search rules in
    rw r (by_fault halt u _ (λ fault is. ap (λ r. continue_with r c.args.state.now (λ z. times (count_of z) D m c.args.state.now)) v ∙ ap (λ n. times n D m c.args.state.now) (sym left) ∙ sym inv.0 ∙ time_stops c.loop-left.left D m s u fault some (stops_at halt u _ fault is c.in_err-run_from.ensures.follows)))
