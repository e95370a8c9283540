-- What the functions of the assembler's cycle owe.
mod AnyCommand
use Rattle.std.proofs.Common.{◌≡◌, ℕ, ◌+◌, ◌-◌, ◌<◌, true, false, [], ◌∷◌, ◌++◌, length, map, take, drop, get_or, refl, sym, ap, subst, ◌∙◌, arith, rules}
use Rattle.std.proofs.lemmas.List.{take_more, take_all, nil_from_length}
use Rattle.std.proofs.lemmas.Bool.Decides.{nat_tests}
use Rattle.std.proofs.lemmas.Result.{IfOk-weaker}
use Rattle.sbl_program.specs.Terms.{class_at}
use Rattle.sbl_program.specs.Program as programs
use Rattle.sbl_program.specs.ProgramOf.{view_action, view_number, view_node, view_nodes, view_next_command}
use Rattle.sbl_program.specs.declared.node.Node.TheVariants.{Act, Sequence, Call}
use Rattle.sbl_program.specs.Actions.{acts, test_grouping}
use Rattle.sbl_program.specs.Rows.{pays}
use Rattle.sbl_program.specs.Run.{runs, all_run, calls}
use Rattle.sbl_program.proofs.Arms.{sequence_does, grouping_does, non_does}
use Rattle.sbl_program.proofs.Turns.{turn_is}
use Rattle.sbl_program.proofs.ChainRuns.{part_is}
use Rattle.sbl_semantics.specs.Control.{pay_first}
use Rattle.sbl_semantics.specs.Slices.{left_bracket}
use Rattle.sbl_semantics.specs.State.{State, Doing, Signals, after, then_on}
use Rattle.sbl_code.specs.Flow.{flow, alone, way_does, wrapped_of, do_of, fail_of, turns_of, loop_of, at_least_of, counted_of, seek_of, backwards_of, limited_of}
use Rattle.sbl_code.specs.Performs.{Performs, PerformsAt, IsRest, ArePerformed}
use Rattle.sbl_code.proofs.Endings.{after_same}
use Rattle.sbl_code.proofs.Instructions.{flow_left_bracket, flow_repeat, flow_loop, flow_at_least, flow_seek, flow_backwards, flow_set_limit}
use Rattle.sbl_code.proofs.PerformingAt.{anywhere, first_step_at, arm_at, in_turn_at, bracket_at, bracket_turn, same_meaning_at}
use Rattle.sbl_code.proofs.Performing.{emitted_at, made_of, same_meaning, first_step, one_step, in_turn, saving, by_itself, failing, repeating, do_arm}
use Rattle.sbl_code.proofs.Rests.{rest_or, rest_and, performed_more}
use Rattle.sbl_code.proofs.ProgramViews.{act_does, call_does, view_joiner, view_command}
use Rattle.sbl_code.proofs.assembler.Assembler.+command.Goals as goal
use Rattle.sbl_code.proofs.assembler.Assembler.+command.Answers.AnyCommand as any_command

pub backwards-returns : goal.backwards-returns
backwards-returns t c =
    let e = c.args.exits.now in
    let o = c.in_ok-next.field-0 in
    let body = c.in_ok-body.body in
    IfOk-weaker c.emit.result _ _
    (λ made is. λ tables n.
    let of = λ (p : programs.Program) (levels : ℕ) (d : Doing). backwards_of d in
    made_of tables of (λ p levels. runs p levels (view_node tables c.args.inner.now)) body.value c.args.cost n e.next.value e.fail.value made.value (c.in_ok-body.ensures tables)
    (emitted_at tables (λ p levels. pay_first (of p levels (alone (flow p levels tables body.value)))) c.args.cost o.next.value o.fail.value e.next.value e.fail.value made.value c.in_ok-next.ensures.0 c.in_ok-next.ensures.1
    (λ p levels m ys s. ap (λ i. flow p levels tables i m ys s) is ∙ flow_backwards p levels tables m ys s c.args.cost body o.next o.fail) n))
    c.emit.ensures

pub seek_any-returns : goal.seek_any-returns
seek_any-returns t c =
    let e = c.args.exits.now in
    let o = c.in_ok-next.field-0 in
    let body = c.in_ok-body.body in
    IfOk-weaker c.emit.result _ _
    (λ made is. λ tables n.
    let of = λ (p : programs.Program) (levels : ℕ) (d : Doing). seek_of c.args.past d in
    made_of tables of (λ p levels. runs p levels (view_node tables c.args.inner.now)) body.value c.args.cost n e.next.value e.fail.value made.value (c.in_ok-body.ensures tables)
    (emitted_at tables (λ p levels. pay_first (of p levels (alone (flow p levels tables body.value)))) c.args.cost o.next.value o.fail.value e.next.value e.fail.value made.value c.in_ok-next.ensures.0 c.in_ok-next.ensures.1
    (λ p levels m ys s. ap (λ i. flow p levels tables i m ys s) is ∙ flow_seek p levels tables m ys s c.args.cost c.args.past body o.next o.fail) n))
    c.emit.ensures

pub iterate-returns-in_ok-next : goal.iterate-returns-in_ok-next
iterate-returns-in_ok-next t c =
    let e = c.args.exits.now in
    let o = c.in_ok-next.field-0 in
    let body = c.in_ok-body.body in
    IfOk-weaker c.emit.result _ _
    (λ made is. λ tables n.
    let of = λ (p : programs.Program) (levels : ℕ) (d : Doing). at_least_of (view_number c.args.count.now) d in
    same_meaning tables (λ p levels. pay_first (at_least_of (view_number c.args.count.now) (runs p levels (view_node tables c.args.inner.now)))) (λ p levels. pay_first (counted_of c.args.repeats (view_number c.args.count.now) (runs p levels (view_node tables c.args.inner.now)))) c.args.cost n e.next.value e.fail.value made.value
    (λ p levels m s. ap (λ b. pay_first (counted_of b (view_number c.args.count.now) (runs p levels (view_node tables c.args.inner.now))) m s) (sym c.if-repeats.true))
    (made_of tables of (λ p levels. runs p levels (view_node tables c.args.inner.now)) body.value c.args.cost n e.next.value e.fail.value made.value (c.in_ok-body.ensures tables)
    (emitted_at tables (λ p levels. pay_first (of p levels (alone (flow p levels tables body.value)))) c.args.cost o.next.value o.fail.value e.next.value e.fail.value made.value c.in_ok-next.ensures.0 c.in_ok-next.ensures.1
    (λ p levels m ys s. ap (λ i. flow p levels tables i m ys s) is ∙ flow_at_least p levels tables m ys s c.args.cost c.in_ok-count.count body o.next o.fail ∙ ap (λ a. then_on (pays c.args.cost s) (λ u. after (pay_first (at_least_of a (alone (flow p levels tables body.value))) m u) (flow p levels tables o.next.value m ys) (flow p levels tables o.fail.value m ys))) (ap view_number c.in_ok-count.ensures.ok ∙ c.in_ok-copy.ensures)) n)))
    c.emit.ensures

pub iterate-returns-in_ok-next-2 : goal.iterate-returns-in_ok-next-2
iterate-returns-in_ok-next-2 t c =
    let e = c.args.exits.now in
    let o = c.in_ok-next-2.field-0 in
    let body = c.in_ok-body.body in
    IfOk-weaker c.emit-else-repeats.result _ _
    (λ made is. λ tables n.
    let of = λ (p : programs.Program) (levels : ℕ) (d : Doing). loop_of (view_number c.args.count.now) d in
    same_meaning tables (λ p levels. pay_first (loop_of (view_number c.args.count.now) (runs p levels (view_node tables c.args.inner.now)))) (λ p levels. pay_first (counted_of c.args.repeats (view_number c.args.count.now) (runs p levels (view_node tables c.args.inner.now)))) c.args.cost n e.next.value e.fail.value made.value
    (λ p levels m s. ap (λ b. pay_first (counted_of b (view_number c.args.count.now) (runs p levels (view_node tables c.args.inner.now))) m s) (sym c.if-repeats.false))
    (made_of tables of (λ p levels. runs p levels (view_node tables c.args.inner.now)) body.value c.args.cost n e.next.value e.fail.value made.value (c.in_ok-body.ensures tables)
    (emitted_at tables (λ p levels. pay_first (of p levels (alone (flow p levels tables body.value)))) c.args.cost o.next.value o.fail.value e.next.value e.fail.value made.value c.in_ok-next-2.ensures.0 c.in_ok-next-2.ensures.1
    (λ p levels m ys s. ap (λ i. flow p levels tables i m ys s) is ∙ flow_loop p levels tables m ys s c.args.cost c.in_ok-count.count body o.next o.fail ∙ ap (λ a. then_on (pays c.args.cost s) (λ u. after (pay_first (loop_of a (alone (flow p levels tables body.value))) m u) (flow p levels tables o.next.value m ys) (flow p levels tables o.fail.value m ys))) (ap view_number c.in_ok-count.ensures.ok ∙ c.in_ok-copy.ensures)) n)))
    c.emit-else-repeats.ensures

pub set_limit-returns : goal.set_limit-returns
set_limit-returns t c =
    let e = c.args.exits.now in
    let o = c.in_ok-next.field-0 in
    let body = c.in_ok-first.first in
    IfOk-weaker c.emit.result _ _
    (λ made is. λ tables n.
    let of = λ (p : programs.Program) (levels : ℕ) (d : Doing). limited_of d (alone (flow p levels tables c.args.second.value)) in
    made_of tables of (λ p levels. runs p levels (view_node tables c.args.first.now)) body.value c.args.cost n e.next.value e.fail.value made.value (c.in_ok-first.ensures tables)
    (emitted_at tables (λ p levels. pay_first (of p levels (alone (flow p levels tables body.value)))) c.args.cost o.next.value o.fail.value e.next.value e.fail.value made.value c.in_ok-next.ensures.0 c.in_ok-next.ensures.1
    (λ p levels m ys s. ap (λ i. flow p levels tables i m ys s) is ∙ flow_set_limit p levels tables m ys s c.args.cost body c.args.second o.next o.fail) n))
    c.emit.ensures

pub repeat-returns : goal.repeat-returns
repeat-returns t c =
    let e = c.args.exits.now in
    let o = c.in_ok-next.next in
    let body = c.in_ok-body.body in
    IfOk-weaker c.emit.result _ _
    (λ made is. λ tables n.
    let of = λ (p : programs.Program) (levels : ℕ) (d : Doing). turns_of d in
    made_of tables of (λ p levels. runs p levels (view_node tables c.args.inner.now)) body.value c.args.cost n e.next.value e.fail.value made.value (c.in_ok-body.ensures tables)
    (emitted_at tables (λ p levels. pay_first (turns_of (alone (flow p levels tables body.value)))) c.args.cost o.value e.fail.value e.next.value e.fail.value made.value c.in_ok-next.ensures.cases refl
    (λ p levels m ys s.
    let w = λ (u : State). pay_first (turns_of (alone (flow p levels tables body.value))) m u in
    ap (λ i. flow p levels tables i m ys s) is ∙ flow_repeat p levels tables m ys s c.args.cost body o
    ∙ after_same (pays c.args.cost s) (λ u. after (w u) (flow p levels tables o.value m ys) (Signals false)) (Signals false) (λ u. after (w u) (flow p levels tables o.value m ys) (flow p levels tables e.fail.value m ys)) (Signals false)
    (λ u. repeating (alone (flow p levels tables body.value)) m u (flow p levels tables o.value m ys) (Signals false) (flow p levels tables e.fail.value m ys)) (λ u. refl)) n))
    c.emit.ensures

pub body-returns : goal.body-returns
body-returns t c =
    IfOk-weaker c.command.result _ _
    (λ made h. λ tables. by_itself tables (λ p levels. runs p levels (view_node tables c.args.inner.now)) c.in_ok-ends.ends.next.value c.in_ok-ends.ends.fail.value made.value c.in_ok-ends.ensures.0 c.in_ok-ends.ensures.1 (h tables))
    c.command.ensures

pub groups-returns : goal.groups-returns
groups-returns t c =
    let nodes = c.args.bodies.now in
    let i = c.loop-body.body-index in
    IfOk-weaker c.choose.result _ _
    (λ made h. λ tables. h tables nodes c.args.slot (subst (λ xs. ArePerformed tables xs c.args.slot c.args.exits.now c.loop-body.entries.items) (take_all i nodes (omega (arith, c.loop-body-test.false))) (c.loop-body.invariant tables)))
    c.choose.ensures

pub among-returns : goal.among-returns
among-returns t c =
    let e = c.args.exits.now in
    IfOk-weaker c.sequence.result _ _
    (λ made h. λ tables chosen choosing.
    let run = λ (p : programs.Program) (levels : ℕ). all_run p levels (view_nodes tables c.args.before.now) in
    let q = subst (λ x. Performs tables run c.in_ok-more.field-0 c.args.slot c.args.choose.value x made.value) c.in_ok-clone.ensures.cases (h tables) in
    first_step tables (λ p levels m s. after (run p levels m s) (chosen p levels m) (Signals false)) c.args.cost c.in_ok-more.field-0 c.args.slot e.next.value e.fail.value made.value c.in_ok-more.ensures
    (in_turn tables run chosen c.in_ok-more.field-0 c.args.slot e.next.value e.fail.value c.args.choose.value made.value q choosing))
    c.sequence.ensures

pub fail-returns : goal.fail-returns
fail-returns t c =
    let e = c.args.exits.now in
    IfOk-weaker c.command.result _ _
    (λ made h. λ tables.
    let run = λ (p : programs.Program) (levels : ℕ). runs p levels (view_node tables c.args.inner.now) in
    first_step tables (λ p levels. fail_of (run p levels)) c.args.cost c.in_ok-more.field-0 c.args.slot e.next.value e.fail.value made.value c.in_ok-more.ensures
    (failing tables run c.in_ok-more.field-0 c.args.slot e.next.value e.fail.value c.in_ok-clone.field-0.value c.in_ok-clone-2.field-0.value made.value c.in_ok-clone.ensures.cases c.in_ok-clone-2.ensures.cases (h tables)))
    c.command.ensures

pub wrap-returns : goal.wrap-returns
wrap-returns t c =
    let e = c.args.exits.now in
    let place = c.in_ok-place.place in
    let x = place.exits in
    let t' = c.args.after_t in
    let f' = c.args.after_f in
    IfOk-weaker c.save_before.result _ _
    (λ made h. λ tables.
    let run = λ (p : programs.Program) (levels : ℕ). runs p levels (view_node tables c.args.inner.now) in
    one_step tables (λ p levels. wrapped_of (way_does t') (way_does f') (run p levels)) c.args.cost c.args.slot e.next.value e.fail.value made.value
    (h tables (λ p levels. wrapped_of (way_does t') (way_does f') (run p levels)) 1 c.args.slot c.in_ok-place.ensures
    (λ entry saves.
    saving tables run (way_does t') (way_does f') place.cost place.slot x.next.value x.fail.value c.in_ok-way.field-0.value c.in_ok-way-2.field-0.value c.in_ok-entry.entry.value entry c.in_ok-place.ensures.0 saves (c.in_ok-entry.ensures tables)
    (c.in_ok-way.ensures tables) (c.in_ok-way-2.ensures tables))))
    c.save_before.ensures

pub do_command-returns-in_ok-more-in-Call : goal.do_command-returns-in_ok-more-in-Call
do_command-returns-in_ok-more-in-Call t c =
    let e = c.args.exits.now in
    let n = c.in-Call.number in
    let more = c.in_ok-more-in-Call in
    IfOk-weaker c.do_call.result _ _
    (λ made h. λ tables.
    do_arm tables (λ p levels. calls p levels n) c.args.inner.now (Call n) c.args.cost c.args.slot e.next.value e.fail.value made.value c.in-Call.is (λ p levels m s. call_does tables p levels n m s)
    (first_step tables (λ p levels. pay_first (do_of (calls p levels n))) c.args.cost more.field-0 c.args.slot e.next.value e.fail.value made.value more.ensures (h tables c.args.slot)))
    c.do_call.ensures

pub exits_before-returns-in-Or : goal.exits_before-returns-in-Or
exits_before-returns-in-Or t c =
    λ tables exits others row.
    let o = view_next_command tables c.args.other.now in
    rest_or tables c.args.slot exits c.args.rest.now (record { next = c.in_ok-clone-in-Or.field-0; fail = c.in_ok-back.back }) o others c.in_ok-entry.entry.value c.in_ok-back.back.value (view_joiner tables c.args.other.now ∙ c.in-Or.is)
    (subst (λ n. PerformsAt tables (λ p levels. runs p levels n) 0 c.args.slot c.args.rest.now.next.value c.args.rest.now.fail.value c.in_ok-entry.entry.value) (sym (view_command tables c.args.other.now)) (c.in_ok-entry.ensures tables))
    c.in_ok-back.ensures c.in_ok-clone-in-Or.ensures.cases refl row

pub exits_before-returns : goal.exits_before-returns
exits_before-returns t c =
    λ tables exits others row.
    let o = view_next_command tables c.args.other.now in
    rest_and tables c.args.slot exits c.args.rest.now (record { next = c.in_ok-back.back; fail = c.in_ok-clone-in-And.field-0 }) o others c.in_ok-entry.entry.value c.in_ok-back.back.value (view_joiner tables c.args.other.now ∙ c.in-And.is)
    (subst (λ n. PerformsAt tables (λ p levels. runs p levels n) 0 c.args.slot c.args.rest.now.next.value c.args.rest.now.fail.value c.in_ok-entry.entry.value) (sym (view_command tables c.args.other.now)) (c.in_ok-entry.ensures tables))
    c.in_ok-back.ensures refl c.in_ok-clone-in-And.ensures.cases row

pub rest-loop-i-preserved : goal.rest-loop-i-preserved
rest-loop-i-preserved t c =
    let inv = c.loop-i.invariant in
    let os = c.args.others.now in
    let i = c.loop-i.i - 1 in
    let x = c.index-others-i.result in
    let l : i < length os = omega (arith, inv.0, c.loop-i-test.true) in
    let back : i + 1 ≡ c.loop-i.i = omega (arith, c.loop-i-test.true) in
    let at : x ≡ get_or os i x = search rules in (
      omega (arith, inv.0),
      λ tables.
          subst (λ xs. IsRest tables c.args.slot xs c.args.exits.now c.in_ok-rest-2.rest)
          (ap (λ k. view_next_command tables x ∷ map (view_next_command tables) (drop k os)) (sym back) ∙ sym (part_is (view_next_command tables) os i x l at))
          (c.in_ok-rest-2.ensures tables c.args.exits.now (map (view_next_command tables) (drop c.loop-i.i os)) (inv.1 tables)),
    )

pub rest-returns : goal.rest-returns
rest-returns t c =
    let inv = c.loop-i.invariant in
    let none : c.loop-i.i ≡ 0 = omega (arith, c.loop-i-test.false) in
    λ tables. subst (λ k. IsRest tables c.args.slot (map (view_next_command tables) (drop k c.args.others.now)) c.args.exits.now c.loop-i.rest) none (inv.1 tables)

pub groups-loop-body-preserved : goal.groups-loop-body-preserved
groups-loop-body-preserved t c =
    let nodes = c.args.bodies.now in
    let i = c.loop-body.body-index in
    let x = c.body-item.result in
    let l : i < length nodes = search rules in
    let at : x ≡ get_or nodes i x = search rules in
    λ tables.
    let all = performed_more tables (take i nodes) c.args.slot c.args.exits.now c.loop-body.entries.items x _ (c.loop-body.invariant tables) (c.in_ok-first.ensures tables) in
    subst (λ xs. ArePerformed tables xs c.args.slot c.args.exits.now c.push.new.self.items) (ap (λ y. take i nodes ++ (y ∷ [])) at ∙ sym (take_more nodes i x l))
    (subst (λ gs. ArePerformed tables (take i nodes ++ (x ∷ [])) c.args.slot c.args.exits.now gs) (sym c.in_ok-push.ensures.items) all)

pub sequence-returns-then-is_empty : goal.sequence-returns-then-is_empty
sequence-returns-then-is_empty t c =
    let e = c.args.exits.now in
    let zero : length c.args.commands.now ≡ 0 = grind (arith, nat_tests, c.if-is_empty.ensures) in
    let none = nil_from_length c.args.commands.now zero in
    IfOk-weaker c.pay.result _ _
    (λ made h. λ tables.
    same_meaning tables (λ p levels m s. Signals true s) (λ p levels. all_run p levels (view_nodes tables c.args.commands.now)) c.args.cost c.args.slot e.next.value e.fail.value made.value
    (λ p levels m s. ap (λ xs. all_run p levels (view_nodes tables xs) m s) (sym none)) (h tables c.args.slot))
    c.pay.ensures

pub tail-loop-i-preserved : goal.tail-loop-i-preserved
tail-loop-i-preserved t c =
    let inv = c.loop-i.invariant in
    let e = c.args.exits.now in
    let cs = c.args.commands.now in
    let i = c.loop-i.i - 1 in
    let x = c.index-commands-i.result in
    let l : i < length cs = omega (arith, inv.1, c.loop-i-test.true) in
    let back : i + 1 ≡ c.loop-i.i = omega (arith, c.loop-i-test.true) in
    let at : x ≡ get_or cs i x = search rules in (
      omega (arith, c.loop-i-test.true),
      omega (arith, inv.1),
      inv.2,
      λ tables.
          let run = λ (p : programs.Program) (levels : ℕ). runs p levels (view_node tables x) in
          let rest = λ (k : ℕ) (p : programs.Program) (levels : ℕ). all_run p levels (view_nodes tables (drop k cs)) in
          let q = subst (λ y. Performs tables run 0 c.args.slot c.loop-i.now.next.value y c.in_ok-now-2.field-0.value) inv.2 (c.in_ok-now-2.ensures tables) in
          same_meaning tables (λ p levels m s. after (run p levels m s) (rest c.loop-i.i p levels m) (Signals false)) (rest i) 0 c.args.slot e.next.value e.fail.value c.in_ok-now-2.field-0.value
          (λ p levels m s. ap (λ k. after (run p levels m s) (rest k p levels m) (Signals false)) (sym back) ∙ sym (turn_is tables p levels cs i x m s l at))
          (in_turn tables run (rest c.loop-i.i) 0 c.args.slot e.next.value e.fail.value c.loop-i.now.next.value c.in_ok-now-2.field-0.value q (inv.3 tables)),
    )

-- all but the first commands
pub tail-returns-clause-next : goal.tail-returns-clause-next
tail-returns-clause-next t c =
    let inv = c.loop-i.invariant in
    let e = c.args.exits.now in
    let cs = c.args.commands.now in
    let same : c.loop-i.i ≡ c.args.count = omega (arith, inv.0, c.loop-i-test.false) in
    λ tables. subst (λ k. Performs tables (λ p levels. all_run p levels (view_nodes tables (drop k cs))) 0 c.args.slot e.next.value e.fail.value c.loop-i.now.next.value) same (inv.3 tables)

pub sequence-returns : goal.sequence-returns
sequence-returns t c =
    let e = c.args.exits.now in
    let cs = c.args.commands.now in
    let x = c.index-commands-0.result in
    let now = c.in_ok-now.now in
    let l : 0 < length cs = grind (arith, nat_tests, c.if-is_empty.ensures) in
    let at : x ≡ get_or cs 0 x = search rules in
    IfOk-weaker c.command.result _ _
    (λ made h. λ tables.
    let run = λ (p : programs.Program) (levels : ℕ). runs p levels (view_node tables x) in
    let rest = λ (p : programs.Program) (levels : ℕ). all_run p levels (view_nodes tables (drop 1 cs)) in
    let q = subst (λ y. Performs tables run c.args.cost c.args.slot now.next.value y made.value) c.in_ok-now.ensures.fail (h tables) in
    same_meaning tables (λ p levels m s. after (run p levels m s) (rest p levels m) (Signals false)) (λ p levels. all_run p levels (view_nodes tables cs)) c.args.cost c.args.slot e.next.value e.fail.value made.value
    (λ p levels m s. sym (turn_is tables p levels cs 0 x m s l at))
    (in_turn tables run rest c.args.cost c.args.slot e.next.value e.fail.value now.next.value made.value q (c.in_ok-now.ensures.next tables)))
    c.command.ensures

-- ---- commands that begin where the cursor was saved

pub inner-returns-in-Act : goal.inner-returns-in-Act
inner-returns-in-Act t c =
    let e = c.args.exits.now in
    let a = c.in-Act.action in
    IfOk-weaker c.test.result _ _
    (λ made h. λ tables.
    arm_at tables (λ p levels. acts p.groupings (view_action a)) c.args.node.now (Act a) 0 c.args.slot e.next.value e.fail.value made.value c.in-Act.is (λ p levels m s. act_does tables p levels a m s)
    (first_step_at tables (λ p levels. acts p.groupings (view_action a)) 0 1 c.args.slot e.next.value e.fail.value made.value refl (h tables)))
    c.test.ensures

pub inner-returns-in-Sequence : goal.inner-returns-in-Sequence
inner-returns-in-Sequence t c =
    let e = c.args.exits.now in
    let cs = c.deref.result.now in
    IfOk-weaker c.inner_sequence.result _ _
    (λ made h. λ tables.
    arm_at tables (λ p levels. all_run p levels (view_nodes tables cs)) c.args.node.now (Sequence c.in-Sequence.commands) 0 c.args.slot e.next.value e.fail.value made.value c.in-Sequence.is
    (λ p levels m s. sequence_does tables p levels c.in-Sequence.commands m s ∙ ap (λ xs. all_run p levels (view_nodes tables xs) m s) (sym c.deref.ensures.value))
    (first_step_at tables (λ p levels. all_run p levels (view_nodes tables cs)) 0 1 c.args.slot e.next.value e.fail.value made.value refl (h tables)))
    c.inner_sequence.ensures

pub inner-returns-in_default : goal.inner-returns-in_default
inner-returns-in_default t c =
    let e = c.args.exits.now in
    IfOk-weaker c.command.result _ _
    (λ made h. λ tables. anywhere tables (λ p levels. runs p levels (view_node tables c.args.node.now)) 0 c.args.slot (c.args.slot + 1) e.next.value e.fail.value made.value refl (h tables))
    c.command.ensures

pub inner_rest-returns-in_ok-tail-in-Act : goal.inner_rest-returns-in_ok-tail-in-Act
inner_rest-returns-in_ok-tail-in-Act t c =
    let e = c.args.exits.now in
    let cs = c.args.commands.now in
    let x = c.index-commands-1.result in
    let a = c.in-Act.second in
    let tail = c.in_ok-tail-in-Act.tail in
    let l : 1 < length cs = omega (arith, c.requires.many) in
    let at : x ≡ get_or cs 1 x = search rules in
    IfOk-weaker c.test.result _ _
    (λ made h. λ tables.
    let run = λ (p : programs.Program) (levels : ℕ). runs p levels (view_node tables x) in
    let rest = λ (k : ℕ) (p : programs.Program) (levels : ℕ). all_run p levels (view_nodes tables (drop k cs)) in
    let q = arm_at tables (λ p levels. acts p.groupings (view_action a)) x (Act a) 0 c.args.slot tail.next.value tail.fail.value made.value c.in-Act.is (λ p levels m s. act_does tables p levels a m s) (first_step_at tables (λ p levels. acts p.groupings (view_action a)) 0 1 c.args.slot tail.next.value tail.fail.value made.value refl (h tables)) in
    same_meaning_at tables (λ p levels m s. after (run p levels m s) (rest 2 p levels m) (Signals false)) (rest 1) 0 c.args.slot e.next.value e.fail.value made.value
    (λ p levels m s. sym (turn_is tables p levels cs 1 x m s l at))
    (in_turn_at tables run (rest 2) 0 c.args.slot (c.args.slot + 1) e.next.value e.fail.value tail.next.value made.value refl (subst (λ y. PerformsAt tables run 0 c.args.slot tail.next.value y made.value) c.in_ok-tail-in-Act.ensures.fail q) (c.in_ok-tail-in-Act.ensures.next tables)))
    c.test.ensures

pub inner_rest-returns-in_ok-tail-in_default : goal.inner_rest-returns-in_ok-tail-in_default
inner_rest-returns-in_ok-tail-in_default t c =
    let e = c.args.exits.now in
    let tail = c.in_ok-tail-in_default.tail in
    λ tables. anywhere tables (λ p levels. all_run p levels (view_nodes tables (drop 1 c.args.commands.now))) 0 c.args.slot (c.args.slot + 1) e.next.value e.fail.value tail.next.value refl (c.in_ok-tail-in_default.ensures.next tables)

pub inner_sequence-returns-then-commands-lt2 : goal.inner_sequence-returns-then-commands-lt2
inner_sequence-returns-then-commands-lt2 t c =
    let e = c.args.exits.now in
    IfOk-weaker c.sequence.result _ _
    (λ made h. λ tables. anywhere tables (λ p levels. all_run p levels (view_nodes tables c.args.commands.now)) 1 c.args.slot (c.args.slot + 1) e.next.value e.fail.value made.value refl (h tables))
    c.sequence.ensures

pub inner_sequence-returns-in_default : goal.inner_sequence-returns-in_default
inner_sequence-returns-in_default t c =
    let e = c.args.exits.now in
    IfOk-weaker c.sequence-in_default.result _ _
    (λ made h. λ tables. anywhere tables (λ p levels. all_run p levels (view_nodes tables c.args.commands.now)) 1 c.args.slot (c.args.slot + 1) e.next.value e.fail.value made.value refl (h tables))
    c.sequence-in_default.ensures

pub inner_sequence-returns-in_ok-next-in-LeftBracket : goal.inner_sequence-returns-in_ok-next-in-LeftBracket
inner_sequence-returns-in_ok-next-in-LeftBracket t c =
    let e = c.args.exits.now in
    let cs = c.args.commands.now in
    let x = c.index-commands-0.result in
    let o = c.in_ok-next-in-LeftBracket.next in
    let l : 0 < length cs = omega (arith, c.if-commands-lt2.false) in
    let at : x ≡ get_or cs 0 x = search rules in
    IfOk-weaker c.emit.result _ _
    (λ made is. λ tables.
    let rest = λ (p : programs.Program) (levels : ℕ). all_run p levels (view_nodes tables (drop 1 cs)) in
    same_meaning_at tables (λ p levels. pay_first (λ m s. rest p levels m (left_bracket m s))) (λ p levels. all_run p levels (view_nodes tables cs)) 1 c.args.slot e.next.value e.fail.value made.value
    (λ p levels m s. bracket_turn tables p levels cs x c.in-Act.first m s l at c.in-Act.is c.in-LeftBracket.is)
    (first_step_at tables (λ p levels m s. rest p levels m (left_bracket m s)) 1 2 c.args.slot e.next.value e.fail.value made.value refl
    (bracket_at tables rest 2 c.args.slot e.next.value e.fail.value o.value made.value (λ p levels m ys s. ap (λ i. flow p levels tables i m ys s) is ∙ flow_left_bracket p levels tables m ys s 2 o) (c.in_ok-next-in-LeftBracket.ensures tables))))
    c.emit.ensures

pub inner_sequence-returns-in_ok-now-in_default-first : goal.inner_sequence-returns-in_ok-now-in_default-first
inner_sequence-returns-in_ok-now-in_default-first t c =
    let e = c.args.exits.now in
    let cs = c.args.commands.now in
    let x = c.index-commands-0.result in
    let a = c.in-Act.first in
    let now = c.in_ok-now-in_default-first.now in
    let l : 0 < length cs = omega (arith, c.if-commands-lt2.false) in
    let at : x ≡ get_or cs 0 x = search rules in
    IfOk-weaker c.test.result _ _
    (λ made h. λ tables.
    let run = λ (p : programs.Program) (levels : ℕ). runs p levels (view_node tables x) in
    let rest = λ (p : programs.Program) (levels : ℕ). all_run p levels (view_nodes tables (drop 1 cs)) in
    let q = arm_at tables (λ p levels. acts p.groupings (view_action a)) x (Act a) 1 c.args.slot now.next.value now.fail.value made.value c.in-Act.is (λ p levels m s. act_does tables p levels a m s) (first_step_at tables (λ p levels. acts p.groupings (view_action a)) 1 2 c.args.slot now.next.value now.fail.value made.value refl (h tables)) in
    same_meaning_at tables (λ p levels m s. after (run p levels m s) (rest p levels m) (Signals false)) (λ p levels. all_run p levels (view_nodes tables cs)) 1 c.args.slot e.next.value e.fail.value made.value
    (λ p levels m s. sym (turn_is tables p levels cs 0 x m s l at))
    (in_turn_at tables run rest 1 c.args.slot (c.args.slot + 1) e.next.value e.fail.value now.next.value made.value refl (subst (λ y. PerformsAt tables run 1 c.args.slot now.next.value y made.value) c.in_ok-now-in_default-first.ensures.fail q) (c.in_ok-now-in_default-first.ensures.next tables)))
    c.test.ensures

pub seek-returns-in_ok-more-in-Grouping : goal.seek-returns-in_ok-more-in-Grouping
seek-returns-in_ok-more-in-Grouping t c =
    let e = c.args.exits.now in
    let n = c.in-Grouping.number in
    let more = c.in_ok-more-in-Grouping in
    IfOk-weaker c.seek_grouping.result _ _
    (λ made h. λ tables k.
    let test = λ (p : programs.Program). pay_first (test_grouping true (class_at p.groupings n) n) in
    same_meaning tables (λ p levels. pay_first (seek_of c.args.past (test p))) (λ p levels. pay_first (seek_of c.args.past (runs p levels (view_node tables c.args.inner.now)))) c.args.cost k e.next.value e.fail.value made.value
    (λ p levels m s. ap (λ d. pay_first (seek_of c.args.past d) m s) (sym (ap (λ y. runs p levels (view_node tables y)) c.in-Act.is ∙ ap (λ y. runs p levels (view_node tables (Act y))) c.in-Grouping.is ∙ grouping_does tables p levels n)))
    (first_step tables (λ p levels. seek_of c.args.past (test p)) c.args.cost more.field-0 k e.next.value e.fail.value made.value more.ensures (h tables k)))
    c.seek_grouping.ensures

pub seek-returns-in_ok-more-in-NonGrouping : goal.seek-returns-in_ok-more-in-NonGrouping
seek-returns-in_ok-more-in-NonGrouping t c =
    let e = c.args.exits.now in
    let n = c.in-NonGrouping.number in
    let more = c.in_ok-more-in-NonGrouping in
    IfOk-weaker c.seek_grouping-in-NonGrouping.result _ _
    (λ made h. λ tables k.
    let test = λ (p : programs.Program). pay_first (test_grouping false (class_at p.groupings n) n) in
    same_meaning tables (λ p levels. pay_first (seek_of c.args.past (test p))) (λ p levels. pay_first (seek_of c.args.past (runs p levels (view_node tables c.args.inner.now)))) c.args.cost k e.next.value e.fail.value made.value
    (λ p levels m s. ap (λ d. pay_first (seek_of c.args.past d) m s) (sym (ap (λ y. runs p levels (view_node tables y)) c.in-Act.is ∙ ap (λ y. runs p levels (view_node tables (Act y))) c.in-NonGrouping.is ∙ non_does tables p levels n)))
    (first_step tables (λ p levels. seek_of c.args.past (test p)) c.args.cost more.field-0 k e.next.value e.fail.value made.value more.ensures (h tables k)))
    c.seek_grouping-in-NonGrouping.ensures

-- ---- any command

pub command-returns-in_ok-more-in-Act : goal.command-returns-in_ok-more-in-Act
command-returns-in_ok-more-in-Act = any_command.command-returns-in_ok-more-in-Act

pub command-returns-in_ok-more-in-Sequence : goal.command-returns-in_ok-more-in-Sequence
command-returns-in_ok-more-in-Sequence = any_command.command-returns-in_ok-more-in-Sequence

pub command-returns-in-Not : goal.command-returns-in-Not
command-returns-in-Not = any_command.command-returns-in-Not

pub command-returns-in-Test : goal.command-returns-in-Test
command-returns-in-Test = any_command.command-returns-in-Test

pub command-returns-in-Try : goal.command-returns-in-Try
command-returns-in-Try = any_command.command-returns-in-Try

pub command-returns-in-Do : goal.command-returns-in-Do
command-returns-in-Do = any_command.command-returns-in-Do

pub command-returns-in-Fail : goal.command-returns-in-Fail
command-returns-in-Fail = any_command.command-returns-in-Fail

pub command-returns-in-Repeat : goal.command-returns-in-Repeat
command-returns-in-Repeat = any_command.command-returns-in-Repeat

pub command-returns-in-Backwards : goal.command-returns-in-Backwards
command-returns-in-Backwards = any_command.command-returns-in-Backwards

pub command-returns-in-Goto : goal.command-returns-in-Goto
command-returns-in-Goto = any_command.command-returns-in-Goto

pub command-returns-in-GoPast : goal.command-returns-in-GoPast
command-returns-in-GoPast = any_command.command-returns-in-GoPast

pub command-returns-in-Loop : goal.command-returns-in-Loop
command-returns-in-Loop = any_command.command-returns-in-Loop

pub command-returns-in-AtLeast : goal.command-returns-in-AtLeast
command-returns-in-AtLeast = any_command.command-returns-in-AtLeast

pub command-returns-in-Call : goal.command-returns-in-Call
command-returns-in-Call = any_command.command-returns-in-Call

pub command-returns-in-Search : goal.command-returns-in-Search
command-returns-in-Search = any_command.command-returns-in-Search

pub command-returns-in_ok-second-in-SetLimit : goal.command-returns-in_ok-second-in-SetLimit
command-returns-in_ok-second-in-SetLimit = any_command.command-returns-in_ok-second-in-SetLimit

pub command-returns-in_ok-choose-in-Among : goal.command-returns-in_ok-choose-in-Among
command-returns-in_ok-choose-in-Among = any_command.command-returns-in_ok-choose-in-Among

pub command-returns-then-is_empty : goal.command-returns-then-is_empty
command-returns-then-is_empty = any_command.command-returns-then-is_empty

pub command-returns-in_ok-entry-in-Row : goal.command-returns-in_ok-entry-in-Row
command-returns-in_ok-entry-in-Row = any_command.command-returns-in_ok-entry-in-Row
