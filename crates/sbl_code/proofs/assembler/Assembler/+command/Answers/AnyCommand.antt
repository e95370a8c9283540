-- What the function owes that makes the instructions of any command.
use Rattle.std.proofs.Common.{◌≡◌, ℕ, ◌-◌, suc, true, false, length, map, sym, ap, ◌∙◌, arith, rules}
use Rattle.std.proofs.lemmas.List.{length-map, nil_from_length}
use Rattle.std.proofs.lemmas.Bool.Decides.{nat_tests}
use Rattle.std.proofs.lemmas.Result.{IfOk-weaker}
use Rattle.sbl_ast.specs.declared.mode.Mode.{Mode}
use Rattle.sbl_program.specs.Program as programs
use Rattle.sbl_program.specs.ProgramOf.{view_action, view_number, view_node, view_nodes, view_next_command}
use Rattle.sbl_program.specs.declared.node.Node.TheVariants.{Act, Sequence, Row, Not, Test, Try, Do, Fail, Repeat, Loop, AtLeast, Goto, GoPast, Backwards, SetLimit, Call, Search, Among}
use Rattle.sbl_program.specs.Actions.{acts}
use Rattle.sbl_program.specs.Rows.{pays, row_runs, others_run}
use Rattle.sbl_program.specs.Run.{runs, all_run, group_runs, calls}
use Rattle.sbl_program.specs.Search.{search_all}
use Rattle.sbl_program.proofs.Arms.{sequence_does, not_does, test_does, try_does, do_does, fail_does, repeat_does, loop_does, atleast_does, goto_does, gopast_does, backwards_does, setlimit_does, search_does, among_does}
use Rattle.sbl_program.proofs.ChainRuns.{row_does}
use Rattle.sbl_semantics.specs.Choices.{choice}
use Rattle.sbl_semantics.specs.Control.{pay_first}
use Rattle.sbl_semantics.specs.State.{State, Signals, after, then_on, pay, saved_cursor}
use Rattle.sbl_code.specs.Flow.{flow, alone, not_of, test_of, try_of, do_of, fail_of, turns_of, loop_of, at_least_of, seek_of, backwards_of, limited_of}
use Rattle.sbl_code.proofs.Endings.{after_after}
use Rattle.sbl_code.proofs.Performing.{runs_as, same_meaning, first_step, arm}
use Rattle.sbl_code.proofs.Rests.{saving_row}
use Rattle.sbl_code.proofs.ProgramViews.{act_does, call_does}
use Rattle.sbl_code.proofs.assembler.Assembler.+command.Goals as goal

pub command-returns-in_ok-more-in-Act : goal.command-returns-in_ok-more-in-Act
command-returns-in_ok-more-in-Act t c = IfOk-weaker c.act.result _ _ (λ made h. λ tables. arm tables (λ p levels. acts p.groupings (view_action c.in-Act.action)) c.args.node.now (Act c.in-Act.action) c.args.cost c.args.slot c.args.exits.now.next.value c.args.exits.now.fail.value made.value c.in-Act.is (λ p levels m s. act_does tables p levels c.in-Act.action m s) (first_step tables (λ p levels. acts p.groupings (view_action c.in-Act.action)) c.args.cost c.in_ok-more-in-Act.field-0 c.args.slot c.args.exits.now.next.value c.args.exits.now.fail.value made.value c.in_ok-more-in-Act.ensures (h tables c.args.slot))) c.act.ensures

pub command-returns-in_ok-more-in-Sequence : goal.command-returns-in_ok-more-in-Sequence
command-returns-in_ok-more-in-Sequence t c = IfOk-weaker c.sequence.result _ _ (λ made h. λ tables. arm tables (λ p levels. all_run p levels (view_nodes tables c.deref.result.now)) c.args.node.now (Sequence c.in-Sequence.commands) c.args.cost c.args.slot c.args.exits.now.next.value c.args.exits.now.fail.value made.value c.in-Sequence.is (λ p levels m s. sequence_does tables p levels c.in-Sequence.commands m s ∙ ap (λ xs. all_run p levels (view_nodes tables xs) m s) (sym c.deref.ensures.value)) (first_step tables (λ p levels. all_run p levels (view_nodes tables c.deref.result.now)) c.args.cost c.in_ok-more-in-Sequence.field-0 c.args.slot c.args.exits.now.next.value c.args.exits.now.fail.value made.value c.in_ok-more-in-Sequence.ensures (h tables))) c.sequence.ensures

pub command-returns-in-Not : goal.command-returns-in-Not
command-returns-in-Not t c = IfOk-weaker c.wrap.result _ _ (λ made h. λ tables. arm tables (λ p levels. not_of (runs p levels (view_node tables c.deref-in-Not.result.now))) c.args.node.now (Not c.in-Not.inner) c.args.cost c.args.slot c.args.exits.now.next.value c.args.exits.now.fail.value made.value c.in-Not.is (λ p levels m s. not_does tables p levels c.in-Not.inner m s ∙ ap (λ y. not_of (runs p levels (view_node tables y)) m s) (sym c.deref-in-Not.ensures)) (h tables)) c.wrap.ensures

pub command-returns-in-Test : goal.command-returns-in-Test
command-returns-in-Test t c = IfOk-weaker c.wrap-in-Test.result _ _ (λ made h. λ tables. arm tables (λ p levels. test_of (runs p levels (view_node tables c.deref-in-Test.result.now))) c.args.node.now (Test c.in-Test.inner) c.args.cost c.args.slot c.args.exits.now.next.value c.args.exits.now.fail.value made.value c.in-Test.is (λ p levels m s. test_does tables p levels c.in-Test.inner m s ∙ ap (λ y. test_of (runs p levels (view_node tables y)) m s) (sym c.deref-in-Test.ensures)) (h tables)) c.wrap-in-Test.ensures

pub command-returns-in-Try : goal.command-returns-in-Try
command-returns-in-Try t c = IfOk-weaker c.wrap-in-Try.result _ _ (λ made h. λ tables. arm tables (λ p levels. try_of (runs p levels (view_node tables c.deref-in-Try.result.now))) c.args.node.now (Try c.in-Try.inner) c.args.cost c.args.slot c.args.exits.now.next.value c.args.exits.now.fail.value made.value c.in-Try.is (λ p levels m s. try_does tables p levels c.in-Try.inner m s ∙ ap (λ y. try_of (runs p levels (view_node tables y)) m s) (sym c.deref-in-Try.ensures)) (h tables)) c.wrap-in-Try.ensures

pub command-returns-in-Do : goal.command-returns-in-Do
command-returns-in-Do t c = IfOk-weaker c.do_command.result _ _ (λ made h. λ tables. arm tables (λ p levels. do_of (runs p levels (view_node tables c.deref-in-Do.result.now))) c.args.node.now (Do c.in-Do.inner) c.args.cost c.args.slot c.args.exits.now.next.value c.args.exits.now.fail.value made.value c.in-Do.is (λ p levels m s. do_does tables p levels c.in-Do.inner m s ∙ ap (λ y. do_of (runs p levels (view_node tables y)) m s) (sym c.deref-in-Do.ensures)) (h tables)) c.do_command.ensures

pub command-returns-in-Fail : goal.command-returns-in-Fail
command-returns-in-Fail t c = IfOk-weaker c.fail.result _ _ (λ made h. λ tables. arm tables (λ p levels. fail_of (runs p levels (view_node tables c.deref-in-Fail.result.now))) c.args.node.now (Fail c.in-Fail.inner) c.args.cost c.args.slot c.args.exits.now.next.value c.args.exits.now.fail.value made.value c.in-Fail.is (λ p levels m s. fail_does tables p levels c.in-Fail.inner m s ∙ ap (λ y. fail_of (runs p levels (view_node tables y)) m s) (sym c.deref-in-Fail.ensures)) (h tables)) c.fail.ensures

pub command-returns-in-Repeat : goal.command-returns-in-Repeat
command-returns-in-Repeat t c = IfOk-weaker c.repeat.result _ _ (λ made h. λ tables. arm tables (λ p levels. turns_of (runs p levels (view_node tables c.deref-in-Repeat.result.now))) c.args.node.now (Repeat c.in-Repeat.inner) c.args.cost c.args.slot c.args.exits.now.next.value c.args.exits.now.fail.value made.value c.in-Repeat.is (λ p levels m s. repeat_does tables p levels c.in-Repeat.inner m s ∙ ap (λ y. turns_of (runs p levels (view_node tables y)) m s) (sym c.deref-in-Repeat.ensures)) (h tables c.args.slot)) c.repeat.ensures

pub command-returns-in-Backwards : goal.command-returns-in-Backwards
command-returns-in-Backwards t c = IfOk-weaker c.backwards.result _ _ (λ made h. λ tables. arm tables (λ p levels. backwards_of (runs p levels (view_node tables c.deref-in-Backwards.result.now))) c.args.node.now (Backwards c.in-Backwards.inner) c.args.cost c.args.slot c.args.exits.now.next.value c.args.exits.now.fail.value made.value c.in-Backwards.is (λ p levels m s. backwards_does tables p levels c.in-Backwards.inner m s ∙ ap (λ y. backwards_of (runs p levels (view_node tables y)) m s) (sym c.deref-in-Backwards.ensures)) (h tables c.args.slot)) c.backwards.ensures

pub command-returns-in-Goto : goal.command-returns-in-Goto
command-returns-in-Goto t c = IfOk-weaker c.seek.result _ _ (λ made h. λ tables. arm tables (λ p levels. seek_of false (runs p levels (view_node tables c.deref-in-Goto.result.now))) c.args.node.now (Goto c.in-Goto.inner) c.args.cost c.args.slot c.args.exits.now.next.value c.args.exits.now.fail.value made.value c.in-Goto.is (λ p levels m s. goto_does tables p levels c.in-Goto.inner m s ∙ ap (λ y. seek_of false (runs p levels (view_node tables y)) m s) (sym c.deref-in-Goto.ensures)) (h tables c.args.slot)) c.seek.ensures

pub command-returns-in-GoPast : goal.command-returns-in-GoPast
command-returns-in-GoPast t c = IfOk-weaker c.seek-in-GoPast.result _ _ (λ made h. λ tables. arm tables (λ p levels. seek_of true (runs p levels (view_node tables c.deref-in-GoPast.result.now))) c.args.node.now (GoPast c.in-GoPast.inner) c.args.cost c.args.slot c.args.exits.now.next.value c.args.exits.now.fail.value made.value c.in-GoPast.is (λ p levels m s. gopast_does tables p levels c.in-GoPast.inner m s ∙ ap (λ y. seek_of true (runs p levels (view_node tables y)) m s) (sym c.deref-in-GoPast.ensures)) (h tables c.args.slot)) c.seek-in-GoPast.ensures

pub command-returns-in-Loop : goal.command-returns-in-Loop
command-returns-in-Loop t c = IfOk-weaker c.iterate.result _ _ (λ made h. λ tables. arm tables (λ p levels. loop_of (view_number c.in-Loop.count) (runs p levels (view_node tables c.deref-in-Loop.result.now))) c.args.node.now (Loop c.in-Loop.count c.in-Loop.inner) c.args.cost c.args.slot c.args.exits.now.next.value c.args.exits.now.fail.value made.value c.in-Loop.is (λ p levels m s. loop_does tables p levels c.in-Loop.count c.in-Loop.inner m s ∙ ap (λ y. loop_of (view_number c.in-Loop.count) (runs p levels (view_node tables y)) m s) (sym c.deref-in-Loop.ensures)) (h tables c.args.slot)) c.iterate.ensures

pub command-returns-in-AtLeast : goal.command-returns-in-AtLeast
command-returns-in-AtLeast t c = IfOk-weaker c.iterate-in-AtLeast.result _ _ (λ made h. λ tables. arm tables (λ p levels. at_least_of (view_number c.in-AtLeast.count) (runs p levels (view_node tables c.deref-in-AtLeast.result.now))) c.args.node.now (AtLeast c.in-AtLeast.count c.in-AtLeast.inner) c.args.cost c.args.slot c.args.exits.now.next.value c.args.exits.now.fail.value made.value c.in-AtLeast.is (λ p levels m s. atleast_does tables p levels c.in-AtLeast.count c.in-AtLeast.inner m s ∙ ap (λ y. at_least_of (view_number c.in-AtLeast.count) (runs p levels (view_node tables y)) m s) (sym c.deref-in-AtLeast.ensures)) (h tables c.args.slot)) c.iterate-in-AtLeast.ensures

pub command-returns-in-Call : goal.command-returns-in-Call
command-returns-in-Call t c = IfOk-weaker c.call.result _ _ (λ made h. λ tables. arm tables (λ p levels. calls p levels c.in-Call.number) c.args.node.now (Call c.in-Call.number) c.args.cost c.args.slot c.args.exits.now.next.value c.args.exits.now.fail.value made.value c.in-Call.is (λ p levels m s. call_does tables p levels c.in-Call.number m s) (h tables c.args.slot)) c.call.ensures

pub command-returns-in-Search : goal.command-returns-in-Search
command-returns-in-Search t c = IfOk-weaker c.search.result _ _ (λ made h. λ tables. arm tables (λ p levels. search_all (calls p levels) c.in-Search.among c.deref-in-Search.result.now (tables c.in-Search.table)) c.args.node.now (Search c.in-Search.among c.in-Search.table c.in-Search.entries) c.args.cost c.args.slot c.args.exits.now.next.value c.args.exits.now.fail.value made.value c.in-Search.is (λ p levels m s. search_does tables p levels c.in-Search.among c.in-Search.table c.in-Search.entries m s ∙ ap (λ xs. search_all (calls p levels) c.in-Search.among xs (tables c.in-Search.table) m s) (sym c.deref-in-Search.ensures.value)) (h tables c.args.slot)) c.search.ensures

pub command-returns-in_ok-second-in-SetLimit : goal.command-returns-in_ok-second-in-SetLimit
command-returns-in_ok-second-in-SetLimit t c = IfOk-weaker c.set_limit.result _ _ (λ made h. λ tables. arm tables (λ p levels. limited_of (runs p levels (view_node tables c.deref-in-SetLimit-2.result.now)) (alone (flow p levels tables c.in_ok-second-in-SetLimit.second.value))) c.args.node.now (SetLimit c.in-SetLimit.first c.in-SetLimit.second) c.args.cost c.args.slot c.args.exits.now.next.value c.args.exits.now.fail.value made.value c.in-SetLimit.is (λ p levels m s. setlimit_does tables p levels c.in-SetLimit.first c.in-SetLimit.second m s ∙ ap (λ y. limited_of (runs p levels (view_node tables y)) (runs p levels (view_node tables c.in-SetLimit.second.value)) m s) (sym c.deref-in-SetLimit-2.ensures) ∙ ap (λ y. limited_of (runs p levels (view_node tables c.deref-in-SetLimit-2.result.now)) (runs p levels (view_node tables y)) m s) (sym c.deref-in-SetLimit.ensures) ∙ ap (λ d. limited_of (runs p levels (view_node tables c.deref-in-SetLimit-2.result.now)) d m s) (sym (runs_as tables (λ p levels. runs p levels (view_node tables c.deref-in-SetLimit.result.now)) c.in_ok-second-in-SetLimit.second.value (c.in_ok-second-in-SetLimit.ensures tables) p levels))) (h tables c.args.slot)) c.set_limit.ensures

pub command-returns-in_ok-choose-in-Among : goal.command-returns-in_ok-choose-in-Among
command-returns-in_ok-choose-in-Among t c = IfOk-weaker c.among.result _ _ (λ made h. λ tables. arm tables (λ p levels m s. after (all_run p levels (view_nodes tables c.deref-in-Among-2.result.now) m s) (λ t. group_runs p levels (view_nodes tables c.deref-in-Among.result.now) (choice c.in-Among.among t) m t) (Signals false)) c.args.node.now (Among c.in-Among.among c.in-Among.before c.in-Among.bodies) c.args.cost c.args.slot c.args.exits.now.next.value c.args.exits.now.fail.value made.value c.in-Among.is (λ p levels m s. among_does tables p levels c.in-Among.among c.in-Among.before c.in-Among.bodies m s ∙ ap (λ xs. after (all_run p levels (view_nodes tables xs) m s) (λ t. group_runs p levels (view_nodes tables c.in-Among.bodies.items) (choice c.in-Among.among t) m t) (Signals false)) (sym c.deref-in-Among-2.ensures.value) ∙ ap (λ xs. after (all_run p levels (view_nodes tables c.deref-in-Among-2.result.now) m s) (λ t. group_runs p levels (view_nodes tables xs) (choice c.in-Among.among t) m t) (Signals false)) (sym c.deref-in-Among.ensures.value)) (h tables (λ p levels m t. group_runs p levels (view_nodes tables c.deref-in-Among.result.now) (choice c.in-Among.among t) m t) (c.in_ok-choose-in-Among.ensures tables))) c.among.ensures

pub command-returns-then-is_empty : goal.command-returns-then-is_empty
command-returns-then-is_empty t c =
    let e = c.args.exits.now in
    let a = c.in-Row in
    let first = c.deref-then-is_empty.result.now in
    let more = c.in_ok-more-in-Row in
    let zero : length a.others.items ≡ 0 = grind (arith, nat_tests, c.if-is_empty.ensures) in
    let none = nil_from_length a.others.items zero in
    IfOk-weaker c.command.result _ _
    (λ made h. λ tables.
    let run = λ (p : programs.Program) (levels : ℕ). runs p levels (view_node tables first) in
    arm tables run c.args.node.now (Row a.first a.others) c.args.cost c.args.slot e.next.value e.fail.value made.value a.is
    (λ p levels m s. row_does tables p levels a.first a.others m s ∙ ap (λ xs. row_runs p levels (view_node tables a.first.value) (map (view_next_command tables) xs) m s) none ∙ ap (λ y. runs p levels (view_node tables y) m s) (sym c.deref-then-is_empty.ensures))
    (first_step tables run c.args.cost more.field-0 c.args.slot e.next.value e.fail.value made.value more.ensures (h tables)))
    c.command.ensures

pub command-returns-in_ok-entry-in-Row : goal.command-returns-in_ok-entry-in-Row
command-returns-in_ok-entry-in-Row t c =
    let e = c.args.exits.now in
    let a = c.in-Row in
    let first = c.deref-in-Row-2.result.now in
    let others = c.deref-in-Row.result.now in
    let place = c.in_ok-place-in-Row.place in
    let rest = c.in_ok-rest-in-Row.rest in
    let own = c.in_ok-own-in-Row.own in
    let some : length others ≡ own = search rules in
    IfOk-weaker c.save_before.result _ _
    (λ made h. λ tables.
    let run = λ (p : programs.Program) (levels : ℕ). runs p levels (view_node tables first) in
    let os = map (view_next_command tables) others in
    let many : suc (length os - 1) ≡ own = omega (arith, some, length-map others (view_next_command tables), c.in_ok-place-in-Row.ensures.1) in
    let d = λ (p : programs.Program) (levels : ℕ) (m : Mode) (s : State). others_run p levels m (saved_cursor s) os (run p levels m s) in
    arm tables (λ p levels m s. row_runs p levels (view_node tables first) os m s) c.args.node.now (Row a.first a.others) c.args.cost c.args.slot e.next.value e.fail.value made.value a.is
    (λ p levels m s. row_does tables p levels a.first a.others m s ∙ ap (λ xs. row_runs p levels (view_node tables a.first.value) (map (view_next_command tables) xs) m s) (sym c.deref-in-Row.ensures.value) ∙ ap (λ y. row_runs p levels (view_node tables y) os m s) (sym c.deref-in-Row-2.ensures))
    (same_meaning tables (λ p levels m s. then_on (pays own s) (d p levels m)) (λ p levels. pay_first (row_runs p levels (view_node tables first) os)) c.args.cost c.args.slot e.next.value e.fail.value made.value
    (λ p levels m s. ap (λ k. then_on (pays k s) (d p levels m)) (sym many) ∙ after_after (pay s.steps s) (pays (length os - 1)) (Signals false) (d p levels m) (Signals false))
    (h tables d own c.args.slot c.in_ok-place-in-Row.ensures
    (λ entry saves. saving_row tables run os place.cost place.slot place.exits rest c.in_ok-entry-in-Row.entry.value entry c.in_ok-place-in-Row.ensures.0 saves (c.in_ok-entry-in-Row.ensures tables) (c.in_ok-rest-in-Row.ensures tables)))))
    c.save_before.ensures
