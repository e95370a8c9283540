use Rattle.std.proofs.Common.{◌≡◌, ◌≤◌, suc, length, map, sym, ap, ◌∙◌, arith}
use Rattle.sbl_program.specs.CharacterClasses.{members}
use Rattle.sbl_program.specs.Terms.{class_at}
use Rattle.sbl_program.specs.Actions.{test_grouping}
use Rattle.sbl_ast.specs.declared.mode.Mode.{Mode}
use Rattle.sbl_semantics.specs.Control.{pay_first, seeks}
use Rattle.sbl_semantics.specs.declared.fault.RunFault.TheVariants.{Steps}
use Rattle.sbl_semantics.specs.State.{State, Stops, ahead, move_cursor, room}
use Rattle.sbl_run_state.specs.Seeking.{count_before, seek_ending}
use Rattle.sbl_run_state.proofs.Seeking.{count_in_room, seeks_is, seek_ending_short}
use Rattle.sbl_run_state.proofs.state.State.seek_touched.Goals as goal

pub pass_over-requires : goal.pass_over-requires
pass_over-requires g c =
    let s = c.args.self.now in
    let class = class_at (map members c.args.classes.now) c.args.number in
    let l : s.cursor ≤ length s.text = omega (arith, ap (λ (t : State). t.cursor) c.self.view_is, ap (λ (t : State). length t.text) c.self.view_is, c.self.invariant.cursor_in) in
    let n = c.count_before-before.ensures ∙ ap (count_before c.args.wanted class) c.part_ahead-part.ensures.value in
    let k = count_in_room c.args.wanted class c.mode_if-mode.result s l in
    omega (arith, k, n, c.if-steps-before.true)

pub returns-then-steps-before-clause-follows : goal.returns-then-steps-before-clause-follows
returns-then-steps-before-clause-follows g c =
    let s = c.args.self.now in
    let m = c.mode_if-mode.result in
    let past = c.args.past in
    let before = c.count_before-before.result in
    let class = class_at (map members c.args.classes.now) c.args.number in
    let e : c.self.inside.steps ≡ s.steps = ap (λ (t : State). t.steps) c.self.view_is in
    let l : s.cursor ≤ length s.text = omega (arith, ap (λ (t : State). t.cursor) c.self.view_is, ap (λ (t : State). length t.text) c.self.view_is, c.self.invariant.cursor_in) in
    let n : before ≡ count_before c.args.wanted class (ahead m s) = c.count_before-before.ensures ∙ ap (count_before c.args.wanted class) c.part_ahead-part.ensures.value in
    let short : s.steps ≤ before = omega (arith, e, c.if-steps-before.true) in
    ap (λ (m : Mode). seeks (suc s.steps) past (pay_first (test_grouping c.args.wanted class c.args.number)) m s) (sym c.mode_if-mode.ensures)
    ∙ seeks_is past c.args.wanted class c.args.number m s l c.requires
    ∙ ap (λ n. seek_ending past m s.steps n (room m s) s) (sym n)
    ∙ seek_ending_short past m s.steps before (room m s) s short
    ∙ ap (λ n. Stops Steps (record (move_cursor m n s) { steps = 0 })) (sym e)
    ∙ ap (Stops Steps) (sym c.pass_over.ensures)

pub seek_over-requires-clause-there : goal.seek_over-requires-clause-there
seek_over-requires-clause-there g c =
    let s = c.args.self.now in
    let class = class_at (map members c.args.classes.now) c.args.number in
    let l : s.cursor ≤ length s.text = omega (arith, ap (λ (t : State). t.cursor) c.self.view_is, ap (λ (t : State). length t.text) c.self.view_is, c.self.invariant.cursor_in) in
    let n = c.count_before-before.ensures ∙ ap (count_before c.args.wanted class) c.part_ahead-part.ensures.value in
    let k = count_in_room c.args.wanted class c.mode_if-mode.result s l in
    omega (arith, k, n, c.part_ahead-part.ensures.len)

pub returns-clause-follows : goal.returns-clause-follows
returns-clause-follows g c =
    let s = c.args.self.now in
    let m = c.mode_if-mode.result in
    let past = c.args.past in
    let class = class_at (map members c.args.classes.now) c.args.number in
    let l : s.cursor ≤ length s.text = omega (arith, ap (λ (t : State). t.cursor) c.self.view_is, ap (λ (t : State). length t.text) c.self.view_is, c.self.invariant.cursor_in) in
    let n = c.count_before-before.ensures ∙ ap (count_before c.args.wanted class) c.part_ahead-part.ensures.value in
    ap (λ (m : Mode). seeks (suc s.steps) past (pay_first (test_grouping c.args.wanted class c.args.number)) m s) (sym c.mode_if-mode.ensures)
    ∙ seeks_is past c.args.wanted class c.args.number m s l c.requires
    ∙ ap (λ n. seek_ending past m s.steps n (room m s) s) (sym n)
    ∙ c.seek_over.ensures
