use Rattle.std.proofs.Common.{true, false, sym, ap, ◌∙◌}
use Rattle.std.proofs.lemmas.Result.{IfOk-weaker}
use Rattle.sbl_program.specs.Terms.{class_at}
use Rattle.sbl_program.specs.ProgramOf.{view_action}
use Rattle.sbl_program.specs.declared.action.Action.TheVariants.{Match}
use Rattle.sbl_program.specs.Actions.{acts, test_grouping}
use Rattle.sbl_semantics.specs.Moves.{match, test_boolean}
use Rattle.sbl_semantics.specs.Moves as moves
use Rattle.sbl_semantics.specs.Slices.{left_bracket, right_bracket}
use Rattle.sbl_semantics.specs.State.{Signals}
use Rattle.sbl_code.proofs.Performing.{same_meaning}
use Rattle.sbl_code.proofs.assembler.Assembler.act.Goals as goal

pub returns-in-Grouping : goal.returns-in-Grouping
returns-in-Grouping c =
    let e = c.args.exits.now in
    IfOk-weaker c.grouping.result _ _
    (λ made h. λ tables n. same_meaning tables (λ p levels m s. test_grouping true (class_at p.groupings c.in-Grouping.number) c.in-Grouping.number m s) (λ p levels. acts p.groupings (view_action c.args.action.now)) c.args.cost n e.next.value e.fail.value made.value (λ p levels m s. ap (λ a. acts p.groupings (view_action a) m s) (sym c.in-Grouping.is)) (h tables n))
    c.grouping.ensures

pub returns-in-NonGrouping : goal.returns-in-NonGrouping
returns-in-NonGrouping c =
    let e = c.args.exits.now in
    IfOk-weaker c.grouping-in-NonGrouping.result _ _
    (λ made h. λ tables n. same_meaning tables (λ p levels m s. test_grouping false (class_at p.groupings c.in-NonGrouping.number) c.in-NonGrouping.number m s) (λ p levels. acts p.groupings (view_action c.args.action.now)) c.args.cost n e.next.value e.fail.value made.value (λ p levels m s. ap (λ a. acts p.groupings (view_action a) m s) (sym c.in-NonGrouping.is)) (h tables n))
    c.grouping-in-NonGrouping.ensures

pub returns-in-Next : goal.returns-in-Next
returns-in-Next c =
    let e = c.args.exits.now in
    IfOk-weaker c.next.result _ _
    (λ made h. λ tables n. same_meaning tables (λ p levels m s. moves.next m s) (λ p levels. acts p.groupings (view_action c.args.action.now)) c.args.cost n e.next.value e.fail.value made.value (λ p levels m s. ap (λ a. acts p.groupings (view_action a) m s) (sym c.in-Next.is)) (h tables n))
    c.next.ensures

pub returns-in-LeftBracket : goal.returns-in-LeftBracket
returns-in-LeftBracket c =
    let e = c.args.exits.now in
    IfOk-weaker c.bracket.result _ _
    (λ made h. λ tables n. same_meaning tables (λ p levels m s. Signals true (left_bracket m s)) (λ p levels. acts p.groupings (view_action c.args.action.now)) c.args.cost n e.next.value e.fail.value made.value (λ p levels m s. ap (λ a. acts p.groupings (view_action a) m s) (sym c.in-LeftBracket.is)) (h tables n))
    c.bracket.ensures

pub returns-in-RightBracket : goal.returns-in-RightBracket
returns-in-RightBracket c =
    let e = c.args.exits.now in
    IfOk-weaker c.bracket-in-RightBracket.result _ _
    (λ made h. λ tables n. same_meaning tables (λ p levels m s. Signals true (right_bracket m s)) (λ p levels. acts p.groupings (view_action c.args.action.now)) c.args.cost n e.next.value e.fail.value made.value (λ p levels m s. ap (λ a. acts p.groupings (view_action a) m s) (sym c.in-RightBracket.is)) (h tables n))
    c.bracket-in-RightBracket.ensures

pub returns-in-Boolean : goal.returns-in-Boolean
returns-in-Boolean c =
    let e = c.args.exits.now in
    IfOk-weaker c.boolean.result _ _
    (λ made h. λ tables n. same_meaning tables (λ p levels m s. test_boolean c.in-Boolean.number s) (λ p levels. acts p.groupings (view_action c.args.action.now)) c.args.cost n e.next.value e.fail.value made.value (λ p levels m s. ap (λ a. acts p.groupings (view_action a) m s) (sym c.in-Boolean.is)) (h tables n))
    c.boolean.ensures

pub returns-in-Literal : goal.returns-in-Literal
returns-in-Literal c =
    let e = c.args.exits.now in
    IfOk-weaker c.literal.result _ _
    (λ made h. λ tables n. same_meaning tables (λ p levels m s. match c.deref.result.now m s) (λ p levels. acts p.groupings (view_action c.args.action.now)) c.args.cost n e.next.value e.fail.value made.value (λ p levels m s. ap (λ cs. match cs m s) c.deref.ensures.value ∙ ap (λ x. acts p.groupings (view_action (Match x)) m s) (sym c.in-Literal.is) ∙ ap (λ a. acts p.groupings (view_action a) m s) (sym c.in-Match.is)) (h tables n))
    c.literal.ensures
