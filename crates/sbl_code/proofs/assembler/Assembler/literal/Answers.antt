use Rattle.std.proofs.Common.{◌≡◌, ℕ, false, List, [], ◌∷◌, length, get_or, sym, ap, ◌∙◌, rules, Vec, Global}
use Rattle.std.proofs.lemmas.Result.{IfOk-weaker}
use Rattle.sbl_program.specs.Rows.{pays}
use Rattle.sbl_semantics.specs.Moves.{match}
use Rattle.sbl_semantics.specs.State.{after, then_on}
use Rattle.sbl_code.specs.Flow.{flow}
use Rattle.sbl_code.proofs.Instructions.{flow_literal}
use Rattle.sbl_code.proofs.Performing.{emitted_at, same_meaning}
use Rattle.sbl_code.proofs.ProgramViews.{one_character}
use Rattle.sbl_code.proofs.assembler.Assembler.literal.Goals as goal

pub returns-then-string-eq1 : goal.returns-then-string-eq1
returns-then-string-eq1 c =
    let e = c.args.exits.now in
    let x = c.index-string-0.result in
    let one : length c.args.string.now ≡ 1 = search rules in
    let at : x ≡ get_or c.args.string.now 0 x = search rules in
    IfOk-weaker c.character.result _ _
    (λ made h. λ tables n.
    same_meaning tables (λ p levels m s. match (x ∷ []) m s) (λ p levels m s. match c.args.string.now m s) c.args.cost n e.next.value e.fail.value made.value
    (λ p levels m s. ap (λ cs. match cs m s) (sym (one_character c.args.string.now x one at))) (h tables n))
    c.character.ensures

pub returns : goal.returns
returns c =
    let e = c.args.exits.now in
    let o = c.in_ok-next.field-0 in
    let string = c.in_ok-string.string in
    IfOk-weaker c.emit.result _ _
    (λ made is. λ tables n.
    emitted_at tables (λ p levels m s. match c.args.string.now m s) c.args.cost o.next.value o.fail.value e.next.value e.fail.value made.value c.in_ok-next.ensures.0 c.in_ok-next.ensures.1
    (λ p levels m ys s.
    ap (λ i. flow p levels tables i m ys s) is ∙ flow_literal p levels tables m ys s c.args.cost string false o.next o.fail
    ∙ ap (λ (cs : List ℕ). then_on (pays c.args.cost s) (λ u. after (match cs m u) (flow p levels tables o.next.value m ys) (flow p levels tables o.fail.value m ys))) (ap (λ (v : Vec ℕ Global). v.items) c.in_ok-string.ensures.ok ∙ c.in_ok-copy.ensures.items)) n)
    c.emit.ensures
