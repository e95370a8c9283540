use Rattle.std.proofs.Common.{◌≡◌, ◌∷◌, ◌++◌, List, [], map, arith, ap, sym, refl, ◌∙◌}
use Rattle.std.proofs.lemmas.List.{map_push}
use Rattle.sbl_ast.specs.declared.tree.Term.{Term}
use Rattle.sbl_ast.specs.Terminal.{Terminal}
use Rattle.sbl_ast.specs.Terminal as t
use Rattle.sbl_ast.specs.Tree as trees
use Rattle.sbl_ast.specs.Spelled as written
use Rattle.sbl_ast.specs.View as view
use Rattle.sbl_parser.specs.Gives.{ahead}
use Rattle.sbl_parser.specs.Steps as s
use Rattle.sbl_parser.proofs.Descent as d
use Rattle.sbl_parser.proofs.RoleTokens as of_role
use Rattle.sbl_parser.proofs.Turns as turns
use Rattle.sbl_parser.proofs.items.terms.Goals as goal

pub loop-operator-preserved : goal.loop-operator-preserved
loop-operator-preserved c =
    let first : ahead c.loop-operator.cursor ≡ t.additive c.in-Additive.operator ∷ ahead c.skip.new.self = d.head_of_drop (ahead c.loop-operator.cursor) (ahead c.skip.new.self) (t.additive c.in-Additive.operator) (of_role.as_terminal (ahead c.loop-operator.cursor) (t.additive c.in-Additive.operator) refl (sym c.role.ensures ∙ c.in-Additive.is)) c.skip.ensures in
    let more : map view.view_term c.push.new.self.items ≡ map view.view_term c.loop-operator.others.items ++ trees.term c.in-Additive.operator (view.view_argument c.in-Ok.argument) ∷ [] = ap (λ (xs : List Term). map view.view_term xs) c.in-Ok-push.ensures.items ∙ map_push view.view_term c.loop-operator.others.items _ in
    record {
      spelled = turns.next_term (written.argument_terminal (view.view_argument _)) (map view.view_term c.loop-operator.others.items) (map view.view_term c.push.new.self.items) c.in-Additive.operator (view.view_argument c.in-Ok.argument) _ (ahead c.loop-operator.cursor) (ahead c.argument-in-Additive.new.cursor) c.loop-operator.invariant.spelled (first ∙ ap (λ (r : List Terminal). t.additive c.in-Additive.operator ∷ r) c.in-Ok.ensures.0) more;
      faults = λ k. c.loop-operator.invariant.faults k ∙ d.goes_on (ahead c.loop-operator.cursor) (t.additive c.in-Additive.operator) (ahead c.skip.new.self) (s.terms ∷ k) (s.argument 0 ∷ s.terms ∷ k) 0 first refl (omega arith) ∙ c.in-Ok.ensures.1 (s.terms ∷ k);
    }

pub returns : goal.returns
returns c = (
  c.loop-operator.invariant.spelled,
  λ k. c.loop-operator.invariant.faults k ∙ d.skips_terms (ahead c.loop-operator.cursor) k (λ o e. c.in_default.not-Additive o (c.role.ensures ∙ e)),
)

pub returns-in-Err : goal.returns-in-Err
returns-in-Err c =
    let first : ahead c.loop-operator.cursor ≡ t.additive c.in-Additive.operator ∷ ahead c.skip.new.self = d.head_of_drop (ahead c.loop-operator.cursor) (ahead c.skip.new.self) (t.additive c.in-Additive.operator) (of_role.as_terminal (ahead c.loop-operator.cursor) (t.additive c.in-Additive.operator) refl (sym c.role.ensures ∙ c.in-Additive.is)) c.skip.ensures in
    λ k. d.fails_along _ _ _ (c.loop-operator.invariant.faults k ∙ d.goes_on (ahead c.loop-operator.cursor) (t.additive c.in-Additive.operator) (ahead c.skip.new.self) (s.terms ∷ k) (s.argument 0 ∷ s.terms ∷ k) 0 first refl (omega arith)) (c.in-Err.ensures (s.terms ∷ k))
