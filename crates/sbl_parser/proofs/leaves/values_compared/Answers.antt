use Rattle.std.proofs.Common.{◌≡◌, ◌∷◌, List, arith, ap, sym, refl, ◌∙◌}
use Rattle.sbl_ast.specs.Terminal.{Terminal}
use Rattle.sbl_ast.specs.Terminal as t
use Rattle.sbl_ast.specs.Tree as trees
use Rattle.sbl_ast.specs.Spelled as written
use Rattle.sbl_ast.specs.View as view
use Rattle.sbl_parser.specs.Gives.{ahead}
use Rattle.sbl_parser.specs.Steps as s
use Rattle.sbl_parser.proofs.Descent as d
use Rattle.sbl_parser.proofs.RoleTokens as of_role
use Rattle.sbl_ast.proofs.Views as views
use Rattle.sbl_parser.proofs.leaves.values_compared.Goals as goal

pub returns-in-Err : goal.returns-in-Err
returns-in-Err c =
    let first : ahead c.args.cursor.now ≡ t.open_ ∷ ahead c.skip.new.self = d.head_of_drop (ahead c.args.cursor.now) (ahead c.skip.new.self) t.open_ (of_role.as_terminal (ahead c.args.cursor.now) t.open_ refl c.requires.first) c.skip.ensures in
    λ k. d.fails_along _ _ _ (d.goes_on (t.dollar ∷ ahead c.args.cursor.now) t.dollar (ahead c.args.cursor.now) (s.command c.args.depth ∷ k) (s.subject c.args.depth ∷ k) c.args.depth refl refl (omega arith) ∙ d.goes_on (ahead c.args.cursor.now) t.open_ (ahead c.skip.new.self) (s.subject c.args.depth ∷ k) (s.expression c.args.depth (s.comparison c.args.depth ∷ s.expression c.args.depth (s.closing c.args.depth ∷ k))) c.args.depth first refl (omega arith) ∙ c.in_ok-left.ensures.1 (s.comparison c.args.depth ∷ s.expression c.args.depth (s.closing c.args.depth ∷ k))) (c.in-Err.ensures k)

pub returns-in-Ok : goal.returns-in-Ok
returns-in-Ok c =
    let first : ahead c.args.cursor.now ≡ t.open_ ∷ ahead c.skip.new.self = d.head_of_drop (ahead c.args.cursor.now) (ahead c.skip.new.self) t.open_ (of_role.as_terminal (ahead c.args.cursor.now) t.open_ refl c.requires.first) c.skip.ensures in (
      ap (λ (r : List Terminal). t.dollar ∷ r) (first ∙ ap (λ (r : List Terminal). t.open_ ∷ r) (c.in_ok-left.ensures.0 ∙ ap (λ (r : List Terminal). written.spelled_expression (view.view_expression c.in_ok-left.left) r) c.in-Ok.ensures.0))
          ∙ ap (λ (x : trees.Command). written.spelled_command x (ahead c.right_value.new.cursor)) (sym (views.command_CompareValues c.in_ok-left.left c.in-Ok.operator c.in-Ok.right)),
      λ k. d.goes_on (t.dollar ∷ ahead c.args.cursor.now) t.dollar (ahead c.args.cursor.now) (s.command c.args.depth ∷ k) (s.subject c.args.depth ∷ k) c.args.depth refl refl (omega arith) ∙ d.goes_on (ahead c.args.cursor.now) t.open_ (ahead c.skip.new.self) (s.subject c.args.depth ∷ k) (s.expression c.args.depth (s.comparison c.args.depth ∷ s.expression c.args.depth (s.closing c.args.depth ∷ k))) c.args.depth first refl (omega arith) ∙ c.in_ok-left.ensures.1 (s.comparison c.args.depth ∷ s.expression c.args.depth (s.closing c.args.depth ∷ k)) ∙ c.in-Ok.ensures.1 k,
    )
