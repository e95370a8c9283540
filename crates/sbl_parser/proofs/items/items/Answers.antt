use Rattle.std.proofs.Common.{◌≡◌, ◌<◌, ◌∷◌, ◌++◌, List, [], length, map, true, ap, sym, subst, ◌∙◌}
use Rattle.std.proofs.lemmas.List.{map_push}
use Rattle.sbl_ast.specs.declared.tree.ScriptItem.{ScriptItem as Item}
use Rattle.sbl_ast.specs.Terminal.{Terminal}
use Rattle.sbl_ast.specs.Tree as trees
use Rattle.sbl_ast.specs.Spelled as written
use Rattle.sbl_ast.specs.View as view
use Rattle.sbl_parser.specs.declared.role.Role.{Role}
use Rattle.sbl_parser.specs.Gives.{ahead}
use Rattle.sbl_parser.specs.Roles.{role_of}
use Rattle.sbl_parser.specs.Starts.{begins_item}
use Rattle.sbl_parser.specs.Steps as s
use Rattle.sbl_parser.proofs.Descent as d
use Rattle.sbl_parser.proofs.Lengths as lengths
use Rattle.sbl_parser.proofs.Turns as turns
use Rattle.sbl_parser.proofs.items.items.Goals as goal

pub returns-in-Err : goal.returns-in-Err
returns-in-Err c =
    let begun : begins_item (role_of (ahead c.loop-cursor.cursor)) ≡ true = sym (c.begins_item.ensures ∙ ap (λ (r : Role). begins_item r) c.role.ensures) ∙ c.loop-cursor-test.true in
    λ k. d.fails_along _ _ _ (c.loop-cursor.invariant.faults k ∙ d.item_first (ahead c.loop-cursor.cursor) k begun) (c.in-Err.ensures (s.items ∷ k))

pub loop-cursor-smaller : goal.loop-cursor-smaller
loop-cursor-smaller c = subst (λ (r : List Terminal). length (ahead c.item.new.cursor) < length r) (sym c.in-Ok.ensures.0) (lengths.item_length (view.view_item c.in-Ok.item) (ahead c.item.new.cursor))

pub loop-cursor-preserved : goal.loop-cursor-preserved
loop-cursor-preserved c =
    let begun : begins_item (role_of (ahead c.loop-cursor.cursor)) ≡ true = sym (c.begins_item.ensures ∙ ap (λ (r : Role). begins_item r) c.role.ensures) ∙ c.loop-cursor-test.true in
    let last : trees.Item = view.view_item c.in-Ok.item in
    let more : map view.view_item c.push.new.self.items ≡ map view.view_item c.loop-cursor.items.items ++ last ∷ [] = ap (λ (xs : List Item). map view.view_item xs) c.in-Ok-push.ensures.items ∙ map_push view.view_item c.loop-cursor.items.items _ in
    record {
      spelled = c.loop-cursor.invariant.spelled ∙ ap (λ (r : List Terminal). written.spelled_items (map view.view_item c.loop-cursor.items.items) r) c.in-Ok.ensures.0 ∙ sym (turns.items_push (map view.view_item c.loop-cursor.items.items) last (ahead c.item.new.cursor)) ∙ ap (λ (xs : List trees.Item). written.spelled_items xs (ahead c.item.new.cursor)) (sym more);
      faults = λ k. c.loop-cursor.invariant.faults k ∙ d.item_first (ahead c.loop-cursor.cursor) k begun ∙ c.in-Ok.ensures.1 (s.items ∷ k);
    }
