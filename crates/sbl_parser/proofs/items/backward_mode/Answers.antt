use Rattle.std.proofs.Common.{◌≡◌, ◌<◌, ◌∷◌, ◌++◌, List, [], length, map, true, false, ap, sym, subst, ◌∙◌}
use Rattle.std.proofs.lemmas.List.{map_push}
use Rattle.sbl_ast.specs.declared.tree.Plain.{Plain}
use Rattle.sbl_ast.specs.Terminal.{Terminal}
use Rattle.sbl_ast.specs.Terminal as t
use Rattle.sbl_ast.specs.Tree as trees
use Rattle.sbl_ast.specs.Spelled as written
use Rattle.sbl_ast.specs.View as view
use Rattle.sbl_parser.specs.declared.role.Role.{Role}
use Rattle.sbl_parser.specs.Gives.{ahead}
use Rattle.sbl_parser.specs.Roles.{role_of}
use Rattle.sbl_parser.specs.Starts.{begins_plain}
use Rattle.sbl_parser.specs.Steps as s
use Rattle.sbl_parser.proofs.Descent as d
use Rattle.sbl_parser.proofs.Lengths as lengths
use Rattle.sbl_parser.proofs.Turns as turns
use Rattle.sbl_parser.proofs.items.backward_mode.Goals as goal

pub returns-in-Err : goal.returns-in-Err
returns-in-Err c =
    let begun : begins_plain (role_of (ahead c.loop-cursor.cursor)) ≡ true = sym (c.begins_plain.ensures ∙ ap (λ (r : Role). begins_plain r) c.role.ensures) ∙ c.loop-cursor-test.true in
    λ k. d.fails_along _ _ _ (c.loop-cursor.invariant.faults k ∙ d.plain_first (ahead c.loop-cursor.cursor) (s.closing 0 ∷ k) begun) (c.in-Err.ensures (s.plains ∷ s.closing 0 ∷ k))

pub loop-cursor-smaller : goal.loop-cursor-smaller
loop-cursor-smaller c = subst (λ (r : List Terminal). length (ahead c.plain.new.cursor) < length r) (sym c.in-Ok.ensures.0) (lengths.plain_length (view.view_plain c.in-Ok.item) (ahead c.plain.new.cursor))

pub loop-cursor-preserved : goal.loop-cursor-preserved
loop-cursor-preserved c =
    let begun : begins_plain (role_of (ahead c.loop-cursor.cursor)) ≡ true = sym (c.begins_plain.ensures ∙ ap (λ (r : Role). begins_plain r) c.role.ensures) ∙ c.loop-cursor-test.true in
    let last : trees.Plain = view.view_plain c.in-Ok.item in
    let more : map view.view_plain c.push.new.self.items ≡ map view.view_plain c.loop-cursor.plains.items ++ last ∷ [] = ap (λ (xs : List Plain). map view.view_plain xs) c.in-Ok-push.ensures.items ∙ map_push view.view_plain c.loop-cursor.plains.items _ in
    record {
      spelled = c.loop-cursor.invariant.spelled ∙ ap (λ (r : List Terminal). t.backward_mode ∷ t.open_ ∷ r) (ap (λ (r : List Terminal). written.spelled_plains (map view.view_plain c.loop-cursor.plains.items) r) c.in-Ok.ensures.0 ∙ sym (turns.plains_push (map view.view_plain c.loop-cursor.plains.items) last (ahead c.plain.new.cursor)) ∙ ap (λ (xs : List trees.Plain). written.spelled_plains xs (ahead c.plain.new.cursor)) (sym more));
      faults = λ k. c.loop-cursor.invariant.faults k ∙ d.plain_first (ahead c.loop-cursor.cursor) (s.closing 0 ∷ k) begun ∙ c.in-Ok.ensures.1 (s.plains ∷ s.closing 0 ∷ k);
    }

pub returns-in-Err-take : goal.returns-in-Err-take
returns-in-Err-take c =
    let none : begins_plain (role_of (ahead c.loop-cursor.cursor)) ≡ false = sym (c.begins_plain.ensures ∙ ap (λ (r : Role). begins_plain r) c.role.ensures) ∙ c.loop-cursor-test.false in
    λ k. d.fails_along _ _ _ (c.loop-cursor.invariant.faults k ∙ d.skips_plains (ahead c.loop-cursor.cursor) (s.closing 0 ∷ k) none) (c.in-Err-take.ensures k)
