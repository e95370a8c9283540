use Rattle.std.proofs.Common.{◌≡◌, ◌∷◌, ◌++◌, ℕ, List, [], map, string_bytes, arith, ap, sym, refl, ◌∙◌}
use Rattle.std.proofs.lemmas.List.{map_push}
use Rattle.sbl_ast.specs.Terminal.{Terminal}
use Rattle.sbl_ast.specs.Terminal as t
use Rattle.sbl_ast.specs.Spelled as written
use Rattle.sbl_parser.specs.Gives.{ahead}
use Rattle.sbl_parser.specs.Steps as s
use Rattle.sbl_parser.proofs.Descent as d
use Rattle.sbl_parser.proofs.Turns as turns
use Rattle.sbl_parser.proofs.items.names.Goals as goal

pub loop-names-preserved : goal.loop-names-preserved
loop-names-preserved c =
    let last : List ℕ = string_bytes c.in_ok-take_name.field-0 in
    let more : map string_bytes c.push.new.self.items ≡ map string_bytes c.loop-names.names.items ++ last ∷ [] = rw c.in_ok-push.ensures.items (map_push _ c.loop-names.names.items c.in_ok-take_name.field-0) in
    record {
      spelled = c.loop-names.invariant.spelled ∙ ap (λ (r : List Terminal). written.spelled_names (map string_bytes c.loop-names.names.items) r) c.in_ok-take_name.ensures ∙ sym (turns.names_push (map string_bytes c.loop-names.names.items) last (ahead c.take_name.new.self)) ∙ ap (λ (xs : List (List ℕ)). written.spelled_names xs (ahead c.take_name.new.self)) (sym more);
      faults = λ k. c.loop-names.invariant.faults k ∙ d.goes_on (ahead c.loop-names.cursor) (t.name last) (ahead c.take_name.new.self) (s.names ∷ k) (s.names ∷ k) 0 c.in_ok-take_name.ensures refl (omega arith);
    }
