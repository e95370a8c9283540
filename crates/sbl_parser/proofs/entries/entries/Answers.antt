use Rattle.std.proofs.Common.{◌≡◌, ◌∷◌, ◌++◌, List, [], map, drop, arith, ap, sym, refl, ◌∙◌}
use Rattle.std.proofs.lemmas.List.{map_push}
use Rattle.sbl_ast.specs.declared.tree.Entry.{Entry}
use Rattle.sbl_ast.specs.Terminal.{Terminal}
use Rattle.sbl_ast.specs.Terminal as t
use Rattle.sbl_ast.specs.Tree as trees
use Rattle.sbl_ast.specs.Spelled as written
use Rattle.sbl_ast.specs.View as view
use Rattle.sbl_parser.specs.First.{first_literal}
use Rattle.sbl_parser.specs.Gives.{ahead}
use Rattle.sbl_parser.specs.Steps as s
use Rattle.sbl_parser.proofs.Descent as d
use Rattle.sbl_parser.proofs.RoleTokens as of_role
use Rattle.sbl_parser.proofs.Turns as turns
use Rattle.sbl_parser.proofs.entries.entries.Goals as goal

pub loop-entries-preserved : goal.loop-entries-preserved
loop-entries-preserved c =
    let now : List Terminal = ahead c.loop-entries.cursor in
    let first : ahead c.loop-entries.cursor ≡ t.literal (first_literal c.loop-entries.cursor.tokens.now) ∷ drop 1 (ahead c.loop-entries.cursor) = of_role.as_literal c.loop-entries.cursor.tokens.now (sym c.role.ensures ∙ c.in-Literal.is) in
    let last : trees.Entry = view.view_entry c.in_ok-entry.field-0 in
    let more : map view.view_entry c.push.new.self.items ≡ map view.view_entry c.loop-entries.entries.items ++ last ∷ [] = ap (λ (xs : List Entry). map view.view_entry xs) c.in_ok-push.ensures.items ∙ map_push view.view_entry c.loop-entries.entries.items _ in
    record {
      spelled = c.loop-entries.invariant.spelled ∙ ap (λ (r : List Terminal). written.spelled_entries (map view.view_entry c.loop-entries.entries.items) r) c.in_ok-entry.ensures.spelled ∙ sym (turns.entries_push (map view.view_entry c.loop-entries.entries.items) last (ahead c.entry.new.cursor)) ∙ ap (λ (xs : List trees.Entry). written.spelled_entries xs (ahead c.entry.new.cursor)) (sym more);
      faults = λ k. c.loop-entries.invariant.faults k ∙ d.goes_on now (t.literal (first_literal c.loop-entries.cursor.tokens.now)) (drop 1 now) (s.entries c.args.depth ∷ k) (s.condition c.args.depth ∷ s.entries c.args.depth ∷ k) c.args.depth first refl (omega arith) ∙ c.in_ok-entry.ensures.faults (s.entries c.args.depth ∷ k);
    }
