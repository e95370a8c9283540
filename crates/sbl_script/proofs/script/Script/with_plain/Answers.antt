use Rattle.std.proofs.Common.{rules, ◌≡◌, List, sym, subst}
use Rattle.sbl_ast.specs.Places.{places, AreShallow}
use Rattle.sbl_ast.specs.Tree.{Item}
use Rattle.sbl_ast.specs.View.{view_items, view_plain}
use Rattle.sbl_script.specs.Edits.{changes, items_with}
use Rattle.sbl_script.specs.Homes.{state_reached}
use Rattle.sbl_script.specs.ParsedScript.{source_of}
use Rattle.sbl_script.specs.Parts.{view_part}
use Rattle.sbl_script.specs.SpelledScript.{AreSpelled, IsSpelled}
use Rattle.sbl_script.proofs.Shallow.{items_shallow}
use Rattle.sbl_script.proofs.Spelled.{definition_replaced}
use Rattle.sbl_script.proofs.script.Script.with_plain.Goals as goal

pub check_tree-requires-clause-shallow : goal.check_tree-requires-clause-shallow
check_tree-requires-clause-shallow c =
    let p = changes (view_part c.args.part) in
    let y = view_plain c.args.new.now in
    let own = view_items c.self.inside.items.items in
    let is : view_items c.in_ok-items.items.items ≡ items_with p y own = search rules in
    subst (λ (is : List Item). AreShallow (places is)) (sym is) (items_shallow p y own c.requires.shallow c.self.invariant.1)

pub check_tree-requires-clause-spelled : goal.check_tree-requires-clause-spelled
check_tree-requires-clause-spelled c =
    let p = changes (view_part c.args.part) in
    let y = view_plain c.args.new.now in
    let own = view_items c.self.inside.items.items in
    let same : own ≡ (source_of c.args.self.now).items = search rules in
    let is : view_items c.in_ok-items.items.items ≡ items_with p y own = search rules in
    let said = subst (λ (xs : List Item). IsSpelled (state_reached p xs) y) (sym same) c.requires.spelled in
    subst AreSpelled (sym is) (definition_replaced (view_part c.args.part) y own c.requires.same c.self.invariant.2 said)
