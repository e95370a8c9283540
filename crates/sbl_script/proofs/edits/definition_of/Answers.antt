use Rattle.std.proofs.Common.{◌≡◌, None, Some, ◌∙◌, arith}
use Rattle.std.proofs.lemmas.Grind.{common_steps}
use Rattle.sbl_ast.specs.View.{view_items, view_plain}
use Rattle.sbl_script.specs.Edits.{changes}
use Rattle.sbl_script.specs.Parts.{view_part}
use Rattle.sbl_script.specs.Homes.{first_passing}
use Rattle.sbl_script.proofs.Agreement.{first_same}
use Rattle.sbl_script.proofs.edits.definition_of.Goals.{in-Plain, in-BackwardMode}
use Rattle.sbl_script.proofs.edits.definition_of.Goals as goal

pub returns-in-Some : goal.returns-in-Some
returns-in-Some c =
    let p = changes (view_part c.args.part) in
    let items = view_items c.args.items.now in
    let there : first_passing p items ≡ Some (view_plain c.in-Some.plain.now) = elim c.match-item.branch [
      | in-Plain w ↦ grind (arith, common_steps)
      | in-BackwardMode w ↦ grind (arith, common_steps)
    ] in
    first_same p items ∙ there

pub returns : goal.returns
returns c =
    let p = changes (view_part c.args.part) in
    let items = view_items c.args.items.now in
    let none : first_passing p items ≡ None = grind (arith, common_steps) in
    first_same p items ∙ none
