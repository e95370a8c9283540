use Rattle.std.proofs.Common.{◌≡◌, None, Some, ◌∙◌, arith}
use Rattle.std.proofs.lemmas.Grind.{common_steps}
use Rattle.sbl_ast.specs.View.{view_items, view_plain}
use Rattle.sbl_script.specs.Homes.{first_passing}
use Rattle.sbl_script.proofs.Agreement.{first_same}
use Rattle.sbl_source_map.specs.Definitions.{defines_name}
use Rattle.sbl_source_map.proofs.definitions.definition_of.Goals as goal

pub loop-item-preserved : goal.loop-item-preserved
loop-item-preserved c =
    let next = c.plains_of.ensures (defines_name c.args.name.now) in
    grind (arith, common_steps)

pub returns-in-Some : goal.returns-in-Some
returns-in-Some c =
    let p = defines_name c.args.name.now in
    let items = view_items c.args.items.now in
    let next = c.plains_of.ensures p in
    let there : first_passing p items ≡ Some (view_plain c.in-Some.found.now) = grind (arith, common_steps) in
    first_same p items ∙ there

pub returns : goal.returns
returns c =
    let p = defines_name c.args.name.now in
    let items = view_items c.args.items.now in
    let none : first_passing p items ≡ None = grind (arith, common_steps) in
    first_same p items ∙ none
