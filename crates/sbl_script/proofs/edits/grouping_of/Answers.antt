use Rattle.std.proofs.Common.{Some, map, ap, ◌∙◌, string_bytes, sym}
use Rattle.sbl_ast.specs.View.{view_argument, view_items, view_plain, view_term}
use Rattle.sbl_script.specs.Edits.{is_grouping_named}
use Rattle.sbl_script.proofs.Agreement.{first_same}
use Rattle.sbl_script.proofs.Found.{grouping_found, no_other_grouping}
use Rattle.sbl_script.proofs.edits.grouping_of.Goals as goal

pub returns-in-Grouping : goal.returns-in-Grouping
returns-in-Grouping c =
    let n = c.args.name.now in
    let g = c.in-Grouping.grouping in
    let p = is_grouping_named n in
    let is = view_items c.args.items.now in
    first_same p is ∙ grouping_found n is (string_bytes g.name) (view_argument g.first) (map view_term g.others.items)
    (sym (first_same p is) ∙ c.in_ok-grouping.ensures ∙ ap (λ x. Some (view_plain x)) c.in-Grouping.is)

pub returns-in_default : goal.returns-in_default
returns-in_default c = absurd (no_other_grouping c.args.name.now (view_items c.args.items.now) c.in_ok-grouping.field-0.now c.in_default.not-Grouping (sym (first_same (is_grouping_named c.args.name.now) (view_items c.args.items.now)) ∙ c.in_ok-grouping.ensures))
