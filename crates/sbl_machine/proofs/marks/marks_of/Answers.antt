use Rattle.std.proofs.Common.{◌∙◌, ap, ℕ, List, [], map}
use Rattle.sbl_ast.specs.Order.{in_order}
use Rattle.sbl_ast.specs.View.{view_items}
use Rattle.sbl_machine.specs.Marking.{amongs_in, groupings_after, with_marks, routines_after}
use Rattle.sbl_machine.specs.AmongList.{numbers_of}
use Rattle.sbl_machine.specs.inside.BuiltFromParts.{built_after}
use Rattle.sbl_semantics.specs.TouchedItems.{item_of}
use Rattle.sbl_machine.proofs.marks.marks_of.Goals as goal

pub returns : goal.returns
returns c =
    let names = c.args.names.now in
    let is = in_order (view_items c.args.script.now) in
    let xs = map item_of c.args.items.now in
    c.in_ok-mark_all.ensures
    ∙ ap (with_marks names (numbers_of c.in_ok-amongs.amongs) c.add_names.new.routines c.in_ok-built.built) c.new-marks.ensures
    ∙ ap (λ (numbers : List ℕ → List ℕ). with_marks names numbers c.add_names.new.routines c.in_ok-built.built []) c.in_ok-amongs.ensures
    ∙ ap (λ (rs : List (List ℕ)). with_marks names (amongs_in xs) rs c.in_ok-built.built []) c.in_ok-add_names.ensures.routines
    ∙ ap (λ (rs : List (List ℕ)). with_marks names (amongs_in xs) (routines_after xs rs) c.in_ok-built.built []) c.new-routines.ensures
    ∙ ap (λ (gs : List (List ℕ)). with_marks names (amongs_in xs) (routines_after xs []) gs []) c.in_ok-built.ensures
    ∙ ap (λ (gs : List (List ℕ)). with_marks names (amongs_in xs) (routines_after xs []) (built_after is gs) []) c.in_ok-add_names.ensures.groupings
    ∙ ap (λ (gs : List (List ℕ)). with_marks names (amongs_in xs) (routines_after xs []) (built_after is (groupings_after xs gs)) []) c.new-groupings.ensures
