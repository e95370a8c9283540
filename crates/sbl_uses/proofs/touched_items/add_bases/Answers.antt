use Rattle.std.proofs.Common.{◌∙◌, List, ℕ, ap, drop, map, sym}
use Rattle.std.specs.List.{list_any}
use Rattle.sbl_machine.specs.ItemRefs.{items_of_refs}
use Rattle.sbl_semantics.specs.TouchedItems.{same_item}
use Rattle.sbl_script.specs.ParsedScript.{source_of}
use Rattle.sbl_ast.specs.Order.{ItemInMode, in_order, view_in_mode}
use Rattle.sbl_ast.specs.View.{view_items}
use Rattle.sbl_ast.specs.declared.order.ItemInMode as declared
use Rattle.sbl_uses.specs.AddedBases.{and_terms}
use Rattle.sbl_uses.proofs.Bases.{is_reached, reached_is, same_terms}
use Rattle.sbl_uses.proofs.Loops.{at_zero, before_index, one_less}
use Rattle.sbl_uses.proofs.touched_items.add_bases.Goals as goal

pub loop-left-preserved : goal.loop-left-preserved
loop-left-preserved c =
    let us = items_of_refs c.args.items.now in
    let items = c.in_ok-in_order.in_order.items in
    let i = c.loop-left.left in (
      one_less i _ c.loop-left.invariant.0,
      λ x.
          c.in_ok-add_built_from.ensures x
          ∙ ap (λ (m : declared.ItemInMode). and_terms (view_in_mode m).plain (λ y. list_any (same_item y) (items_of_refs c.loop-left.items)) x) c.index.ensures
          ∙ same_terms _ (λ y. list_any (same_item y) (items_of_refs c.loop-left.items)) (is_reached us (map view_in_mode (drop i items))) c.loop-left.invariant.1 x
          ∙ sym (ap (λ (ps : List ItemInMode). is_reached us ps x) (before_index view_in_mode items i _ c.loop-left-test.true c.loop-left.invariant.0)),
    )

pub returns : goal.returns
returns c = λ x.
    let us = items_of_refs c.args.items.now in
    let items = c.in_ok-in_order.in_order.items in
    c.loop-left.invariant.1 x
    ∙ ap (λ (n : ℕ). is_reached us (map view_in_mode (drop n items)) x) (at_zero c.loop-left.left c.loop-left-test.false)
    ∙ ap (λ (ps : List ItemInMode). is_reached us ps x) (c.in_ok-in_order.ensures ∙ ap (λ is. in_order (view_items is)) c.items.ensures)
    ∙ reached_is us (source_of c.args.script.now) x
