use Rattle.std.proofs.Common.{rules, ◌≡◌, ap, length}
use Rattle.sbl_machine.specs.ItemRefs.{item_of_ref}
use Rattle.sbl_semantics.specs.TouchedItems.{item_of}
use Rattle.sbl_uses.specs.UsableViews.{view_usable}
use Rattle.sbl_uses.specs.Used.{Whole}
use Rattle.sbl_explain.proofs.BenchUses.{number_whole}
use Rattle.sbl_explain.proofs.counts.number_using.Goals as goal

pub returns-in_ok-rows-in-Whole : goal.returns-in_ok-rows-in-Whole
returns-in_ok-rows-in-Whole c = λ defined keeps.
    let x = item_of_ref c.in-Whole.item in
    let y = item_of c.in_ok-own_item-in-Whole.field-0 in
    let is : view_usable c.args.usable.now ≡ Whole x = ap view_usable c.in-Whole.is in
    let count : c.len.result ≡ length c.in_ok-rows-in-Whole.rows.items = search rules in
    number_whole c.args.bench.now (view_usable c.args.usable.now) x y c.in_ok-rows-in-Whole.rows.items c.len.result is c.in_ok-own_item-in-Whole.ensures c.in_ok-rows-in-Whole.ensures count defined
