use Rattle.std.proofs.Common.{ap}
use Rattle.std.specs.List.{flat_map}
use Rattle.sbl_io.specs.Records.{records_text}
use Rattle.sbl_io.proofs.Taking.{leaves-less, leaves-none}
use Rattle.sbl_uses.specs.Parts.{Part}
use Rattle.sbl_uses.specs.Unused as spec
use Rattle.sbl_uses.specs.UnusedViews.{view_parts}
use Rattle.sbl_uses.proofs.UnusedLines.{text_of_more}
use Rattle.sbl_uses.proofs.unused.Used.push_items.Goals as goal

pub returns : goal.returns
returns g c = λ s words is.
    leaves-none g.T.Report.has_taken c.args.out.now c.loop-item.out _ _
    (ap (λ l. records_text (flat_map (λ (p : Part). spec.item_rows s words p.0) (view_parts l))) c.in-None.ensures.steps.0)
    (c.loop-item.invariant s words is)

pub loop-item-preserved : goal.loop-item-preserved
loop-item-preserved g c = λ s words is.
    let rows = λ (p : Part). spec.item_rows s words p.0 in
    leaves-less g.T.Report.has_taken c.args.out.now c.loop-item.out c.push_unmet.new.out _
    (records_text (flat_map rows (view_parts c.next.new.self))) (records_text (flat_map rows (view_parts c.loop-item.item-iterator))) _
    (text_of_more rows _ (view_parts c.loop-item.item-iterator) (view_parts c.next.new.self) (ap view_parts c.in-Some.ensures.steps))
    (c.loop-item.invariant s words is) (c.in_ok-push_unmet.ensures s words is)
