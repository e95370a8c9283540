use Rattle.std.proofs.Common.{ap}
use Rattle.std.specs.List.{flat_map}
use Rattle.sbl_io.specs.Records.{records_text}
use Rattle.sbl_io.proofs.Taking.{leaves-less, leaves-none, takes-same}
use Rattle.sbl_uses.specs.Parts.{Part}
use Rattle.sbl_uses.specs.Unused as spec
use Rattle.sbl_machine.specs.ItemRefs.{item_of_ref}
use Rattle.sbl_uses.specs.UnusedViews.{texts_of, view_parts}
use Rattle.sbl_uses.proofs.UnusedLines.{text_of_more}
use Rattle.sbl_uses.proofs.unused.Used.push_entries.Goals as goal

pub returns : goal.returns
returns g c = λ s words is.
    leaves-none g.T.Report.has_taken c.args.out.now c.loop-item.out _ _
    (ap (λ l. records_text (flat_map (spec.entry_rows s words) (view_parts l))) c.in-None.ensures.steps.0)
    (c.loop-item.invariant s words is)

pub loop-item-preserved : goal.loop-item-preserved
loop-item-preserved g c = λ s words is.
    let rows = spec.entry_rows s words in
    let part : Part = (item_of_ref c.in-Some.item.now, texts_of c.in-Some.strings.now.items) in
    leaves-less g.T.Report.has_taken c.args.out.now c.loop-item.out c.push_part.new.out (records_text (rows part))
    (records_text (flat_map rows (view_parts c.next.new.self))) (records_text (flat_map rows (view_parts c.loop-item.item-iterator))) _
    (text_of_more rows part (view_parts c.loop-item.item-iterator) (view_parts c.next.new.self) (ap view_parts c.in-Some.ensures.steps))
    (c.loop-item.invariant s words is) (takes-same g.T.Report.has_taken c.loop-item.out c.push_part.new.out _ (records_text (rows part))
    (ap (λ l. records_text (rows (item_of_ref c.in-Some.item.now, texts_of l))) c.deref.ensures.value) (c.in_ok-push_part.ensures s words is))
