use Rattle.std.specs.List.{flat_map}
use Rattle.sbl_uses.proofs.UnusedLines.{two_taken}
use Rattle.sbl_uses.specs.Parts.{Part}
use Rattle.sbl_uses.specs.Unused as spec
use Rattle.sbl_uses.specs.UnusedViews.{view_parts}
use Rattle.sbl_uses.proofs.unused.Used.push_rows.Goals as goal

pub returns : goal.returns
returns g c = λ s words is.
    let parts = view_parts c.args.parts.now.entries in
    two_taken g.T.Report.has_taken c.args.out.now c.push_items.new.out c.push_entries.new.out c.push_entries.result
    (flat_map (λ (p : Part). spec.item_rows s words p.0) parts) (flat_map (spec.entry_rows s words) parts)
    (c.in_ok-push_items.ensures s words is) (c.push_entries.ensures s words is)
