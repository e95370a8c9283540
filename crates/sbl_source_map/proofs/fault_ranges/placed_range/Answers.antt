use Rattle.std.proofs.Common.{◌≡◌, ◌∙◌, List, Some, subst, sym, ℕ}
use Rattle.std.specs.Str.{chars}
use Rattle.sbl_source_map.specs.FaultPlaces.{place_in}
use Rattle.sbl_source_map.specs.FaultRanges.{IsEndAt}
use Rattle.sbl_source_map.proofs.PlacedFaults.{is_range_at}
use Rattle.sbl_source_map.proofs.fault_ranges.placed_range.Goals as goal

pub returns-in_ok-end_at-in-Ok : goal.returns-in_ok-end_at-in-Ok
returns-in_ok-end_at-in-Ok c = λ unread.
    let at : place_in c.args.fault ≡ Some c.in-Some.place = sym c.place_in.ensures ∙ c.in-Some.is in
    let end = c.in_ok-end_at-in-Ok.field-0 in
    is_range_at c.args.bytes.now c.args.fault c.in-Some.place end c.requires at
    (subst (λ (b : List ℕ). IsEndAt (chars b) c.in-Some.place end) c.in-Ok.ensures.cases.0 c.in_ok-end_at-in-Ok.ensures)
