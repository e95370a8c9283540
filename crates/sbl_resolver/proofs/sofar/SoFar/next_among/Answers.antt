use Rattle.std.proofs.Common.{◌≡◌, arith}
use Rattle.sbl_resolver.specs.Occurrences.{amongs_in}
use Rattle.sbl_resolver.specs.OccurrenceView.{view_occurrences}
use Rattle.sbl_resolver.proofs.Counted.{few}
use Rattle.sbl_resolver.proofs.sofar.SoFar.next_among.Goals as goal

pub overflow_add-result : goal.overflow_add-result
overflow_add-result c =
    let is : c.self.inside.amongs ≡ amongs_in (view_occurrences c.self.inside.occurrences.items) 0 = c.self.invariant in
    let most = few c.self.inside.occurrences.items in
    omega arith
