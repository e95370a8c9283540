use Rattle.std.proofs.Common.{◌<◌}
use Rattle.std.specs.Prelude.{IfSome}
use Rattle.sbl_semantics.specs.Fitting.{read_as}
use Rattle.sbl_program.specs.Linked.{AreLinks, StandsAt, before, texts_of, upto_row}
use Rattle.sbl_program.proofs.linked.links.follow.Given as goal

abbrev pub invariant-loop-at : goal.invariant-loop-at
invariant-loop-at l =
    let texts = texts_of l.rows in
    let x = read_as l.direction l.part in
    (AreLinks texts l.links → StandsAt texts x l.below (before l.count) → StandsAt texts x l.below l.at) × IfSome l.at (λ r. r < l.count)

abbrev pub decreases-loop-at : goal.decreases-loop-at
decreases-loop-at l = upto_row l.at
