use Rattle.std.proofs.Common.{◌≡◌}
use Rattle.sbl_rows.proofs.TurnFacts.{turned_first}
use Rattle.sbl_rows.proofs.moves.turn.Given as goal

-- the moves so far are turned, and the others are as they were
abbrev pub invariant-loop-stems : goal.invariant-loop-stems
invariant-loop-stems l = l.moves ≡ turned_first l.stems-index l.fn.moves
