use Rattle.std.proofs.Common.{◌≡◌, ◌<◌, ℕ, List, Some, true}
use Rattle.std.specs.Prelude.{slice_get}
use Rattle.sbl_program.specs.Beginnings.{has_remainder, may_begin}
use Rattle.sbl_program.specs.Linked.{texts_of}
use Rattle.sbl_program.proofs.linked.beginnings.beginnings_of.Given as goal

abbrev pub invariant-loop-row : goal.invariant-loop-row
invariant-loop-row l = (k : ℕ) (v : List ℕ) → k < l.row-index → slice_get (texts_of l.rows) k ≡ Some v → may_begin (has_remainder l.beginnings.remainders) l.beginnings.everywhere v ≡ true
