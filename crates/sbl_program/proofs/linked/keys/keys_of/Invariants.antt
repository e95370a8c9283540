use Rattle.std.proofs.Common.{◌≡◌, ◌≤◌, ℕ, List, Some, length}
use Rattle.std.specs.Prelude.{slice_get}
use Rattle.sbl_program.specs.Keys.{IsKey}
use Rattle.sbl_program.specs.Linked.{texts_of}
use Rattle.sbl_program.proofs.linked.keys.keys_of.Given as goal

abbrev pub invariant-loop-row : goal.invariant-loop-row
invariant-loop-row l =
    (length l.keys.items ≡ l.row-index) × (l.row-index ≤ length l.rows) ×
    ((k : ℕ) (text : List ℕ) (key : ℕ) → slice_get (texts_of l.rows) k ≡ Some text → slice_get l.keys.items k ≡ Some key → IsKey text key)
