-- The commands of a sequence, one after another.
use Rattle.std.proofs.Common.{◌≡◌, ℕ, ◌+◌, ◌<◌, false, List, ◌∷◌, ap, ◌∙◌, sym, length, get_or}
use Rattle.std.specs.Prelude.{drop}
use Rattle.std.proofs.lemmas.List.{drop_more}
use Rattle.sbl_program.specs.declared.node.Node.{Node}
use Rattle.sbl_program.specs.AmongStrings.{Listing}
use Rattle.sbl_program.specs.ProgramOf.{view_node, view_nodes}
use Rattle.sbl_program.specs.Program as programs
use Rattle.sbl_program.specs.Run.{all_run, runs}
use Rattle.sbl_semantics.specs.State.{State, Signals, after}
use Rattle.sbl_ast.specs.declared.mode.Mode.{Mode}

-- the i-th of some commands, and then those that follow it
pub turn_is : (T : ℕ → Listing) (p : programs.Program) (levels : ℕ) (cs : List Node) (i : ℕ) (x : Node) (m : Mode) (s : State) → i < length cs → x ≡ get_or cs i x → all_run p levels (view_nodes T (drop i cs)) m s ≡ after (runs p levels (view_node T x) m s) (all_run p levels (view_nodes T (drop (i + 1) cs)) m) (Signals false)
turn_is T p levels cs i x m s l e = ap (λ ns. all_run p levels (view_nodes T ns) m s) (drop_more cs i x l ∙ ap (λ y. y ∷ drop (i + 1) cs) (sym e))
