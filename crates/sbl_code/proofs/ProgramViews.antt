-- Parts of a program without memory addresses: what the assembler reads of them.
use Rattle.std.proofs.Common.{◌≡◌, ℕ, List, [], ◌∷◌, length, get_or, sym, ap, arith, rules}
use Rattle.sbl_ast.specs.declared.mode.Mode.{Mode}
use Rattle.sbl_program.specs.AmongStrings.{Listing}
use Rattle.sbl_program.specs.Program as programs
use Rattle.sbl_program.specs.ProgramOf.{view_action, view_node, view_next_command}
use Rattle.sbl_program.specs.declared.action.Action.{Action}
use Rattle.sbl_program.specs.declared.node.Node.TheVariants.{Act, Call}
use Rattle.sbl_program.specs.declared.node.Node.TheFolds.{fold_out-Node, fold_out-JoinedNode}
use Rattle.sbl_program.specs.declared.node.Node.TheViews.{the_lemmas}
use Rattle.sbl_program.specs.declared.node.JoinedNode.{JoinedNode, out-JoinedNode}
use Rattle.sbl_program.specs.Actions.{acts}
use Rattle.sbl_program.specs.Run.{runs_paid, calls}
use Rattle.sbl_semantics.specs.State.{State}

view_act : (T : ℕ → Listing) (a : Action) → view_node T (Act a) ≡ programs.act (view_action a)
view_act T a = first_of (search (rules, the_lemmas), search (rules, the_lemmas, fold_out-Node))

view_call : (T : ℕ → Listing) (i : ℕ) → view_node T (Call i) ≡ programs.call i
view_call T i = first_of (search (rules, the_lemmas), search (rules, the_lemmas, fold_out-Node))

pub act_does : (T : ℕ → Listing) (p : programs.Program) (levels : ℕ) (a : Action) (m : Mode) (s : State) → runs_paid p levels (view_node T (Act a)) m s ≡ acts p.groupings (view_action a) m s
act_does T p levels a m s = ap (λ c. runs_paid p levels c m s) (view_act T a)

pub call_does : (T : ℕ → Listing) (p : programs.Program) (levels i : ℕ) (m : Mode) (s : State) → runs_paid p levels (view_node T (Call i)) m s ≡ calls p levels i m s
call_does T p levels i m s = ap (λ c. runs_paid p levels c m s) (view_call T i)

pub view_joiner : (T : ℕ → Listing) (o : JoinedNode) → (view_next_command T o).0 ≡ (out-JoinedNode o).joiner
view_joiner T o = first_of (search (rules, the_lemmas), search (rules, the_lemmas, fold_out-JoinedNode, fold_out-Node))

pub view_command : (T : ℕ → Listing) (o : JoinedNode) → (view_next_command T o).1 ≡ view_node T (out-JoinedNode o).command
view_command T o = first_of (search (rules, the_lemmas), search (rules, the_lemmas, fold_out-JoinedNode, fold_out-Node))

pub one_character : (cs : List ℕ) (c : ℕ) → length cs ≡ 1 → c ≡ get_or cs 0 c → cs ≡ c ∷ []
one_character [] c l e = absurd (omega (arith, l))
one_character (x ∷ []) c l e = ap (λ y. y ∷ []) (sym e)
one_character (x ∷ (y ∷ ys)) c l e = absurd (omega (arith, l))
