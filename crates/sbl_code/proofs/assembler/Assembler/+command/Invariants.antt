use Rattle.std.proofs.Common.{◌≡◌, ℕ, ◌≤◌, drop, map, take, length}
use Rattle.sbl_program.specs.AmongStrings.{Listing}
use Rattle.sbl_program.specs.ProgramOf.{view_next_command, view_nodes}
use Rattle.sbl_program.specs.Run.{all_run}
use Rattle.sbl_code.specs.Performs.{Performs, IsRest, ArePerformed}
use Rattle.sbl_code.proofs.assembler.Assembler.+command.Given as goal

-- the commands from i on
abbrev pub invariant-tail-loop-i : goal.invariant-tail-loop-i
invariant-tail-loop-i l =
    (l.count ≤ l.i) × (l.i ≤ length l.commands) × (l.now.fail.value ≡ l.exits.fail.value) ×
    ((tables : ℕ → Listing) → Performs tables (λ p levels. all_run p levels (view_nodes tables (drop l.i l.commands))) 0 l.slot l.exits.next.value l.exits.fail.value l.now.next.value)

abbrev pub decreases-tail-loop-i : goal.decreases-tail-loop-i
decreases-tail-loop-i l = l.i

-- the commands of the row from i on
abbrev pub invariant-rest-loop-i : goal.invariant-rest-loop-i
invariant-rest-loop-i l =
    (l.i ≤ length l.others) × ((tables : ℕ → Listing) → IsRest tables l.slot (map (view_next_command tables) (drop l.i l.others)) l.exits l.rest)

abbrev pub decreases-rest-loop-i : goal.decreases-rest-loop-i
decreases-rest-loop-i l = l.i

abbrev pub invariant-groups-loop-body : goal.invariant-groups-loop-body
invariant-groups-loop-body l = (tables : ℕ → Listing) → ArePerformed tables (take l.body-index l.bodies) l.slot l.exits l.entries.items
