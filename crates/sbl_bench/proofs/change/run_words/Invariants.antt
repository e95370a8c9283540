use Rattle.std.proofs.Common.{◌≡◌, ◌+◌, ◌++◌, ◌≤◌, drop, length, map}
use Rattle.sbl_ast.specs.Source.{Source}
use Rattle.sbl_machine.specs.MachineOf.{IsLinkedMachineOf}
use Rattle.sbl_last_runs.specs.RunChanges.{view_change}
use Rattle.sbl_bench.specs.inside.Changes.{reruns}
use Rattle.sbl_rows.specs.Setting.{under}
use Rattle.sbl_bench.proofs.change.run_words.Given as goal

-- the changes so far, and those of the words still to come; each word before these was run once
abbrev pub invariant-loop-word : goal.invariant-loop-word
invariant-loop-word g l = record {
  changes : (s : Source) → IsLinkedMachineOf l.machine s
      → map view_change l.changes.items ++ reruns (under s l.limit) (map (λ w. w.now) (drop l.word-index l.words)) ≡ reruns (under s l.limit) (map (λ w. w.now) l.words);
  counted : l.meter + length (drop l.word-index l.words) ≡ l.fn.meter + length l.words;
  more : l.fn.meter ≤ l.meter;
  untold : g.B.BreakOff.said l.break_off ≡ g.B.BreakOff.said l.fn.break_off;
}
