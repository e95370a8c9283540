use Rattle.std.proofs.Common.{map}
use Rattle.std.specs.Vec.Iter.{into_iter_items}
use Rattle.sbl_ast.specs.Source.{Source}
use Rattle.sbl_machine.specs.MachineOf.{IsLinkedMachineOf}
use Rattle.sbl_semantics.specs.Limit.{default_limit}
use Rattle.sbl_rows.specs.Setting.{under}
use Rattle.sbl_bench.specs.inside.KeptEntries.{IsKept}
use Rattle.sbl_bench.proofs.Opening.{IsOpening}
use Rattle.sbl_bench.proofs.open.first_runs.Given as goal

abbrev pub invariant-loop-word : goal.invariant-loop-word
invariant-loop-word g l =
    (goal.iterator-loop-word g).can_next l.word-iterator ×
    (goal.iterator-loop-word g).is_finite l.word-iterator ×
    IsOpening (map (λ w. w.items) l.fn.words.items) (map (λ w. w.items) (into_iter_items l.word-iterator)) l.traces.entries l.meter ×
    ((s : Source) → IsLinkedMachineOf l.machine s → IsKept (under s default_limit) l.traces.entries)
