use Rattle.std.proofs.Common.{◌≡◌}
use Rattle.indexmap.specs.IndexMap.{keys}
use Rattle.sbl_last_runs.proofs.ChangeFacts.{IsCommitted}
use Rattle.sbl_last_runs.proofs.change.commit.Given as goal

-- the changes before the index have exchanged their runs
abbrev pub invariant-loop-change : goal.invariant-loop-change
invariant-loop-change l = record {
  committed : IsCommitted l.fn.traces.entries l.traces.entries l.fn.changes l.changes l.change-index;
  keys : keys l.traces ≡ keys l.fn.traces;
}
