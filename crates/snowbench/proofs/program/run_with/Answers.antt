use Rattle.std.proofs.Common.{Err, refl}
use Rattle.snowbench.proofs.program.run_with.Goals as goal

pub returns-in-Err-clause-runs : goal.returns-in-Err-clause-runs
returns-in-Err-clause-runs g c = λ none. record {
  result = Err c.in-Err.fault;
  is_written = c.in-Err.ensures.answers none;
  has_cause = c.in-Err.ensures.answering.why none;
  is_reported = c.push_fault.ensures.reported (Err c.in-Err.fault) refl;
}
