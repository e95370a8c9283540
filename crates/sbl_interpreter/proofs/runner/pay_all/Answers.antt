use Rattle.std.proofs.Common.{subst}
use Rattle.sbl_run_state.specs.Endings.{Leads}
use Rattle.sbl_program.proofs.ChainRuns.{pays_last}
use Rattle.sbl_interpreter.proofs.runner.pay_all.Goals as goal

pub returns-clause-leads : goal.returns-clause-leads
returns-clause-leads c = subst (λ e. Leads c.pay_with_own.result c.pay_with_own.new.self e) (pays_last c.args.cost c.args.state.now) c.pay_with_own.ensures.leads
