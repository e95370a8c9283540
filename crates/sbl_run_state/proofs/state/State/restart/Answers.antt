use Rattle.std.proofs.Common.{ap}
use Rattle.std.proofs.lemmas.Result.{IfOk-equal}
use Rattle.sbl_program.specs.ProgramOf.{program_of}
use Rattle.sbl_program.specs.Start.{start}
use Rattle.sbl_semantics.specs.State.{State}
use Rattle.sbl_run_state.proofs.state.State.restart.Goals as goal

pub returns : goal.returns
returns c tables =
    let touching : _ → State = λ ts. record (start (program_of tables c.args.program.now) c.args.word.now c.args.steps) { touched = ts } in
    IfOk-equal c.begin.result _ _ _ (c.begin.ensures tables) (ap touching c.clear.ensures)
