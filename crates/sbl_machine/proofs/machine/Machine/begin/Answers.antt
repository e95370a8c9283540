use Rattle.std.proofs.Common.{ap}
use Rattle.std.proofs.lemmas.Result.{IfOk-equal}
use Rattle.sbl_program.specs.ProgramOf.{program_of}
use Rattle.sbl_program.specs.Start.{start}
use Rattle.sbl_semantics.specs.State.{State}
use Rattle.sbl_machine.proofs.machine.Machine.begin.Goals as goal

pub returns : goal.returns
returns g c tables =
    let begun : State → State = λ s. record s { touched = c.args.state.now.touched } in
    IfOk-equal c.begin.result _ _ _ (c.begin.ensures tables) (ap begun (ap (λ x. start (program_of tables x) c.args.word.now c.args.limit) c.program.ensures))
