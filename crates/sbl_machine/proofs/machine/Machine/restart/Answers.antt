use Rattle.std.proofs.Common.{ap}
use Rattle.std.proofs.lemmas.Result.{IfOk-equal}
use Rattle.sbl_program.specs.ProgramOf.{program_of}
use Rattle.sbl_program.specs.Start.{start}
use Rattle.sbl_machine.proofs.machine.Machine.restart.Goals as goal

pub returns : goal.returns
returns g c = λ tables. IfOk-equal c.restart.result _ _ _ (c.restart.ensures tables) (ap (λ x. start (program_of tables x) c.args.word.now c.args.limit) c.program.ensures)
