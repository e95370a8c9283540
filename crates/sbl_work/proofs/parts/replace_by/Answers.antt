use Rattle.sbl_bench.specs.KeptRuns.{contents_of}
use Rattle.sbl_history.specs.Desks.{state_of}
use Rattle.sbl_reports.specs.Block.{made_text}
use Rattle.sbl_work.proofs.ReplyFacts.{whole_kept}
use Rattle.sbl_work.proofs.parts.replace_by.Goals as goal

pub returns-in-Err : goal.returns-in-Err
returns-in-Err g c = λ lines holds.
    whole_kept (contents_of c.args.bench.now) (state_of c.args.desk.now) (state_of c.note_whole-in-Err.new.desk) (made_text lines) c.in-Err.fault c.note_whole-in-Err.result
    (c.in-Err.ensures lines holds) c.note_whole-in-Err.ensures.same c.note_whole-in-Err.ensures.desk
