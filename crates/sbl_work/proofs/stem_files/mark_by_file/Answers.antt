use Rattle.sbl_bench.specs.KeptRuns.{contents_of}
use Rattle.sbl_history.specs.Desks.{state_of}
use Rattle.sbl_work.proofs.StemFileFacts.{mark_memory}
use Rattle.sbl_work.proofs.stem_files.mark_by_file.Goals as goal

pub returns-in-Err-OutOfMemory : goal.returns-in-Err-OutOfMemory
returns-in-Err-OutOfMemory g c = mark_memory (contents_of c.args.bench.now) (state_of c.args.desk.now) c.edit_reply.result c.edit_reply.ensures
