use Rattle.std.proofs.Common.{true}
use Rattle.sbl_bench.specs.KeptRuns.{contents_of}
use Rattle.sbl_work.proofs.StemFileFacts.{approve_memory}
use Rattle.sbl_work.proofs.stem_files.approve_by_file.Goals as goal

pub returns-in-Ok : goal.returns-in-Ok
returns-in-Ok g c = λ d. (true, c.approve_reply.ensures d)

pub returns-in-Err-OutOfMemory : goal.returns-in-Err-OutOfMemory
returns-in-Err-OutOfMemory g c = λ d. approve_memory (contents_of c.args.bench.now) d c.edit_reply.result c.edit_reply.ensures
