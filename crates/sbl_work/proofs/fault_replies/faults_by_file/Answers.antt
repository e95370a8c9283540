use Rattle.std.proofs.Common.{None, Some}
use Rattle.sbl_bench.specs.KeptRuns.{contents_of}
use Rattle.sbl_work.proofs.FaultFacts.{faults_memory}
use Rattle.sbl_work.proofs.fault_replies.faults_by_file.Goals as goal

pub returns-in-Ok : goal.returns-in-Ok
returns-in-Ok g c = λ d. (Some c.as_slice.result.now, c.file_faults_reply.ensures d)

pub returns-in-Err-Unreadable : goal.returns-in-Err-Unreadable
returns-in-Err-Unreadable g c = λ d. (None, c.file_faults_reply-in-Err-Unreadable.ensures d)

pub returns-in-Err-OutOfMemory : goal.returns-in-Err-OutOfMemory
returns-in-Err-OutOfMemory g c = λ d. faults_memory (contents_of c.args.bench.now) d c.edit_reply.result c.edit_reply.ensures
