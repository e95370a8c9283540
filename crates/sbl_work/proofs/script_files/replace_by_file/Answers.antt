use Rattle.std.proofs.Common.{None, Some}
use Rattle.sbl_bench.specs.KeptRuns.{contents_of}
use Rattle.sbl_history.specs.Desks.{state_of}
use Rattle.sbl_work.proofs.ReplyFacts.{whole_memory}
use Rattle.sbl_work.proofs.script_files.replace_by_file.Goals as goal

pub returns-then-is_same_file : goal.returns-then-is_same_file
returns-then-is_same_file g c = (Some c.deref.result.now, c.replace_by_text-reply.ensures)

pub returns-else-is_same_file : goal.returns-else-is_same_file
returns-else-is_same_file g c = (Some c.deref.result.now, c.replace_by_text-reply.ensures)

pub returns-in-Err-Unreadable : goal.returns-in-Err-Unreadable
returns-in-Err-Unreadable g c = (None, c.reload.ensures)

pub returns-in-Err-OutOfMemory : goal.returns-in-Err-OutOfMemory
returns-in-Err-OutOfMemory g c = whole_memory (contents_of c.args.bench.now) (state_of c.args.desk.now) c.edit_reply.result c.edit_reply.ensures
