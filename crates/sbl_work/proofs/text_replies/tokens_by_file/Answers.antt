use Rattle.std.proofs.Common.{None, Some}
use Rattle.sbl_work.proofs.TextReplyFacts.{file_memory}
use Rattle.sbl_work.proofs.text_replies.tokens_by_file.Goals as goal

pub returns-in-Ok : goal.returns-in-Ok
returns-in-Ok g c = λ s d. (Some c.as_slice.result.now, c.file_tokens_reply.ensures s d)

pub returns-in-Err-Unreadable : goal.returns-in-Err-Unreadable
returns-in-Err-Unreadable g c = λ s d. (None, c.file_tokens_reply-in-Err-Unreadable.ensures s d)

pub returns-in-Err-OutOfMemory : goal.returns-in-Err-OutOfMemory
returns-in-Err-OutOfMemory g c = λ s d. file_memory s d c.edit_reply.result c.edit_reply.ensures
