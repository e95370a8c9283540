use Rattle.std.proofs.Common.{Bool, None, Some, subst}
use Rattle.sbl_bench.specs.KeptRuns.{contents_of}
use Rattle.sbl_history.specs.Desks.{state_of}
use Rattle.sbl_work.specs.Replies.{RereadsWords}
use Rattle.sbl_work.proofs.WordFileFacts.{words_answer, words_memory}
use Rattle.sbl_work.proofs.word_files.words_by_file.Goals as goal

pub returns-in_default : goal.returns-in_default
returns-in_default g c = (None, c.words_reply.ensures)

pub returns-after-is_ok : goal.returns-after-is_ok
returns-after-is_ok g c = (
  Some c.deref.result.now,
  words_answer (contents_of c.args.bench.now) (contents_of c.reread_words-answer.new.bench) (state_of c.args.desk.now) c.deref.result.now c.reread_words-answer.result c.reread_reply.result
      (subst (λ (m : Bool). RereadsWords m c.reread_words-answer.result c.deref.result.now (contents_of c.args.bench.now) (contents_of c.reread_words-answer.new.bench)) c.may_break.ensures c.reread_words-answer.ensures) c.reread_reply.ensures,
)

pub returns-in-Err-Unreadable : goal.returns-in-Err-Unreadable
returns-in-Err-Unreadable g c = (None, c.words_reply-in-Err-Unreadable.ensures)

pub returns-in-Err-OutOfMemory : goal.returns-in-Err-OutOfMemory
returns-in-Err-OutOfMemory g c = words_memory (contents_of c.args.bench.now) (state_of c.args.desk.now) c.edit_reply.result c.edit_reply.ensures
