use Rattle.std.specs.Str.{chars}
use Rattle.sbl_bench.specs.KeptRuns.{contents_of}
use Rattle.sbl_work.specs.Replies.{why_reply_text}
use Rattle.sbl_work.proofs.ReplyFacts.{reply_is_told}
use Rattle.sbl_work.proofs.answers.why.Goals as goal

pub returns : goal.returns
returns c = λ d. reply_is_told (contents_of c.args.bench.now) d (why_reply_text (contents_of c.args.bench.now) (chars c.args.word.now)) c.why_reply.result c.why_reply.ensures
