use Rattle.std.proofs.Common.{rules, ◌≡◌, ◌⊎◌, List, ℕ, Some, subst}
use Rattle.std.specs.Str.{chars}
use Rattle.sbl_bench.specs.KeptRuns.{contents_of}
use Rattle.sbl_bench.specs.Whys.{refusal_of_why}
use Rattle.sbl_bench.specs.declared.fault.EditFault.TheVariants as fault
use Rattle.sbl_sessions.specs.Answers.{edit_text}
use Rattle.sbl_sessions.specs.CommandViews.{IsReply}
use Rattle.sbl_explain.specs.Integers.{integers_text}
use Rattle.sbl_work.specs.Replies.{integers_reply_text}
use Rattle.sbl_work.proofs.ReplyFacts.{rows_told}
use Rattle.sbl_work.proofs.whys.integers_reply.Goals as goal

pub returns-in-Ok : goal.returns-in-Ok
returns-in-Ok c =
    let contents = contents_of c.args.bench.now in
    let word = c.deref.result.now in
    let same : word ≡ chars c.args.word.now = search rules in
    let told = rows_told (refusal_of_why word) (integers_text contents.setting word) c.integers_text.result c.rows_reply.result c.integers_text.ensures.rows c.integers_text.ensures.refused c.integers_text.ensures.memory c.rows_reply.ensures in
    subst (λ (w : List ℕ). IsReply c.rows_reply.result (integers_reply_text contents w) ⊎ IsReply c.rows_reply.result (edit_text (Some fault.OutOfMemory))) same told
