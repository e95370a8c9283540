use Rattle.std.proofs.Common.{subst}
use Rattle.sbl_bench.specs.KeptRuns.{contents_of}
use Rattle.sbl_reports.specs.Block.{made_text}
use Rattle.sbl_sessions.specs.Requests.{asks_block}
use Rattle.sbl_work.specs.Commands.{is_replace}
use Rattle.sbl_history.specs.Desks.{state_of}
use Rattle.sbl_work.specs.ReplyViews.{FindsBlock}
use Rattle.sbl_work.specs.declared.requests.BlockRequest.{BlockRequest}
use Rattle.sbl_work.specs.declared.requests.BlockRequest.TheVariants as blocks
use Rattle.sbl_work.proofs.ReplyFacts.{families_block, replace_block, whole_answer}
use Rattle.sbl_work.proofs.parts.answer_block.Goals as goal

pub returns-in-Families : goal.returns-in-Families
returns-in-Families g c = λ line lines finds holds.
    let it : FindsBlock blocks.Families line = subst (λ (r : BlockRequest). FindsBlock r line) c.in-Families.is finds in
    families_block (contents_of c.args.bench.now) (contents_of c.args.bench.now) (state_of c.args.desk.now) (state_of c.args.desk.now) line lines c.families_of.result
    (asks_block line) (is_replace line) it.0 it.1 (c.families_of.ensures (state_of c.args.desk.now) lines holds)

pub returns-in-Whole : goal.returns-in-Whole
returns-in-Whole g c = λ line lines finds holds.
    let s = contents_of c.args.bench.now in
    let t = contents_of c.replace_by.new.bench in
    let d = state_of c.args.desk.now in
    let e = state_of c.replace_by.new.desk in
    let it : FindsBlock blocks.Whole line = subst (λ (r : BlockRequest). FindsBlock r line) c.in-Whole.is finds in
    replace_block s t d e line lines c.edit_reply.result (asks_block line) (is_replace line) it.0 it.1
    (whole_answer s t d e (made_text lines) c.replace_by.result c.edit_reply.result (c.replace_by.ensures lines holds) c.edit_reply.ensures)
