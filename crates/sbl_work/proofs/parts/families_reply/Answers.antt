use Rattle.sbl_bench.specs.KeptRuns.{contents_of}
use Rattle.sbl_work.proofs.ReplyFacts.{families_bytes, families_utf8}
use Rattle.sbl_work.proofs.parts.families_reply.Goals as goal

pub returns-in-Ok : goal.returns-in-Ok
returns-in-Ok c = λ d.
    families_utf8 (contents_of c.args.bench.now) d c.in-Ok.text.now c.args.bytes.now c.families_text_reply.result c.in-Ok.ensures.cases.0 c.in-Ok.ensures.cases.1 (c.families_text_reply.ensures d)

pub returns-in-Err : goal.returns-in-Err
returns-in-Err c = λ d. families_bytes (contents_of c.args.bench.now) d c.args.bytes.now c.in-Err.ensures.cases.0
