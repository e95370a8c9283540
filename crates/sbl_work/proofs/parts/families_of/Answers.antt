use Rattle.std.proofs.Common.{rules, ◌≡◌, ◌∙◌}
use Rattle.sbl_bench.specs.KeptRuns.{contents_of}
use Rattle.sbl_work.proofs.ReplyFacts.{families_held}
use Rattle.sbl_work.proofs.parts.families_of.Goals as goal

pub returns-in-Ok : goal.returns-in-Ok
returns-in-Ok c = λ d lines holds.
    let names = c.in-Ok.ensures lines holds in
    let value : c.deref.result.now ≡ c.in-Ok.bytes.items = search rules in
    families_held (contents_of c.args.bench.now) d c.deref.result.now lines c.families_reply.result (value ∙ names.0) names.1 (c.families_reply.ensures d)
