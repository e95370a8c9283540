use Rattle.std.proofs.Common.{rules, ◌≡◌, inr, ap}
use Rattle.std.specs.Str.{chars}
use Rattle.sbl_bench.specs.KeptRuns.{contents_of}
use Rattle.sbl_uses.specs.Uses.{OfString}
use Rattle.sbl_work.specs.Commands.{Uses}
use Rattle.sbl_work.specs.Replies.{uses_reply_text}
use Rattle.sbl_work.proofs.ReplyFacts.{reply_is_told, same_command}
use Rattle.sbl_work.proofs.lookups.string_users_reply.Goals as goal

pub returns-in-Ok : goal.returns-in-Ok
returns-in-Ok c = λ d.
    let s = contents_of c.args.bench.now in
    let n = c.args.name.now in
    let k = c.args.number in
    let q = c.deref.result.now in
    let same : q ≡ chars c.args.string.now = search rules in
    same_command s s d d (Uses (OfString n k q)) (Uses (OfString n k (chars c.args.string.now))) c.users_reply.result (ap (λ x. Uses (OfString n k x)) same)
    (reply_is_told s d (uses_reply_text s (OfString n k q)) c.users_reply.result c.users_reply.ensures)

pub returns-in-Err : goal.returns-in-Err
returns-in-Err c = λ d.
    let s = contents_of c.args.bench.now in
    reply_is_told s d (uses_reply_text s (OfString c.args.name.now c.args.number (chars c.args.string.now))) c.edit_reply.result (inr c.edit_reply.ensures)
