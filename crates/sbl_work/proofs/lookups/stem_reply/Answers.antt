use Rattle.std.proofs.Common.{rules, ◌≡◌, ℕ, List, ap, inr, subst}
use Rattle.std.specs.Str.{chars}
use Rattle.sbl_bench.specs.Contents.{Contents}
use Rattle.sbl_bench.specs.KeptRuns.{contents_of}
use Rattle.sbl_work.specs.Commands.{Stem}
use Rattle.sbl_work.specs.Replies.{stem_reply_text}
use Rattle.sbl_work.specs.ReplyViews.{IsWorkAnswer}
use Rattle.sbl_work.proofs.ReplyFacts.{reply_is_told, same_command}
use Rattle.sbl_work.proofs.lookups.stem_reply.Goals as goal

pub returns-in-Ok : goal.returns-in-Ok
returns-in-Ok c = λ d.
    let s = contents_of c.args.bench.now in
    let t = contents_of c.keep_classes-kept.new.self in
    let q = c.deref.result.now in
    let r = c.class_reply.result in
    let stem = chars c.args.text.now in
    let kept : t ≡ s = search rules in
    let same : q ≡ stem = search rules in
    let there : IsWorkAnswer t d (Stem stem) r t d =
    same_command t t d d (Stem q) (Stem stem) r (ap (λ (x : List ℕ). Stem x) same) (reply_is_told t d (stem_reply_text t q) r c.class_reply.ensures) in
    subst (λ (x : Contents). IsWorkAnswer x d (Stem stem) r t d) kept there

pub returns-in-Err : goal.returns-in-Err
returns-in-Err c = λ d.
    let s = contents_of c.args.bench.now in
    let t = contents_of c.keep_classes-kept.new.self in
    let r = c.edit_reply.result in
    let stem = chars c.args.text.now in
    let kept : t ≡ s = search rules in
    let there : IsWorkAnswer t d (Stem stem) r t d = reply_is_told t d (stem_reply_text t stem) r (inr c.edit_reply.ensures) in
    subst (λ (x : Contents). IsWorkAnswer x d (Stem stem) r t d) kept there
