use Rattle.std.proofs.Common.{rules, ◌≡◌, ◌<◌, ◌≤◌, Option, List, ℕ, Some, length, subst, sym}
use Rattle.std.specs.Borrow.{Bor}
use Rattle.sbl_reports.specs.Block.{max_script}
use Rattle.sbl_work.specs.Commands.{TokensOf, with_file}
use Rattle.sbl_work.specs.ReplyViews.{IsWorkAnswer, view_file}
use Rattle.sbl_work.proofs.TextReplyFacts.{file_rows, file_too_long}
use Rattle.sbl_work.proofs.text_replies.file_tokens_reply.Goals as goal

pub returns-then-bytes-gt-MAX_SCRIPT : goal.returns-then-bytes-gt-MAX_SCRIPT
returns-then-bytes-gt-MAX_SCRIPT c = λ s d.
    let is : c.args.file ≡ Some c.in-Some.bytes = search rules in
    let long : max_script < length c.in-Some.bytes.now = search rules in
    subst (λ (f : Option (Bor (List ℕ))). IsWorkAnswer s d (with_file TokensOf (view_file f)) c.edit_reply.result s d) (sym is)
    (file_too_long s d c.in-Some.bytes.now c.edit_reply.result long c.edit_reply.ensures)

pub returns : goal.returns
returns c = λ s d.
    let is : c.args.file ≡ Some c.in-Some.bytes = search rules in
    let few : length c.in-Some.bytes.now ≤ max_script = search rules in
    subst (λ (f : Option (Bor (List ℕ))). IsWorkAnswer s d (with_file TokensOf (view_file f)) c.tokens_of.result s d) (sym is)
    (file_rows s d c.in-Some.bytes.now c.tokens_of.result few (c.tokens_of.ensures s d))
