use Rattle.std.proofs.Common.{rules, ◌≡◌, Bool, Option, List, ℕ, Some, subst, sym}
use Rattle.std.specs.Borrow.{Bor}
use Rattle.sbl_bench.specs.KeptRuns.{contents_of}
use Rattle.sbl_work.specs.Commands.{Words, with_file}
use Rattle.sbl_history.specs.Desks.{state_of}
use Rattle.sbl_work.specs.Replies.{RereadsWords}
use Rattle.sbl_work.specs.ReplyViews.{IsWorkAnswer, view_file}
use Rattle.sbl_work.proofs.WordFileFacts.{words_answer}
use Rattle.sbl_work.proofs.word_files.words_reply.Goals as goal

pub returns : goal.returns
returns g c =
    let s = contents_of c.args.bench.now in
    let t = contents_of c.reread_words.new.bench in
    let d = state_of c.args.desk.now in
    let rereads = subst (λ (m : Bool). RereadsWords m c.reread_words.result c.in-Some.bytes.now s t) c.may_break.ensures c.reread_words.ensures in
    let is : c.args.file ≡ Some c.in-Some.bytes = search rules in
    subst (λ (f : Option (Bor (List ℕ))). IsWorkAnswer s d (with_file Words (view_file f)) c.reread_reply.result t d) (sym is)
    (words_answer s t d c.in-Some.bytes.now c.reread_words.result c.reread_reply.result rereads c.reread_reply.ensures)
