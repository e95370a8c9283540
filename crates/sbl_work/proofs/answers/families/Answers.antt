use Rattle.std.proofs.Common.{rules, ◌≡◌, Option, List, ℕ, Some, ap, subst, sym}
use Rattle.std.specs.Borrow.{Bor}
use Rattle.sbl_bench.specs.KeptRuns.{contents_of}
use Rattle.sbl_io.specs.LinesOf.{lines_of}
use Rattle.sbl_reports.specs.Block.{made_text}
use Rattle.sbl_work.specs.Commands.{Families, families_in_file, with_file}
use Rattle.sbl_work.specs.ReplyViews.{IsWorkAnswer, view_file}
use Rattle.sbl_work.proofs.ReplyFacts.{same_command}
use Rattle.sbl_work.proofs.answers.families.Goals as goal

pub returns-in-Ok : goal.returns-in-Ok
returns-in-Ok c = λ d.
    let s = contents_of c.args.bench.now in
    let is : c.args.file ≡ Some c.in-Some.bytes = search rules in
    let text : c.deref.result.now ≡ made_text (lines_of c.in-Some.bytes.now) = search rules in
    subst (λ (f : Option (Bor (List ℕ))). IsWorkAnswer s d (with_file families_in_file (view_file f)) c.families_reply.result s d) (sym is)
    (same_command s s d d (Families c.deref.result.now) (Families (made_text (lines_of c.in-Some.bytes.now))) c.families_reply.result (ap Families text) (c.families_reply.ensures d))
