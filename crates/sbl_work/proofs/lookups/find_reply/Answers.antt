use Rattle.std.proofs.Common.{rules, ◌≡◌, ◌∙◌, ◌==◌, ℕ, List, ap, false, inr, length}
use Rattle.std.specs.Str.{chars}
use Rattle.sbl_bench.specs.KeptRuns.{contents_of}
use Rattle.sbl_reports.specs.Lookups.{found_text}
use Rattle.sbl_sessions.specs.Commands.{Bad}
use Rattle.sbl_work.specs.Commands.{Find, Session, find_command}
use Rattle.sbl_work.proofs.LookupFacts.{bad_told, no_part, report_told, some_part}
use Rattle.sbl_work.proofs.ReplyFacts.{reply_is_told, same_command}
use Rattle.sbl_work.proofs.lookups.find_reply.Goals as goal

pub returns-then-is_empty : goal.returns-then-is_empty
returns-then-is_empty c = λ d.
    let none : length c.args.text.now ≡ 0 = search rules in
    let bad : find_command c.args.text.now ≡ Session Bad = no_part c.args.text.now none in
    search (rules, bad_told)

pub returns-in-Ok : goal.returns-in-Ok
returns-in-Ok c = λ d.
    let s = contents_of c.args.bench.now in
    let q = c.deref.result.now in
    let same : q ≡ chars c.args.text.now = search rules in
    let some : (length c.args.text.now == 0) ≡ false = search rules in
    same_command s s d d (Find q) (find_command c.args.text.now) c.report.result (ap (λ (x : List ℕ). Find x) same ∙ some_part c.args.text.now some)
    (reply_is_told s d (found_text q s) c.report.result (report_told (found_text q s) c.found_text.result c.report.result c.report.ensures.made c.report.ensures.refused c.found_text.ensures))

pub returns-in-Err : goal.returns-in-Err
returns-in-Err c = λ d.
    let s = contents_of c.args.bench.now in
    let some : (length c.args.text.now == 0) ≡ false = search rules in
    same_command s s d d (Find (chars c.args.text.now)) (find_command c.args.text.now) c.edit_reply.result (some_part c.args.text.now some)
    (reply_is_told s d (found_text (chars c.args.text.now) s) c.edit_reply.result (inr c.edit_reply.ensures))
