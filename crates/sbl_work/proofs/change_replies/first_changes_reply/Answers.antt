use Rattle.std.proofs.Common.{rules, ◌≡◌, ◌∙◌, ℕ, List, Option, Some, None, ap, sym}
use Rattle.std.specs.Option.{option_map_or}
use Rattle.sbl_bench.specs.KeptRuns.{contents_of}
use Rattle.sbl_history.specs.Desks.{state_of}
use Rattle.sbl_history.specs.ChangeReports.{first_changes_text}
use Rattle.sbl_sessions.specs.Commands.{Bad}
use Rattle.sbl_work.specs.Commands.{FirstChanges, Session, count_in, first_changes_command}
use Rattle.sbl_work.proofs.LookupFacts.{bad_told, report_told}
use Rattle.sbl_work.proofs.ReplyFacts.{reply_is_told, same_command}
use Rattle.sbl_work.proofs.change_replies.first_changes_reply.Goals as goal

pub returns-in-Some : goal.returns-in-Some
returns-in-Some c =
    let s = contents_of c.args.bench.now in
    let d = state_of c.args.desk.now in
    let n = c.in-Some.number in
    let bytes : c.as_bytes.result.now ≡ c.args.argument.now = search rules in
    let number : count_in c.args.argument.now ≡ Some n = sym (ap count_in bytes) ∙ sym c.count_in.ensures ∙ c.in-Some.is in
    same_command s s d d (FirstChanges n) (first_changes_command c.args.argument.now) c.report.result
    (sym (ap (λ (o : Option ℕ). option_map_or FirstChanges o (Session Bad)) number))
    (reply_is_told s d (first_changes_text n d.marked s) c.report.result
    (report_told (first_changes_text n d.marked s) c.first_since_mark.result c.report.result c.report.ensures.made c.report.ensures.refused c.first_since_mark.ensures))

pub returns-in-None : goal.returns-in-None
returns-in-None c =
    let bytes : c.as_bytes.result.now ≡ c.args.argument.now = search rules in
    let none : count_in c.args.argument.now ≡ None = sym (ap count_in bytes) ∙ sym c.count_in.ensures ∙ c.in-None.is in
    let bad : first_changes_command c.args.argument.now ≡ Session Bad = ap (λ (o : Option ℕ). option_map_or FirstChanges o (Session Bad)) none in
    search (rules, bad_told)
