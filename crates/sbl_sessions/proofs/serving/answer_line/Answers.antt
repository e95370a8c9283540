use Rattle.std.proofs.Common.{List, ℕ, Some, decimal, inl, refl, subst, sym}
use Rattle.std.specs.Str.{chars}
use Rattle.sbl_bench.specs.Edits as edits
use Rattle.sbl_bench.specs.KeptRuns.{KeptRuns, contents_of}
use Rattle.sbl_bench.specs.declared.fault.EditFault.TheVariants as fault
use Rattle.sbl_print.specs.Canonical.{canonical}
use Rattle.sbl_sessions.specs.Answers.{Enough, with_line_feed}
use Rattle.sbl_sessions.specs.CommandViews.{IsAnswer, IsEditAnswer}
use Rattle.sbl_sessions.specs.Commands.{Command, Makes, line_command}
use Rattle.sbl_sessions.specs.inside.SessionParts.{Class, Classes, Runs, Script, Stems}
use Rattle.sbl_reports.specs.Listings.{classes_text, stems_text}
use Rattle.sbl_sessions.specs.declared.replies.Reply.TheVariants as reply
use Rattle.sbl_sessions.proofs.EditFacts.{answer_of_edit, edit_answered}
use Rattle.sbl_sessions.proofs.ReportFacts.{report_answer}
use Rattle.sbl_sessions.proofs.serving.answer_line.Goals as goal

pub returns-in-Add : goal.returns-in-Add
returns-in-Add c =
    edit_answered (line_command c.args.line.now) (edits.Add (chars c.in-Add.word.now)) (contents_of c.args.bench.now) (contents_of c.add_word.new.bench) c.add_word.result c.in-Add.ensures c.add_word.ensures

pub returns-in-Remove : goal.returns-in-Remove
returns-in-Remove c =
    edit_answered (line_command c.args.line.now) (edits.Remove (chars c.in-Remove.word.now)) (contents_of c.args.bench.now) (contents_of c.remove_word.new.bench) c.remove_word.result c.in-Remove.ensures c.remove_word.ensures

pub returns-in-Limit : goal.returns-in-Limit
returns-in-Limit c =
    let s = contents_of c.args.bench.now in
    let t = contents_of c.set_limit.new.self in
    let h : IsEditAnswer s (edits.Limit c.in-Limit.number) c.edit_text.result.now t =
    subst (λ (text : List ℕ). IsEditAnswer s (edits.Limit c.in-Limit.number) text t) (sym c.edit_text.ensures) (answer_of_edit c.set_limit.result s t (edits.Limit c.in-Limit.number) c.set_limit.ensures.edits) in
    edit_answered (line_command c.args.line.now) (edits.Limit c.in-Limit.number) s t c.edit_text.result c.in-Limit.ensures h

pub returns-in-Stems : goal.returns-in-Stems
returns-in-Stems c =
    let s = contents_of c.args.bench.now in
    let a : IsAnswer s Stems c.report.result s = report_answer c.stems_text.result c.report.result s (stems_text s) c.stems_text.ensures c.report.ensures.made c.report.ensures.refused in
    subst (λ (x : Command). IsAnswer s x c.report.result s) c.in-Stems.ensures a

pub returns-in-Classes : goal.returns-in-Classes
returns-in-Classes c =
    let s = contents_of c.keep_classes.new.bench in
    let r = c.report-in-Classes.result in
    let a : IsAnswer s Classes r s = report_answer c.classes_text.result r s (classes_text s) c.classes_text.ensures c.report-in-Classes.ensures.made c.report-in-Classes.ensures.refused in
    subst (λ (x : Command). IsAnswer (contents_of c.args.bench.now) x r s) c.in-Classes.ensures (subst (λ (k : KeptRuns). IsAnswer (contents_of k) Classes r s) c.keep_classes.ensures a)

pub returns-in-Script : goal.returns-in-Script
returns-in-Script c =
    let s = contents_of c.args.bench.now in
    let a : IsAnswer s Script c.report-in-Script.result s = report_answer c.script_text.result c.report-in-Script.result s (canonical s.setting.script.items) c.script_text.ensures c.report-in-Script.ensures.made c.report-in-Script.ensures.refused in
    subst (λ (x : Command). IsAnswer s x c.report-in-Script.result s) c.in-Script.ensures a

pub returns-in-Class : goal.returns-in-Class
returns-in-Class c =
    let s = contents_of c.keep_classes-in-Class.new.bench in
    let r = c.class_reply.result in
    subst (λ (x : Command). IsAnswer (contents_of c.args.bench.now) x r s) c.in-Class.ensures
    (subst (λ (k : KeptRuns). IsAnswer (contents_of k) (Class (chars c.in-Class.word.now)) r s) c.keep_classes-in-Class.ensures c.class_reply.ensures)

pub returns-in-Trace : goal.returns-in-Trace
returns-in-Trace c =
    let s = contents_of c.args.bench.now in
    subst (λ (x : Command). IsAnswer s x c.trace_reply.result s) c.in-Trace.ensures c.trace_reply.ensures

pub returns-in-Runs : goal.returns-in-Runs
returns-in-Runs c =
    let s = contents_of c.args.bench.now in
    let a : IsAnswer s Runs c.report-in-Runs.result s = report_answer c.runs_text.result c.report-in-Runs.result s (with_line_feed (decimal s.count)) c.runs_text.ensures c.report-in-Runs.ensures.made c.report-in-Runs.ensures.refused in
    subst (λ (x : Command). IsAnswer s x c.report-in-Runs.result s) c.in-Runs.ensures a

pub returns-in-HasNoNumber : goal.returns-in-HasNoNumber
returns-in-HasNoNumber c =
    let s = contents_of c.args.bench.now in
    let r = reply.Fixed c.edit_text-in-HasNoNumber.result in
    let a : IsAnswer s (Makes (edits.Limit 0)) r s = (Enough, c.edit_text-in-HasNoNumber.result.now, refl, (Some fault.BadLimit, (inl (refl, refl), refl), c.edit_text-in-HasNoNumber.ensures)) in
    subst (λ (x : Command). IsAnswer s x r s) c.in-HasNoNumber.ensures a
