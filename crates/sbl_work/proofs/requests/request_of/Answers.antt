use Rattle.std.proofs.Common.{rules, ◌≡◌, ◌∙◌, ap, true, false, subst, List, ℕ}
use Rattle.std.specs.Str.{is_utf8}
use Rattle.std.proofs.lemmas.Str.{is_utf8-from_IsUtf8}
use Rattle.sbl_work.specs.Commands.{alone_command, is_comment, utf8_command}
use Rattle.sbl_work.specs.ReplyViews.{view_request}
use Rattle.sbl_work.proofs.LineFacts.{is_no_text, is_nothing, is_text}
use Rattle.sbl_sessions.proofs.CommandFacts.{not_text}
use Rattle.sbl_work.proofs.requests.request_of.Goals as goal

pub returns-then-is_comment : goal.returns-then-is_comment
returns-then-is_comment c = λ file.
    let comment : is_comment c.args.line.now ≡ true = search rules in
    is_nothing file c.args.line.now comment

pub returns-in-Ok : goal.returns-in-Ok
returns-in-Ok c = λ file.
    let other : is_comment c.args.line.now ≡ false = search rules in
    let same = c.in-Ok.ensures.cases.0 in
    let utf8 : is_utf8 c.args.line.now ≡ true = is_utf8-from_IsUtf8 c.args.line.now c.in-Ok.ensures.cases.1 in
    subst (λ (l : List ℕ). view_request file l c.line_request.result ≡ alone_command file c.args.line.now) same
    (c.line_request.ensures file ∙ ap (utf8_command file) same ∙ is_text file c.args.line.now other utf8)

pub returns-in-Err : goal.returns-in-Err
returns-in-Err c = λ file.
    let other : is_comment c.args.line.now ≡ false = search rules in
    let bytes : is_utf8 c.args.line.now ≡ false = not_text c.args.line.now c.in-Err.ensures.cases.0 in
    is_no_text file c.args.line.now other bytes
