use Rattle.std.proofs.Common.{rules, ◌≡◌, ◌∙◌, ap, codes, true, false}
use Rattle.std.specs.Str.{bytes_eq}
use Rattle.sbl_sessions.specs.Words.{argument, command_word}
use Rattle.sbl_work.specs.Commands.{Echo}
use Rattle.sbl_work.proofs.LineFacts.{is_echo, is_other}
use Rattle.sbl_work.proofs.requests.line_request.Goals as goal

pub returns-then-eq : goal.returns-then-eq
returns-then-eq c = λ file.
    let echo : bytes_eq (command_word c.args.line.now) (codes "echo") ≡ true = search rules in
    let bytes : c.as_bytes.result.now ≡ c.args.line.now = search rules in
    ap Echo (c.split.ensures.argument ∙ ap argument bytes) ∙ is_echo file c.args.line.now echo

pub returns : goal.returns
returns c = λ file.
    let silent : bytes_eq (command_word c.args.line.now) (codes "echo") ≡ false = search rules in
    c.text_request.ensures file ∙ is_other file c.args.line.now silent
