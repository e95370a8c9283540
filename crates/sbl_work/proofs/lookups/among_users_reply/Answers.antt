use Rattle.std.proofs.Common.{rules, ◌≡◌, ◌∙◌, ℕ, List, None, Some, ap, false, true}
use Rattle.std.specs.Option.{option_map_or}
use Rattle.std.specs.Str.{chars}
use Rattle.sbl_bench.specs.KeptRuns.{contents_of}
use Rattle.sbl_uses.specs.Uses.{OfAmong, OfString}
use Rattle.sbl_sessions.specs.Commands.{Bad}
use Rattle.sbl_sessions.specs.Numbers.{number_in}
use Rattle.sbl_sessions.specs.Words.{argument, command_word}
use Rattle.sbl_work.specs.Commands.{Session, Uses}
use Rattle.sbl_work.specs.Questions.{among_question, has_space}
use Rattle.sbl_work.specs.Replies.{uses_reply_text}
use Rattle.sbl_work.proofs.LookupFacts.{bad_told, no_number, one_among, one_string}
use Rattle.sbl_work.proofs.ReplyFacts.{reply_is_told, same_command}
use Rattle.sbl_work.proofs.lookups.among_users_reply.Goals as goal

pub returns-in_default : goal.returns-in_default
returns-in_default c = λ d.
    let none : number_in (command_word c.args.text.now) ≡ None = search rules in
    let bad : option_map_or Uses (among_question c.args.name.now c.args.text.now) (Session Bad) ≡ Session Bad = no_number c.args.name.now c.args.text.now none in
    search (rules, bad_told)

pub returns-in-Some-string : goal.returns-in-Some-string
returns-in-Some-string c = λ d.
    let s = contents_of c.args.bench.now in
    let n = c.args.name.now in
    let text = c.args.text.now in
    let k = c.in-Some.number in
    let q = c.in-Some-string.string.now in
    let number : number_in (command_word text) ≡ Some k = search rules in
    let rest : q ≡ argument text = search rules in
    let more : has_space text ≡ true = search rules in
    same_command s s d d (Uses (OfString n k (chars q))) (option_map_or Uses (among_question n text) (Session Bad)) c.string_users_reply.result
    (ap (λ (x : List ℕ). Uses (OfString n k (chars x))) rest ∙ one_string n text k number more) (c.string_users_reply.ensures d)

pub returns-in-None : goal.returns-in-None
returns-in-None c = λ d.
    let s = contents_of c.args.bench.now in
    let n = c.args.name.now in
    let text = c.args.text.now in
    let k = c.in-Some.number in
    let number : number_in (command_word text) ≡ Some k = search rules in
    let alone : has_space text ≡ false = search rules in
    same_command s s d d (Uses (OfAmong n k)) (option_map_or Uses (among_question n text) (Session Bad)) c.users_reply.result (one_among n text k number alone)
    (reply_is_told s d (uses_reply_text s (OfAmong n k)) c.users_reply.result c.users_reply.ensures)
