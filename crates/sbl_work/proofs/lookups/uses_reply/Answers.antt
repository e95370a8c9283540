use Rattle.std.proofs.Common.{rules, ◌≡◌, ◌∙◌, ◌==◌, ℕ, List, ap, ap₂, false, length, true}
use Rattle.std.specs.Option.{option_map_or}
use Rattle.sbl_bench.specs.KeptRuns.{contents_of}
use Rattle.sbl_uses.specs.Uses.{OfName}
use Rattle.sbl_sessions.specs.Commands.{Bad}
use Rattle.sbl_sessions.specs.Words.{argument, command_word}
use Rattle.sbl_work.specs.Commands.{Session, Uses, uses_command}
use Rattle.sbl_work.specs.Questions.{among_question, has_space}
use Rattle.sbl_work.specs.Replies.{uses_reply_text}
use Rattle.sbl_work.proofs.LookupFacts.{bad_told, name_alone, name_and_more, no_name}
use Rattle.sbl_work.proofs.ReplyFacts.{reply_is_told, same_command}
use Rattle.sbl_work.proofs.lookups.uses_reply.Goals as goal

pub returns-then-is_empty : goal.returns-then-is_empty
returns-then-is_empty c = λ d.
    let none : length (command_word c.args.text.now) ≡ 0 = search rules in
    let bad : uses_command c.args.text.now ≡ Session Bad = no_name c.args.text.now none in
    search (rules, bad_told)

pub returns-in-Some : goal.returns-in-Some
returns-in-Some c = λ d.
    let s = contents_of c.args.bench.now in
    let text = c.args.text.now in
    let n = c.split_at_space.result.0.now in
    let r = c.in-Some.rest.now in
    let name : n ≡ command_word text = search rules in
    let rest : r ≡ argument text = search rules in
    let some : (length (command_word text) == 0) ≡ false = search rules in
    let more : has_space text ≡ true = search rules in
    same_command s s d d (option_map_or Uses (among_question n r) (Session Bad)) (uses_command text) c.among_users_reply.result
    (ap₂ (λ (a b : List ℕ). option_map_or Uses (among_question a b) (Session Bad)) name rest ∙ name_and_more text some more) (c.among_users_reply.ensures d)

pub returns-in-None : goal.returns-in-None
returns-in-None c = λ d.
    let s = contents_of c.args.bench.now in
    let text = c.args.text.now in
    let n = c.split_at_space.result.0.now in
    let name : n ≡ command_word text = search rules in
    let some : (length (command_word text) == 0) ≡ false = search rules in
    let alone : has_space text ≡ false = search rules in
    same_command s s d d (Uses (OfName n)) (uses_command text) c.users_reply.result (ap (λ (x : List ℕ). Uses (OfName x)) name ∙ name_alone text some alone)
    (reply_is_told s d (uses_reply_text s (OfName n)) c.users_reply.result c.users_reply.ensures)
