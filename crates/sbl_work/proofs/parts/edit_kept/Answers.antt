use Rattle.std.proofs.Common.{rules, ◌≡◌, ◌∙◌, Err, List, None, Ok, Some, string_bytes, subst, ℕ}
use Rattle.sbl_bench.specs.KeptRuns.{contents_of}
use Rattle.sbl_history.specs.Desks.{state_of}
use Rattle.sbl_sessions.proofs.CommandFacts.{kept_as}
use Rattle.sbl_sessions.specs.Commands.{target_of}
use Rattle.sbl_work.specs.Answering.{part_edit}
use Rattle.sbl_work.specs.ReplyViews.{IsWorkAnswer}
use Rattle.sbl_work.proofs.ReplyFacts.{part_bad, part_unkept}
use Rattle.sbl_work.proofs.parts.edit_kept.Goals as goal

pub returns-in-Ok-Some : goal.returns-in-Ok-Some
returns-in-Ok-Some g c = λ line lines keeps holds.
    let s = contents_of c.args.bench.now in
    let t = contents_of c.edit_named.new.bench in
    let d = state_of c.args.desk.now in
    let e = state_of c.edit_named.new.desk in
    let kept : string_bytes c.in-Ok-Some.line ≡ line = (kept_as c.args.kept (Ok (Some c.in-Ok-Some.line)) line (search rules) keeps).0 in
    let given : c.as_str.result.now ≡ string_bytes c.in-Ok-Some.line = search rules in
    subst (λ (x : List ℕ). IsWorkAnswer s d (part_edit x lines) c.edit_named.result t e) (given ∙ kept) (c.edit_named.ensures lines holds)

pub returns-in-Ok-None : goal.returns-in-Ok-None
returns-in-Ok-None g c = λ line lines keeps holds.
    let none : target_of line ≡ None = kept_as c.args.kept (Ok None) line (search rules) keeps in
    search (rules, part_bad)

pub returns-in-Err : goal.returns-in-Err
returns-in-Err g c = λ line lines keeps holds.
    part_unkept (contents_of c.args.bench.now) (state_of c.args.desk.now) line lines _ (kept_as c.args.kept (Err c.in-Err.field-0) line (search rules) keeps) (search rules)
