use Rattle.std.proofs.Common.{◌≡◌, List, ℕ, None, Some, Ok, Err, rules, string_bytes, subst, sym, ◌∙◌}
use Rattle.sbl_bench.specs.KeptRuns.{contents_of}
use Rattle.sbl_sessions.specs.CommandViews.{IsTextAnswer}
use Rattle.sbl_sessions.specs.Commands.{block_command}
use Rattle.sbl_sessions.proofs.CommandFacts.{kept_as}
use Rattle.sbl_sessions.proofs.EditFacts.{bad_line, name_refused}
use Rattle.sbl_sessions.proofs.session_edits.edit_script.Goals as goal

pub returns-in-Ok-None : goal.returns-in-Ok-None
returns-in-Ok-None c = λ line lines keeps holds.
    let s = contents_of c.args.bench.now in
    subst (λ (x : List ℕ). IsTextAnswer s (block_command line lines) x s) (sym c.of_text.ensures) (bad_line s line lines (sym (kept_as c.args.kept (Ok None) line (search rules) keeps)))

pub returns-in-Err : goal.returns-in-Err
returns-in-Err c = λ line lines keeps holds.
    let s = contents_of c.args.bench.now in
    subst (λ (x : List ℕ). IsTextAnswer s (block_command line lines) x s) (sym (c.of_text-in-Err.ensures ∙ c.edit_text.ensures))
    (name_refused s line lines (kept_as c.args.kept (Err c.in-Err.field-0) line c.in-Err.is keeps))

pub returns-in-Ok-Some : goal.returns-in-Ok-Some
returns-in-Ok-Some c = λ line lines keeps holds.
    let s = contents_of c.args.bench.now in
    let t = contents_of c.edit_named.new.bench in
    let kept : string_bytes c.in-Ok-Some.line ≡ line = (kept_as c.args.kept (Ok (Some c.in-Ok-Some.line)) line (search rules) keeps).0 in
    subst (λ (x : List ℕ). IsTextAnswer s (block_command x lines) c.edit_named.result.text.now t) kept (c.edit_named.ensures lines holds)
