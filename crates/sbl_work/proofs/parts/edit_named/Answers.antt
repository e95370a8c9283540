use Rattle.std.proofs.Common.{rules, ◌≡◌, ◌∙◌, None, Option, Some, ap, subst, sym}
use Rattle.std.specs.Option.{option_map}
use Rattle.sbl_bench.specs.KeptRuns.{contents_of}
use Rattle.sbl_history.specs.Desks.{state_of}
use Rattle.sbl_ast.specs.NamedParts.{Part'}
use Rattle.sbl_script.specs.Parts.{view_part}
use Rattle.sbl_reports.specs.Block.{made_text}
use Rattle.sbl_sessions.specs.Commands.{target_of, text_of_block}
use Rattle.sbl_work.specs.Commands.{part_command}
use Rattle.sbl_work.specs.ReplyViews.{IsWorkAnswer}
use Rattle.sbl_work.proofs.ReplyFacts.{part_bad}
use Rattle.sbl_work.proofs.parts.edit_named.Goals as goal

pub returns-in-Some : goal.returns-in-Some
returns-in-Some g c = λ lines holds.
    let s = contents_of c.args.bench.now in
    let t = contents_of c.edit_part.new.bench in
    let d = state_of c.args.desk.now in
    let e = state_of c.edit_part.new.desk in
    let named : Some (view_part c.in-Some.part) ≡ target_of c.args.line.now = sym (ap (option_map view_part) c.in-Some.is) ∙ c.part_of.ensures in
    subst (λ (o : Option Part'). IsWorkAnswer s d (part_command o (made_text lines) (text_of_block lines)) c.edit_part.result t e) named (c.edit_part.ensures lines holds)

pub returns-in-None : goal.returns-in-None
returns-in-None g c = λ lines holds.
    let none : target_of c.args.line.now ≡ None = sym c.part_of.ensures ∙ ap (option_map view_part) c.in-None.is in
    search (rules, part_bad)
