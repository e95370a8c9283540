use Rattle.std.proofs.Common.{◌≡◌, ◌∙◌, List, ℕ, true, false, refl, sym, subst, ap, rules}
use Rattle.sbl_bench.specs.KeptRuns.{contents_of}
use Rattle.sbl_sessions.specs.CommandViews.{IsAnswer, KeepsLine}
use Rattle.sbl_sessions.specs.Commands.{line_command}
use Rattle.sbl_io.specs.HeldInput.{input_of, line_of}
use Rattle.sbl_sessions.specs.Requests.{asks_block}
use Rattle.sbl_io.proofs.ReadingFacts.{reads-nothing}
use Rattle.sbl_sessions.specs.declared.replies.Reply.TheVariants as reply
use Rattle.sbl_sessions.proofs.SessionFacts.{answered_block, answered_line}
use Rattle.sbl_sessions.proofs.serving.answer.Goals as goal

pub returns-then-not-asks_block-clause-answered : goal.returns-then-not-asks_block-clause-answered
returns-then-not-asks_block-clause-answered g c =
    let s = contents_of c.args.bench.now in
    let t = contents_of c.answer_line.new.bench in
    let line = line_of c.args.lines.now in
    let asked : asks_block line ≡ false = search rules in
    let is : IsAnswer s (line_command line) c.answer_line.result t =
    subst (λ (x : List ℕ). IsAnswer s (line_command x) c.answer_line.result t) c.line-then-not-asks_block.ensures c.answer_line.ensures in
    answered_line (input_of g.R.Source.left c.args.lines.now) line s t c.answer_line.result asked is

pub returns-then-not-asks_block-clause-reading : goal.returns-then-not-asks_block-clause-reading
returns-then-not-asks_block-clause-reading g c = reads-nothing _ _ _ _ c.requires.ready

pub returns-clause-answered : goal.returns-clause-answered
returns-clause-answered g c =
    let s = contents_of c.args.bench.now in
    let t = contents_of c.edit_script-edited.new.bench in
    let left = g.R.Source.left in
    let line = line_of c.args.lines.now in
    let asked : asks_block line ≡ true = search rules in
    let keeps : KeepsLine c.keep_line-kept.result line = subst (λ (x : List ℕ). KeepsLine c.keep_line-kept.result x) c.line-2.ensures c.keep_line-kept.ensures in
    answered_block (input_of left c.args.lines.now) (input_of left c.read_block.new.lines) line s t c.in_ok-block.block c.edit_script-edited.result.text.now (reply.Fixed c.edit_script-edited.result.text) asked
    (c.in_ok-block.ensures.reads c.requires.ready) (λ lines holds. c.edit_script-edited.ensures line lines keeps holds) refl
