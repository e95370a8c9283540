use Rattle.std.proofs.Common.{◌≡◌, ℕ, List, false, subst}
use Rattle.sbl_bench.specs.KeptRuns.{contents_of}
use Rattle.sbl_io.proofs.ReadingFacts.{reads-nothing}
use Rattle.sbl_io.specs.HeldInput.{input_of, line_of}
use Rattle.sbl_work.specs.Commands.{asks_work_block}
use Rattle.sbl_history.specs.Desks.{state_of}
use Rattle.sbl_work.specs.ReplyViews.{FindsBlock, IsFileAnswer}
use Rattle.sbl_work.proofs.ServingFacts.{answered_block, answered_line, asks_found}
use Rattle.sbl_work.proofs.serving.answer.Goals as goal

pub returns-in-None-clause-answered : goal.returns-in-None-clause-answered
returns-in-None-clause-answered g c =
    let s = contents_of c.args.bench.now in
    let t = contents_of c.answer_alone-reply.new.bench in
    let d = state_of c.args.desk.now in
    let e = state_of c.answer_alone-reply.new.desk in
    let line = line_of c.args.lines.now in
    let asks : asks_work_block line ≡ false = subst (λ (x : List ℕ). asks_work_block x ≡ false) c.line.ensures c.in-None.ensures in
    let is : IsFileAnswer s d line c.answer_alone-reply.result t e = subst (λ (x : List ℕ). IsFileAnswer s d x c.answer_alone-reply.result t e) c.line-line.ensures c.answer_alone-reply.ensures in
    answered_line (input_of g.R.Source.left c.args.lines.now) line s t d e c.answer_alone-reply.result asks is

pub returns-in-None-clause-reading : goal.returns-in-None-clause-reading
returns-in-None-clause-reading g c = reads-nothing _ _ _ _ c.requires.ready

pub returns-in_ok-block-in-Some-clause-answered : goal.returns-in_ok-block-in-Some-clause-answered
returns-in_ok-block-in-Some-clause-answered g c =
    let left = g.R.Source.left in
    let line = line_of c.args.lines.now in
    let request = c.in-Some.request in
    let finds : FindsBlock request line = subst (λ (x : List ℕ). FindsBlock request x) c.line.ensures c.in-Some.ensures in
    answered_block (input_of left c.args.lines.now) (input_of left c.read_block.new.lines) line (contents_of c.args.bench.now) (contents_of c.answer_block.new.bench)
    (state_of c.args.desk.now) (state_of c.answer_block.new.desk) c.in_ok-block-in-Some.block c.answer_block.result (asks_found request line finds)
    (c.in_ok-block-in-Some.ensures.reads c.requires.ready) (λ lines holds. c.answer_block.ensures line lines finds holds)
