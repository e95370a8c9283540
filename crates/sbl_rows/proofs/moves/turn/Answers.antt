use Rattle.std.proofs.Common.{◌∙◌, ◌<◌, ◌≤◌, length, arith, ap}
use Rattle.sbl_rows.specs.Views.{view_pairs}
use Rattle.sbl_rows.proofs.SetFacts.{no_pair}
use Rattle.sbl_rows.proofs.TurnFacts.{all_turned, one_more}
use Rattle.sbl_rows.proofs.moves.turn.Goals as goal

pub loop-stems-preserved : goal.loop-stems-preserved
loop-stems-preserved c =
    let lt : c.loop-stems.stems-index < length c.args.moves.now = let t = c.loop-stems-test.true in let a = c.loop-stems.auto.moves in omega arith in
    one_more c.args.moves.now c.loop-stems.moves c.loop-stems.stems-index no_pair lt c.loop-stems.invariant

pub returns : goal.returns
returns c =
    let le : length c.args.moves.now ≤ c.loop-stems.stems-index = let t = c.loop-stems-test.false in let a = c.loop-stems.auto.moves in omega arith in
    ap view_pairs c.loop-stems.invariant ∙ all_turned c.args.moves.now c.loop-stems.stems-index le
