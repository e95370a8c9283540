use Rattle.std.proofs.Common.{rules, arith, ◌≡◌, ◌∙◌, ◌+◌, ◌≤◌, true, false}
use Rattle.std.proofs.lemmas.Result.{err_from_is_err_and}
use Rattle.sbl_script.specs.ParsedScript.{source_of}
use Rattle.sbl_batch.specs.Checking.{count}
use Rattle.sbl_batch.proofs.CheckFacts.{compared_all, compared_first, compared_fails, compared_more, fewer_stems, fewer_words, none_counted, one_counted}
use Rattle.sbl_batch.proofs.checking.check_observed.Goals as goal
use Rattle.sbl_batch.proofs.checking.check_observed.Goals.{then-branch, else-branch}

pub loop-word-init : goal.loop-word-init
loop-word-init g c = record {
  made = search rules;
  compared = compared_first (source_of c.args.script.now) c.args.lists.words.now c.args.lists.expected.now (g.W.Sink.held c.args.writer.now);
  steady = search rules;
  writes = search rules;
  rested = search rules;
  numbered = search rules;
  few = search rules;
}

pub returns-in_default-first_line-clause-checked : goal.returns-in_default-first_line-clause-checked
returns-in_default-first_line-clause-checked g c =
    fewer_stems c.loop-word.invariant.compared _ _ c.in-Some.ensures.lines c.in_default-first_line.ensures.lines

pub returns-in_err-compare-clause-checked : goal.returns-in_err-compare-clause-checked
returns-in_err-compare-clause-checked g c =
    let p = err_from_is_err_and c.from_residual-in_err-compare.result c.from_residual-in_err-compare.ensures.1 in
    rw (p.1, p.2) (compared_fails c.loop-word.invariant.compared _ _ _ _ c.in-Some.ensures.lines c.in-Some-first_line.ensures.lines _ c.in_err-compare.field-0.0
    (c.in_err-compare.ensures.compares (source_of c.args.script.now) c.loop-word.invariant.made))

pub loop-word-preserved : goal.loop-word-preserved
loop-word-preserved g c =
    let pair = c.in_ok-compare.ensures.compares (source_of c.args.script.now) c.loop-word.invariant.made in
    let found : c.if-branch.differences ≡ c.loop-word.differences + count c.in_ok-compare.field-0 =
    elim c.if-branch.branch [
      | then-branch w ↦ let differs : c.in_ok-compare.field-0 ≡ true = search rules in one_counted _ _ _ differs w.differences-is
      | else-branch w ↦ let same : c.in_ok-compare.field-0 ≡ false = search rules in none_counted _ _ _ same w.differences-is
    ] in
    let few : c.if-branch.differences ≤ c.loop-word.number + 1 =
    elim c.if-branch.branch [
      | then-branch w ↦ omega (arith, w.differences-is, c.loop-word.invariant.few)
      | else-branch w ↦ omega (arith, w.differences-is, c.loop-word.invariant.few)
    ] in
    record {
      made = c.loop-word.invariant.made;
      compared = rw found (compared_more c.loop-word.invariant.compared _ _ _ _ _ _ c.in-Some.ensures.lines c.in-Some-first_line.ensures.lines pair.0 pair.1 pair.2);
      steady = c.in_ok-compare.ensures.steady ∙ c.loop-word.invariant.steady;
      writes = λ fair rest. c.compare.ensures.in_time (c.loop-word.invariant.writes fair rest) (c.loop-word.invariant.rested rest);
      rested = λ rest. c.in_ok-compare.ensures.rested (c.loop-word.invariant.rested rest);
      numbered = omega (arith, c.in-Some.ensures.fewer, c.loop-word.invariant.numbered);
      few = few;
    }

pub returns-in-None-clause-checked : goal.returns-in-None-clause-checked
returns-in-None-clause-checked g c = compared_all c.loop-word.invariant.compared c.in_default.ensures.lines c.in-None.ensures.lines

pub returns-clause-checked : goal.returns-clause-checked
returns-clause-checked g c = fewer_words c.loop-word.invariant.compared _ _ c.in_default.ensures.lines c.in-Some-first_line-2.ensures.lines
