use Rattle.std.proofs.Common.{◌≡◌, ◌≢◌, ◌∙◌, ◌++◌, [], ◌∷◌, refl, rules, sym, subst, ap, List, ℕ}
use Rattle.std.proofs.lemmas.Result.{err_from_is_err_and}
use Rattle.sbl_io.specs.HeldInput.{GivesLine, input_of, line_of}
use Rattle.sbl_io.proofs.Bytes.{took-kept, took-none, took-trans}
use Rattle.sbl_reports.specs.Block.{BlockLines, point}
use Rattle.sbl_reports.proofs.BlockFacts.{all_fit-push, broken_block, no_point-push}
use Rattle.snowbench.proofs.ListFacts.{list-push, words_broken}
use Rattle.snowbench.proofs.program.read_word_block.Goals as goal

pub loop-text-init : goal.loop-text-init
loop-text-init g c = ([], (tt, tt), took-none _, c.new-text.ensures.items, refl, refl, refl, λ timely. timely)

pub returns-in_err-next_line-clause-reads : goal.returns-in_err-next_line-clause-reads
returns-in_err-next_line-clause-reads g c = λ none.
    let left = g.R.Source.left in
    let so = c.loop-text.invariant in
    let p = err_from_is_err_and c.from_residual.result c.from_residual.ensures.1 in
    rw (p.1, p.2) (words_broken _ _ c.in_err-next_line.field-0.0
    (broken_block BlockLines (input_of left c.args.lines.now) (input_of left c.loop-text.lines) (input_of left c.next_line.new.self) c.loop-text.lines.fault so.0 (line_of c.next_line.new.self) c.in_err-next_line.field-0.0
    so.1 so.2 (so.4 ∙ none) c.in_err-next_line.ensures.long c.in_err-next_line.ensures.cut))

pub returns-in_err-push_line-clause-reads : goal.returns-in_err-push_line-clause-reads
returns-in_err-push_line-clause-reads g c = λ _.
    let left = g.R.Source.left in
    let so = c.loop-text.invariant in
    let line = line_of c.next_line.new.self in
    let other : line ≢ point = search rules in
    let took = took-trans (input_of left c.args.lines.now) (input_of left c.loop-text.lines) (input_of left c.next_line.new.self) so.0 (line ∷ []) so.2 (c.in_ok-next_line.ensures.more c.if-branch.true) in
    let p = err_from_is_err_and c.from_residual-in_err-push_line.result c.from_residual-in_err-push_line.ensures.1 in
    rw (p.1, p.2) (so.0 ++ line ∷ [], (no_point-push so.0 line so.1.0 other, all_fit-push so.0 line so.1.1 (c.in_ok-next_line.ensures.fits c.if-branch.true)), took)

pub returns-then-eq-clause-reads : goal.returns-then-eq-clause-reads
returns-then-eq-clause-reads g c = λ _.
    let left = g.R.Source.left in
    let so = c.loop-text.invariant in
    let line : line_of c.next_line.new.self ≡ point = search rules in
    let gives : GivesLine (input_of left c.loop-text.lines) (input_of left c.next_line.new.self) point =
    subst (λ (x : List ℕ). GivesLine (input_of left c.loop-text.lines) (input_of left c.next_line.new.self) x) line (c.in_ok-next_line.ensures.more c.if-branch.true) in
    (so.0, (so.1, took-trans _ (input_of left c.loop-text.lines) _ so.0 (point ∷ []) so.2 gives), so.3)

pub loop-text-preserved : goal.loop-text-preserved
loop-text-preserved g c =
    let left = g.R.Source.left in
    let so = c.loop-text.invariant in
    let line = line_of c.next_line.new.self in
    let other : line ≢ point = search rules in
    let same : c.line-in-loop-text.result.now ≡ line = c.line-in-loop-text.ensures in
    let grown : c.push_line.new.text.items ≡ c.loop-text.text.items ++ (line ++ 13 ∷ 10 ∷ []) = c.in_ok-push_line.ensures ∙ ap (λ (x : List ℕ). c.loop-text.text.items ++ (x ++ 13 ∷ 10 ∷ [])) same in (
      so.0 ++ line ∷ [],
      (no_point-push so.0 line so.1.0 other, all_fit-push so.0 line so.1.1 (c.in_ok-next_line.ensures.fits c.if-branch.true)),
      took-trans _ (input_of left c.loop-text.lines) _ so.0 (line ∷ []) so.2 (c.in_ok-next_line.ensures.more c.if-branch.true),
      grown ∙ list-push c.loop-text.text.items line so.0 so.3,
      c.in_ok-next_line.ensures.ready.1 ∙ sym c.in_ok-next_line.ensures.ready.0 ∙ so.4,
      c.in_ok-next_line.ensures.steady ∙ so.5,
      c.next_line.ensures.bound ∙ so.6,
      λ timely. c.next_line.ensures.in_time (so.7 timely),
    )

pub returns-clause-reads : goal.returns-clause-reads
returns-clause-reads g c = λ _.
    let so = c.loop-text.invariant in
    let end = c.in_ok-next_line.ensures.end c.if-branch.false in
    (so.0, so.1, took-kept _ (input_of g.R.Source.left c.loop-text.lines) _ so.0 so.2 end.2, end.1)
