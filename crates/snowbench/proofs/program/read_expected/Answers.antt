use Rattle.std.proofs.Common.{◌≡◌, ◌∙◌, ◌++◌, [], ◌∷◌, refl, sym, ap, List, ℕ}
use Rattle.std.proofs.lemmas.Result.{err_from_is_err_and}
use Rattle.sbl_io.specs.HeldInput.{AllFit, input_of, line_of}
use Rattle.sbl_io.proofs.Bytes.{took-kept, took-none, took-trans}
use Rattle.sbl_reports.proofs.BlockFacts.{all_fit-push, broken_block}
use Rattle.snowbench.proofs.ListFacts.{expected_broken, list-push}
use Rattle.snowbench.proofs.program.read_expected.Goals as goal

pub loop-stems-init : goal.loop-stems-init
loop-stems-init g c = ([], tt, took-none _, c.new-stems.ensures.items, refl, refl, refl, λ timely. timely)

pub returns-in_err-next_line-clause-reads : goal.returns-in_err-next_line-clause-reads
returns-in_err-next_line-clause-reads g c = λ none.
    let left = g.R.Source.left in
    let so = c.loop-stems.invariant in
    let p = err_from_is_err_and c.from_residual.result c.from_residual.ensures.1 in
    rw (p.1, p.2) (expected_broken _ _ c.in_err-next_line.field-0.0
    (broken_block AllFit (input_of left c.args.lines.now) (input_of left c.loop-stems.lines) (input_of left c.next_line.new.self) c.loop-stems.lines.fault so.0 (line_of c.next_line.new.self) c.in_err-next_line.field-0.0
    so.1 so.2 (so.4 ∙ none) c.in_err-next_line.ensures.long c.in_err-next_line.ensures.cut))

pub returns-in_err-push_line-clause-reads : goal.returns-in_err-push_line-clause-reads
returns-in_err-push_line-clause-reads g c = λ _.
    let left = g.R.Source.left in
    let so = c.loop-stems.invariant in
    let line = line_of c.next_line.new.self in
    let took = took-trans (input_of left c.args.lines.now) (input_of left c.loop-stems.lines) (input_of left c.next_line.new.self) so.0 (line ∷ []) so.2 (c.in_ok-next_line.ensures.more c.if-branch.true) in
    let p = err_from_is_err_and c.from_residual-in_err-push_line.result c.from_residual-in_err-push_line.ensures.1 in
    rw (p.1, p.2) (so.0 ++ line ∷ [], all_fit-push so.0 line so.1 (c.in_ok-next_line.ensures.fits c.if-branch.true), took)

pub loop-stems-preserved : goal.loop-stems-preserved
loop-stems-preserved g c =
    let left = g.R.Source.left in
    let so = c.loop-stems.invariant in
    let line = line_of c.next_line.new.self in
    let same : c.line.result.now ≡ line = c.line.ensures in
    let grown : c.push_line.new.text.items ≡ c.loop-stems.stems.items ++ (line ++ 13 ∷ 10 ∷ []) = c.in_ok-push_line.ensures ∙ ap (λ (x : List ℕ). c.loop-stems.stems.items ++ (x ++ 13 ∷ 10 ∷ [])) same in (
      so.0 ++ line ∷ [],
      all_fit-push so.0 line so.1 (c.in_ok-next_line.ensures.fits c.if-branch.true),
      took-trans _ (input_of left c.loop-stems.lines) _ so.0 (line ∷ []) so.2 (c.in_ok-next_line.ensures.more c.if-branch.true),
      grown ∙ list-push c.loop-stems.stems.items line so.0 so.3,
      c.in_ok-next_line.ensures.ready.1 ∙ sym c.in_ok-next_line.ensures.ready.0 ∙ so.4,
      c.in_ok-next_line.ensures.steady ∙ so.5,
      c.next_line.ensures.bound ∙ so.6,
      λ timely. c.next_line.ensures.in_time (so.7 timely),
    )

pub returns-clause-reads : goal.returns-clause-reads
returns-clause-reads g c = λ _.
    let so = c.loop-stems.invariant in
    let end = c.in_ok-next_line.ensures.end c.if-branch.false in
    (so.0, (so.1, took-kept _ (input_of g.R.Source.left c.loop-stems.lines) _ so.0 so.2 end.2, end.1), so.3)
