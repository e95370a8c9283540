use Rattle.std.proofs.Common.{◌≡◌, ◌≢◌, ◌∙◌, ◌++◌, [], ◌∷◌, arith, rules, refl, sym, subst, List, ℕ, Option, None, IsSome}
use Rattle.std.proofs.KnownBytes.{Keeps-refl}
use Rattle.sbl_reports.specs.Block.{HoldsText, point}
use Rattle.sbl_io.specs.HeldInput.{input_of, line_of, GivesLine}
use Rattle.sbl_io.specs.declared.faults.LineFault.{LineFault}
use Rattle.sbl_reports.proofs.BlockFacts.{all_fit-push, no_point-push}
use Rattle.sbl_io.proofs.Bytes.{took-kept, took-none, took-trans, whole_none, whole_trans}
use Rattle.sbl_reports.proofs.block_text.read_block.Goals as goal

no_fault : {f : Option LineFault} → f ≡ None → IsSome f → ⊥
no_fault {f} e some = let none : IsSome {T = LineFault} None = subst IsSome e some in cc none

pub loop-text-init : goal.loop-text-init
loop-text-init g c = ([], (tt, tt), took-none _, c.new-text.ensures, refl, refl, refl, omega arith, λ some. Keeps-refl _, λ untold. untold, λ untold. whole_none _, λ timely. timely)

pub returns-then-eq-clause-reads : goal.returns-then-eq-clause-reads
returns-then-eq-clause-reads g c = λ _.
    let left = g.R.Source.left in
    let so = c.loop-text.invariant in
    let line : line_of c.next_line.new.self ≡ point = search rules in
    let gives : GivesLine (input_of left c.loop-text.lines) (input_of left c.next_line.new.self) point =
    subst (λ (x : List ℕ). GivesLine (input_of left c.loop-text.lines) (input_of left c.next_line.new.self) x) line (c.in_ok-next_line.ensures.more c.if-branch.true) in
    (so.0, (so.1, took-trans _ (input_of left c.loop-text.lines) _ so.0 (point ∷ []) so.2 gives), so.3)

pub returns-then-eq-clause-reading : goal.returns-then-eq-clause-reading
returns-then-eq-clause-reading g c =
    let so = c.loop-text.invariant in
    record {
      remembered = c.in_ok-next_line.ensures.ready.1;
      drained = λ is. cc is;
      fuel = omega (arith, so.7, c.in_ok-next_line.ensures.falls c.if-branch.true);
      later = omega (arith, so.5, c.next_line.ensures.later);
      stays = λ untold. so.9 (c.next_line.ensures.stays untold);
      feeds = λ untold. whole_trans _ (input_of g.R.Source.left c.loop-text.lines) _ (so.10 (c.next_line.ensures.stays untold)) (c.in_ok-next_line.ensures.feeds c.if-branch.true untold);
      steady = c.in_ok-next_line.ensures.steady ∙ so.5;
      bound = c.next_line.ensures.bound ∙ so.6;
      why = tt;
      in_time = λ timely. c.next_line.ensures.in_time (so.11 timely);
    }

pub loop-text-preserved : goal.loop-text-preserved
loop-text-preserved g c =
    let left = g.R.Source.left in
    let so = c.loop-text.invariant in
    let line = line_of c.next_line.new.self in
    let holds : HoldsText c.push_line.new.self (so.0 ++ line ∷ []) =
    subst (λ (x : List ℕ). HoldsText c.push_line.new.self (so.0 ++ x ∷ [])) c.line-in-loop-text.ensures (c.push_line.ensures so.0 so.3) in
    let other : line ≢ point = search rules in (
      so.0 ++ line ∷ [],
      (no_point-push so.0 line so.1.0 other, all_fit-push so.0 line so.1.1 (c.in_ok-next_line.ensures.fits c.if-branch.true)),
      took-trans _ (input_of left c.loop-text.lines) _ so.0 (line ∷ []) so.2 (c.in_ok-next_line.ensures.more c.if-branch.true),
      holds,
      c.in_ok-next_line.ensures.ready.1 ∙ sym c.in_ok-next_line.ensures.ready.0 ∙ so.4,
      c.in_ok-next_line.ensures.steady ∙ so.5,
      c.next_line.ensures.bound ∙ so.6,
      omega (arith, so.7, c.in_ok-next_line.ensures.falls c.if-branch.true),
      λ some. absurd (no_fault (sym so.4 ∙ c.in_ok-next_line.ensures.ready.0) some),
      λ untold. so.9 (c.next_line.ensures.stays untold),
      λ untold. whole_trans _ (input_of left c.loop-text.lines) _ (so.10 (c.next_line.ensures.stays untold)) (c.in_ok-next_line.ensures.feeds c.if-branch.true untold),
      λ timely. c.next_line.ensures.in_time (so.11 timely),
    )

pub returns-clause-reads : goal.returns-clause-reads
returns-clause-reads g c = λ _.
    let so = c.loop-text.invariant in
    let end = c.in_ok-next_line.ensures.end c.if-branch.false in
    (so.0, so.1, took-kept _ (input_of g.R.Source.left c.loop-text.lines) _ so.0 so.2 end.2, end.1)
