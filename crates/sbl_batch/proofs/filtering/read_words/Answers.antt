use Rattle.std.proofs.Common.{rules, ◌≡◌, ◌≢◌, ◌∙◌, ◌++◌, [], ◌∷◌, List, ℕ, Ok, Err, true, false, refl, sym, subst}
use Rattle.std.proofs.lemmas.Result.{err_from_is_err_and}
use Rattle.sbl_batch.proofs.FilterFacts.{line-leaves, line-no_read, line-no_write, no_line, reads-broken, reads-cut, reads-end, reads-fault, reads-point, reason-before, stopped-before, words-moved, words-none, words-push}
use Rattle.sbl_batch.specs.HeldRows.{PushesRow}
use Rattle.sbl_io.specs.HeldInput.{GivesLine, input_of, line_of}
use Rattle.sbl_reports.specs.Block.{point}
use Rattle.sbl_batch.proofs.filtering.read_words.Goals as goal

pub loop-lines-init : goal.loop-lines-init
loop-lines-init g c = record {
  between = c.requires.between;
  words = λ s made. ([], words-none s _ _ _ c.requires.none);
  fault = refl;
  read = refl;
  written = refl;
  bound = refl;
  reads = λ timely. timely;
  writes = λ fair rest. fair;
  rested = λ rest. rest;
}

pub returns-in_err-write_if-clause-reads : goal.returns-in_err-write_if-clause-reads
returns-in_err-write_if-clause-reads g c = λ s made none.
    let so = (c.loop-lines.invariant.words s made).1 in
    let p = err_from_is_err_and c.from_residual.result c.from_residual.ensures.1 in
    rw (p.1, p.2, c.in_err-write_if.ensures.why.0)
    (reads-cut so (g.W.Sink.held c.write_if.new.writer) c.write_if.new.self.text.items c.write_if.ensures.prefix.0 c.in_err-write_if.ensures.cut c.write_if.ensures.prefix.1)

pub returns-in_err-next_line-clause-reads : goal.returns-in_err-next_line-clause-reads
returns-in_err-next_line-clause-reads g c = λ s made none.
    let left = g.R.Source.left in
    let so = (c.loop-lines.invariant.words s made).1 in
    let moved = words-moved so (g.W.Sink.held c.write_if.new.writer) c.write_if.new.self.text.items c.in_ok-write_if.ensures.part in
    let kept = c.loop-lines.invariant.fault ∙ none in
    let bare : c.holds_line.result ≡ false = no_line c.holds_line.result (λ has. (let ok = (c.next_line.ensures.held (sym c.holds_line.ensures ∙ has) kept).0 in let no : ⊥ = cc (ok, c.in_err-next_line.was) in no)) in
    let p = err_from_is_err_and c.from_residual-in_err-next_line.result c.from_residual-in_err-next_line.ensures.1 in
    rw (p.1, p.2) (reads-broken moved (input_of left c.next_line.new.self) c.loop-lines.lines.fault (line_of c.next_line.new.self) c.in_err-next_line.field-0.0
    (c.write_if.ensures.due (c.is_due-due.ensures bare)) kept c.in_err-next_line.ensures.long c.in_err-next_line.ensures.cut)

pub returns-then-not-branch-clause-reads : goal.returns-then-not-branch-clause-reads
returns-then-not-branch-clause-reads g c = λ s made none.
    let last : c.in_ok-next_line.field-0 ≡ false = search rules in
    let so = (c.loop-lines.invariant.words s made).1 in
    let moved = words-moved so (g.W.Sink.held c.write_if.new.writer) c.write_if.new.self.text.items c.in_ok-write_if.ensures.part in
    let end = c.in_ok-next_line.ensures.end last in
    reads-end moved (input_of g.R.Source.left c.next_line.new.self) end.2 end.1

pub returns-then-eq-clause-reads : goal.returns-then-eq-clause-reads
returns-then-eq-clause-reads g c = λ s made none.
    let more : c.in_ok-next_line.field-0 ≡ true = search rules in
    let left = g.R.Source.left in
    let so = (c.loop-lines.invariant.words s made).1 in
    let moved = words-moved so (g.W.Sink.held c.write_if.new.writer) c.write_if.new.self.text.items c.in_ok-write_if.ensures.part in
    let line : line_of c.next_line.new.self ≡ point = search rules in
    let gives : GivesLine (input_of left c.loop-lines.lines) (input_of left c.next_line.new.self) point =
    subst (λ (x : List ℕ). GivesLine (input_of left c.loop-lines.lines) (input_of left c.next_line.new.self) x) line (c.in_ok-next_line.ensures.more more) in
    reads-point moved (input_of left c.next_line.new.self) gives

pub returns-in_err-filter_line-clause-reads : goal.returns-in_err-filter_line-clause-reads
returns-in_err-filter_line-clause-reads g c = λ s made none.
    let more : c.in_ok-next_line.field-0 ≡ true = search rules in
    let left = g.R.Source.left in
    let so = (c.loop-lines.invariant.words s made).1 in
    let moved = words-moved so (g.W.Sink.held c.write_if.new.writer) c.write_if.new.self.text.items c.in_ok-write_if.ensures.part in
    let line = line_of c.next_line.new.self in
    let f = c.in_err-filter_line.field-0.0 in
    let other : line ≢ point = search rules in
    let t = c.write_if.new.self.text.items in
    let u = c.filter_line.new.rows.text.items in
    let pushes : PushesRow s line t u (Err f) = subst (λ (x : List ℕ). PushesRow s x t u (Err f)) c.line-in-loop-lines.ensures (c.in_err-filter_line.ensures.pushes s made) in
    let p = err_from_is_err_and c.from_residual-in_err-filter_line.result c.from_residual-in_err-filter_line.ensures.1 in
    rw (p.1, p.2) (reads-fault moved (input_of left c.next_line.new.self) line u f (other, c.in_ok-next_line.ensures.fits more, c.in_ok-next_line.ensures.more more) pushes)

pub loop-lines-preserved : goal.loop-lines-preserved
loop-lines-preserved g c =
    let more : c.in_ok-next_line.field-0 ≡ true = search rules in
    let inv = c.loop-lines.invariant in
    let left = g.R.Source.left in
    let line = line_of c.next_line.new.self in
    let other : line ≢ point = search rules in
    let t = c.write_if.new.self.text.items in
    let u = c.filter_line.new.rows.text.items in
    record {
      between = c.in_ok-filter_line.ensures.between;
      words = λ s made.
          let so = inv.words s made in
          let moved = words-moved so.1 (g.W.Sink.held c.write_if.new.writer) t c.in_ok-write_if.ensures.part in
          let pushes : PushesRow s line t u (Ok tt) = subst (λ (x : List ℕ). PushesRow s x t u (Ok tt)) c.line-in-loop-lines.ensures (c.in_ok-filter_line.ensures.pushes s made) in
          (so.0 ++ line ∷ [], words-push moved (input_of left c.next_line.new.self) line u (other, c.in_ok-next_line.ensures.fits more, c.in_ok-next_line.ensures.more more) pushes);
      fault = c.in_ok-next_line.ensures.ready.1 ∙ sym c.in_ok-next_line.ensures.ready.0 ∙ inv.fault;
      read = c.in_ok-next_line.ensures.steady ∙ inv.read;
      written = c.in_ok-write_if.ensures.steady ∙ inv.written;
      bound = c.next_line.ensures.bound ∙ inv.bound;
      reads = λ timely. c.next_line.ensures.in_time (inv.reads timely);
      writes = λ fair rest. c.write_if.ensures.in_time (inv.writes fair rest) (inv.rested rest);
      rested = λ rest. c.in_ok-write_if.ensures.rested (inv.rested rest);
    }

pub returns-in_err-next_line-clause-why : goal.returns-in_err-next_line-clause-why
returns-in_err-next_line-clause-why g c =
    let inv = c.loop-lines.invariant in
    let p = err_from_is_err_and c.from_residual-in_err-next_line.result c.from_residual-in_err-next_line.ensures.1 in
    rw (p.1, p.2) (reason-before g.R.Source.tally c.args.lines.now c.loop-lines.lines c.next_line.new.self c.in_err-next_line.field-0.0 c.in_err-next_line.ensures.why inv.read inv.bound inv.fault)

pub returns-in_err-write_if-clause-why_write : goal.returns-in_err-write_if-clause-why_write
returns-in_err-write_if-clause-why_write g c =
    let inv = c.loop-lines.invariant in
    let p = err_from_is_err_and c.from_residual.result c.from_residual.ensures.1 in
    rw (p.1, p.2) (λ write. (stopped-before g.W.Sink.tally c.args.writer.now c.loop-lines.writer c.write_if.new.writer inv.written c.in_err-write_if.ensures.why.1, c.in_err-write_if.ensures.cut))

pub returns-in_err-filter_line-clause-why : goal.returns-in_err-filter_line-clause-why
returns-in_err-filter_line-clause-why g c =
    let made = c.requires.made in
    let f = c.in_err-filter_line.field-0.0 in
    let pushes = c.in_err-filter_line.ensures.pushes made.0 made.1 in
    let p = err_from_is_err_and c.from_residual-in_err-filter_line.result c.from_residual-in_err-filter_line.ensures.1 in
    rw (p.1, p.2) (λ is. absurd (line-no_read made.0 _ _ _ f pushes is))

pub returns-in_err-filter_line-clause-why_write : goal.returns-in_err-filter_line-clause-why_write
returns-in_err-filter_line-clause-why_write g c =
    let made = c.requires.made in
    let f = c.in_err-filter_line.field-0.0 in
    let pushes = c.in_err-filter_line.ensures.pushes made.0 made.1 in
    let p = err_from_is_err_and c.from_residual-in_err-filter_line.result c.from_residual-in_err-filter_line.ensures.1 in
    rw (p.1, p.2) (λ is. absurd (line-no_write made.0 _ _ _ f pushes is))

pub returns-in_err-filter_line-clause-remembered : goal.returns-in_err-filter_line-clause-remembered
returns-in_err-filter_line-clause-remembered g c = λ none.
    let made = c.requires.made in
    let f = c.in_err-filter_line.field-0.0 in
    let pushes = c.in_err-filter_line.ensures.pushes made.0 made.1 in
    let p = err_from_is_err_and c.from_residual-in_err-filter_line.result c.from_residual-in_err-filter_line.ensures.1 in
    rw (p.1, p.2) (c.in_ok-next_line.ensures.ready.1 ∙ sym (line-leaves made.0 _ _ _ f pushes))
