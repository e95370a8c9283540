use Rattle.std.proofs.Common.{◌≡◌, ◌∙◌, [], refl, sym, ap}
use Rattle.std.proofs.lemmas.Result.{err_from_is_err_and, on_ok_weaker}
use Rattle.sbl_batch.proofs.FilterFacts.{in_time-after, stopped-kept, stopped-later}
use Rattle.sbl_batch.proofs.ToEndFacts.{to_end-kept, to_end-left, to_end-none, to_end-written}
use Rattle.sbl_io.specs.HeldInput.{input_of}
use Rattle.sbl_script.specs.ParsedScript.{source_of}
use Rattle.sbl_batch.proofs.to_end.filter_lines.Goals as goal

pub returns-in_err-machine-clause-filters : goal.returns-in_err-machine-clause-filters
returns-in_err-machine-clause-filters g c = λ _.
    let p = err_from_is_err_and c.from_residual.result c.from_residual.ensures.1 in
    rw (p.1, p.2) (to_end-none (source_of c.args.script.now) (input_of g.R.Source.left c.args.lines.now) (g.W.Sink.held c.args.writer.now) c.args.line.now c.requires)

pub returns-in_err-write_if-clause-filters : goal.returns-in_err-write_if-clause-filters
returns-in_err-write_if-clause-filters g c = λ none.
    let held = g.W.Sink.held in
    let left = g.R.Source.left in
    let p = err_from_is_err_and c.from_residual-in_err-write_if.result c.from_residual-in_err-write_if.ensures.1 in
    let some : c.read_lines-ended.new.rows.text.items ≡ [] → ⊥ = λ none. (let ok = (c.write_if.ensures.none none).0 in let no : ⊥ = cc (ok, c.in_err-write_if.was) in no) in
    rw (p.1, p.2, c.in_err-write_if.ensures.why.0)
    (to_end-left (source_of c.args.script.now) (input_of left c.args.lines.now) (input_of left c.read_lines-ended.new.lines) (held c.args.writer.now) (held c.read_lines-ended.new.writer) (held c.write_if.new.writer)
    c.read_lines-ended.new.rows.text.items c.read_lines-ended.new.line c.read_lines-ended.result c.write_if.ensures.prefix.0 (c.read_lines-ended.ensures.reads (source_of c.args.script.now) c.in_ok-machine.ensures none) c.write_if.ensures.prefix.1 some)

pub returns-clause-filters : goal.returns-clause-filters
returns-clause-filters g c = λ none.
    let held = g.W.Sink.held in
    let left = g.R.Source.left in
    let same : c.read_lines-ended.new.rows.text.items ≡ [] → held c.read_lines-ended.new.writer ≡ held c.write_if.new.writer = λ none. ap held (sym (c.write_if.ensures.none none).1) in
    to_end-written (source_of c.args.script.now) (input_of left c.args.lines.now) (input_of left c.read_lines-ended.new.lines) (held c.args.writer.now) (held c.read_lines-ended.new.writer) (held c.write_if.new.writer)
    c.read_lines-ended.new.rows.text.items c.read_lines-ended.new.line c.read_lines-ended.result (c.read_lines-ended.ensures.reads (source_of c.args.script.now) c.in_ok-machine.ensures none) (c.in_ok-write_if.ensures.all refl) same

pub returns-in_err-write_if-clause-remembered : goal.returns-in_err-write_if-clause-remembered
returns-in_err-write_if-clause-remembered g c = λ none.
    let p = err_from_is_err_and c.from_residual-in_err-write_if.result c.from_residual-in_err-write_if.ensures.1 in
    let some : c.read_lines-ended.new.rows.text.items ≡ [] → ⊥ = λ none. (let ok = (c.write_if.ensures.none none).0 in let no : ⊥ = cc (ok, c.in_err-write_if.was) in no) in
    rw (p.1, p.2, c.in_err-write_if.ensures.why.0)
    (to_end-kept (source_of c.args.script.now) (input_of g.R.Source.left c.args.lines.now) (input_of g.R.Source.left c.read_lines-ended.new.lines) (g.W.Sink.held c.args.writer.now) (g.W.Sink.held c.read_lines-ended.new.writer) (g.W.Sink.held c.write_if.new.writer)
    c.read_lines-ended.new.rows.text.items c.read_lines-ended.new.line c.read_lines-ended.result c.read_lines-ended.new.lines.fault (c.read_lines-ended.ensures.reads (source_of c.args.script.now) c.in_ok-machine.ensures none) (c.read_lines-ended.ensures.remembered none) some)

pub returns-in_err-write_if-clause-why_write : goal.returns-in_err-write_if-clause-why_write
returns-in_err-write_if-clause-why_write g c =
    let p = err_from_is_err_and c.from_residual-in_err-write_if.result c.from_residual-in_err-write_if.ensures.1 in
    rw (p.1, p.2) (λ _. stopped-later g.W.Sink.tally c.args.writer.now c.read_lines-ended.new.writer c.write_if.new.writer c.read_lines-ended.ensures.later_write c.in_err-write_if.ensures.why.1)

pub returns-clause-why_write : goal.returns-clause-why_write
returns-clause-why_write g c =
    stopped-kept g.W.Sink.tally c.args.writer.now c.read_lines-ended.new.writer c.write_if.new.writer c.read_lines-ended.new.rows.text.items c.read_lines-ended.result c.read_lines-ended.ensures.why_write (λ none. (c.write_if.ensures.none none).1)

pub returns-in_err-write_if-clause-writes_in_time : goal.returns-in_err-write_if-clause-writes_in_time
returns-in_err-write_if-clause-writes_in_time g c =
    in_time-after g.W.Sink.tally c.args.writer.now c.read_lines-ended.new.writer c.write_if.new.writer c.read_lines-ended.new.rows.text.items c.read_lines-ended.ensures.rested (λ none. (c.write_if.ensures.none none).1)
    c.read_lines-ended.ensures.writes_in_time c.write_if.ensures.in_time

pub returns-clause-writes_in_time : goal.returns-clause-writes_in_time
returns-clause-writes_in_time g c =
    in_time-after g.W.Sink.tally c.args.writer.now c.read_lines-ended.new.writer c.write_if.new.writer c.read_lines-ended.new.rows.text.items c.read_lines-ended.ensures.rested (λ none. (c.write_if.ensures.none none).1)
    c.read_lines-ended.ensures.writes_in_time c.write_if.ensures.in_time

pub returns-clause-steady : goal.returns-clause-steady
returns-clause-steady g c = on_ok_weaker c.read_lines-ended.result (λ p. (p.0, c.in_ok-write_if.ensures.steady ∙ p.1)) c.read_lines-ended.ensures.steady

pub read_lines-ended-requires-clause-made : goal.read_lines-ended-requires-clause-made
read_lines-ended-requires-clause-made g c = (source_of c.args.script.now, c.in_ok-machine.ensures)
