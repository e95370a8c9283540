use Rattle.std.proofs.Common.{◌≡◌, ◌∙◌, [], refl, sym, ap}
use Rattle.std.proofs.lemmas.Result.{err_from_is_err_and, on_ok_weaker}
use Rattle.sbl_batch.proofs.FilterFacts.{filters-cut, filters-none, filters-written, in_time-after, left-kept, stopped-kept, stopped-later}
use Rattle.sbl_io.specs.HeldInput.{input_of}
use Rattle.sbl_script.specs.ParsedScript.{source_of}
use Rattle.sbl_batch.proofs.filtering.filter_words.Goals as goal

pub returns-in_err-machine-clause-filters : goal.returns-in_err-machine-clause-filters
returns-in_err-machine-clause-filters g c = λ _.
    let p = err_from_is_err_and c.from_residual.result c.from_residual.ensures.1 in
    rw (p.1, p.2) (filters-none (source_of c.args.script.now) (input_of g.R.Source.left c.args.lines.now) (g.W.Sink.held c.args.writer.now))

pub returns-in_err-write_if-clause-filters : goal.returns-in_err-write_if-clause-filters
returns-in_err-write_if-clause-filters g c = λ none.
    let held = g.W.Sink.held in
    let left = g.R.Source.left in
    let p = err_from_is_err_and c.from_residual-in_err-write_if.result c.from_residual-in_err-write_if.ensures.1 in
    let some : c.read_words-ended.new.rows.text.items ≡ [] → ⊥ = λ none. (let ok = (c.write_if.ensures.none none).0 in let no : ⊥ = cc (ok, c.in_err-write_if.was) in no) in
    rw (p.1, p.2, c.in_err-write_if.ensures.why.0)
    (filters-cut (source_of c.args.script.now) (input_of left c.args.lines.now) (input_of left c.read_words-ended.new.lines) (held c.args.writer.now) (held c.read_words-ended.new.writer) (held c.write_if.new.writer)
    c.read_words-ended.new.rows.text.items c.read_words-ended.result c.write_if.ensures.prefix.0 (c.read_words-ended.ensures.reads (source_of c.args.script.now) c.in_ok-machine.ensures none) c.write_if.ensures.prefix.1 some)

pub returns-clause-filters : goal.returns-clause-filters
returns-clause-filters g c = λ none.
    let held = g.W.Sink.held in
    let left = g.R.Source.left in
    let same : c.read_words-ended.new.rows.text.items ≡ [] → held c.read_words-ended.new.writer ≡ held c.write_if.new.writer = λ none. ap held (sym (c.write_if.ensures.none none).1) in
    filters-written (source_of c.args.script.now) (input_of left c.args.lines.now) (input_of left c.read_words-ended.new.lines) (held c.args.writer.now) (held c.read_words-ended.new.writer) (held c.write_if.new.writer)
    c.read_words-ended.new.rows.text.items c.read_words-ended.result (c.read_words-ended.ensures.reads (source_of c.args.script.now) c.in_ok-machine.ensures none) (c.in_ok-write_if.ensures.all refl) same

pub returns-in_err-write_if-clause-remembered : goal.returns-in_err-write_if-clause-remembered
returns-in_err-write_if-clause-remembered g c = λ none.
    let held = g.W.Sink.held in
    let left = g.R.Source.left in
    let p = err_from_is_err_and c.from_residual-in_err-write_if.result c.from_residual-in_err-write_if.ensures.1 in
    let some : c.read_words-ended.new.rows.text.items ≡ [] → ⊥ = λ none. (let ok = (c.write_if.ensures.none none).0 in let no : ⊥ = cc (ok, c.in_err-write_if.was) in no) in
    rw (p.1, p.2, c.in_err-write_if.ensures.why.0)
    (left-kept (source_of c.args.script.now) (input_of left c.args.lines.now) (input_of left c.read_words-ended.new.lines) (held c.args.writer.now) (held c.read_words-ended.new.writer) (held c.write_if.new.writer)
    c.read_words-ended.new.rows.text.items c.read_words-ended.result c.read_words-ended.new.lines.fault (c.read_words-ended.ensures.reads (source_of c.args.script.now) c.in_ok-machine.ensures none) (c.read_words-ended.ensures.remembered none) some)

pub returns-in_err-write_if-clause-why_write : goal.returns-in_err-write_if-clause-why_write
returns-in_err-write_if-clause-why_write g c =
    let p = err_from_is_err_and c.from_residual-in_err-write_if.result c.from_residual-in_err-write_if.ensures.1 in
    rw (p.1, p.2) (λ _. stopped-later g.W.Sink.tally c.args.writer.now c.read_words-ended.new.writer c.write_if.new.writer c.read_words-ended.ensures.later_write c.in_err-write_if.ensures.why.1)

pub returns-clause-why_write : goal.returns-clause-why_write
returns-clause-why_write g c =
    stopped-kept g.W.Sink.tally c.args.writer.now c.read_words-ended.new.writer c.write_if.new.writer c.read_words-ended.new.rows.text.items c.read_words-ended.result c.read_words-ended.ensures.why_write (λ none. (c.write_if.ensures.none none).1)

pub returns-in_err-write_if-clause-writes_in_time : goal.returns-in_err-write_if-clause-writes_in_time
returns-in_err-write_if-clause-writes_in_time g c =
    in_time-after g.W.Sink.tally c.args.writer.now c.read_words-ended.new.writer c.write_if.new.writer c.read_words-ended.new.rows.text.items c.read_words-ended.ensures.rested (λ none. (c.write_if.ensures.none none).1)
    c.read_words-ended.ensures.writes_in_time c.write_if.ensures.in_time

pub returns-clause-writes_in_time : goal.returns-clause-writes_in_time
returns-clause-writes_in_time g c =
    in_time-after g.W.Sink.tally c.args.writer.now c.read_words-ended.new.writer c.write_if.new.writer c.read_words-ended.new.rows.text.items c.read_words-ended.ensures.rested (λ none. (c.write_if.ensures.none none).1)
    c.read_words-ended.ensures.writes_in_time c.write_if.ensures.in_time

pub returns-clause-steady : goal.returns-clause-steady
returns-clause-steady g c = on_ok_weaker c.read_words-ended.result (λ p. (p.0, c.in_ok-write_if.ensures.steady ∙ p.1)) c.read_words-ended.ensures.steady

pub read_words-ended-requires-clause-made : goal.read_words-ended-requires-clause-made
read_words-ended-requires-clause-made g c = (source_of c.args.script.now, c.in_ok-machine.ensures)
