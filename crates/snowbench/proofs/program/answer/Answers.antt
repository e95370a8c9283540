use Rattle.std.proofs.lemmas.Result.{err_from_is_err_and}
use Rattle.std.specs.Prelude.{string_bytes}
use Rattle.sbl_io.specs.HeldInput.{input_of}
use Rattle.snowbench.proofs.AnswerFacts.{answer_filter_fault, answer_session, answer_session_fault, answer_stem_fault}
use Rattle.snowbench.proofs.program.answer.Goals as goal

pub returns-in_err-session-in-Session-clause-answers : goal.returns-in_err-session-in-Session-clause-answers
returns-in_err-session-in-Session-clause-answers g c = λ none.
    let left = g.R.Source.left in
    let held = g.W.Sink.held in
    let p = err_from_is_err_and c.from_residual.result c.from_residual.ensures.1 in
    rw (p.1, p.2) (answer_session_fault c.args.wanted.now.verb (string_bytes c.args.wanted.now.external) c.as_str-external.result.now (input_of left c.args.lines.now) (input_of left c.session.new.lines)
    (held c.args.writer.now) (held c.session.new.writer) c.in_err-session-in-Session.field-0.0 c.in-Session.is c.as_str-external.ensures.value (c.in_err-session-in-Session.ensures.session none))

pub returns-in_err-stem-in-Stem-clause-answers : goal.returns-in_err-stem-in-Stem-clause-answers
returns-in_err-stem-in-Stem-clause-answers g c = λ none.
    let left = g.R.Source.left in
    let held = g.W.Sink.held in
    let p = err_from_is_err_and c.from_residual-in_err-stem-in-Stem.result c.from_residual-in_err-stem-in-Stem.ensures.1 in
    rw (p.1, p.2) (answer_stem_fault c.args.wanted.now.verb (string_bytes c.args.wanted.now.external) c.as_str-external.result.now (input_of left c.args.lines.now) (input_of left c.stem.new.lines)
    (held c.args.writer.now) (held c.stem.new.writer) c.in_err-stem-in-Stem.field-0.0 c.in-Stem.is c.as_str-external.ensures.value (c.in_err-stem-in-Stem.ensures.stemmed none))

pub returns-in_err-filter-in-Filter-clause-answers : goal.returns-in_err-filter-in-Filter-clause-answers
returns-in_err-filter-in-Filter-clause-answers g c = λ none.
    let left = g.R.Source.left in
    let held = g.W.Sink.held in
    let p = err_from_is_err_and c.from_residual-in_err-filter-in-Filter.result c.from_residual-in_err-filter-in-Filter.ensures.1 in
    rw (p.1, p.2) (answer_filter_fault c.args.wanted.now.verb (string_bytes c.args.wanted.now.external) c.as_str-external.result.now (input_of left c.args.lines.now) (input_of left c.filter.new.lines)
    (held c.args.writer.now) (held c.filter.new.writer) c.in_err-filter-in-Filter.field-0.0 c.in-Filter.is c.as_str-external.ensures.value (c.in_err-filter-in-Filter.ensures.filtered none))

pub returns-in_ok-session-in-Session-clause-answers : goal.returns-in_ok-session-in-Session-clause-answers
returns-in_ok-session-in-Session-clause-answers g c = λ none.
    let left = g.R.Source.left in
    let held = g.W.Sink.held in
    answer_session c.args.wanted.now.verb (string_bytes c.args.wanted.now.external) c.as_str-external.result.now (input_of left c.args.lines.now) (input_of left c.session.new.lines)
    (held c.args.writer.now) (held c.session.new.writer) c.in-Session.is c.as_str-external.ensures.value (c.in_ok-session-in-Session.ensures.session none)
