use Rattle.std.proofs.Common.{rules, Ok, Err}
use Rattle.std.proofs.lemmas.Result.{err_from_is_err_and}
use Rattle.sbl_bench.specs.KeptRuns.{contents_of}
use Rattle.sbl_io.specs.HeldInput.{input_of}
use Rattle.snowbench.proofs.AnswerFacts.{session_refused, session_served}
use Rattle.snowbench.proofs.ReasonFacts.{loaded_reasons, serve_reasons}
use Rattle.snowbench.proofs.program.session.Goals as goal

pub returns-in_err-bench-clause-session : goal.returns-in_err-bench-clause-session
returns-in_err-bench-clause-session g c = λ none.
    let left = g.R.Source.left in
    let p = err_from_is_err_and c.from_residual.result c.from_residual.ensures.1 in
    rw (p.1, p.2) (session_refused (input_of left c.args.lines.now) (input_of left c.load_observed.new.lines) c.args.external.now (g.W.Sink.held c.args.writer.now) (λ b. contents_of b) c.in_err-bench.field-0.0
    (c.in_err-bench.ensures.loaded none))

pub returns-in_err-bench-clause-answering : goal.returns-in_err-bench-clause-answering
returns-in_err-bench-clause-answering g c = record {
  why = λ none.
      let left = g.R.Source.left in
      let p = err_from_is_err_and c.from_residual.result c.from_residual.ensures.1 in
      rw (p.1, p.2) (loaded_reasons g.R.Source.tally g.W.Sink.tally c.args.lines.now c.load_observed.new.lines c.args.writer.now c.args.writer.now
      c.in_err-bench.field-0.0 (input_of left c.args.lines.now) (input_of left c.load_observed.new.lines) c.args.external.now (λ b. contents_of b) none c.in_err-bench.ensures.why (c.in_err-bench.ensures.loaded none));
  reads_in_time = search rules;
  writes_in_time = search rules;
}

pub returns-in_err-served-clause-session : goal.returns-in_err-served-clause-session
returns-in_err-served-clause-session g c = λ none.
    let left = g.R.Source.left in
    let held = g.W.Sink.held in
    let p = err_from_is_err_and c.from_residual-in_err-served.result c.from_residual-in_err-served.ensures.1 in
    rw (p.1, p.2) (session_served (input_of left c.args.lines.now) (input_of left c.load_observed.new.lines) (input_of left c.serve_watched-served.new.lines) c.args.external.now (held c.args.writer.now) (held c.serve_watched-served.new.writer)
    (λ b. contents_of b) c.in_ok-bench.bench (contents_of c.serve_watched-served.new.bench) (Err c.in_err-served.field-0.0) (c.in_ok-bench.ensures.loaded none) (c.in_err-served.ensures.session c.in_ok-bench.ensures.remembered))

pub returns-in_err-served-clause-answering : goal.returns-in_err-served-clause-answering
returns-in_err-served-clause-answering g c = record {
  why = λ none.
      let p = err_from_is_err_and c.from_residual-in_err-served.result c.from_residual-in_err-served.ensures.1 in
      rw (p.1, p.2) (serve_reasons g.R.Source.tally g.W.Sink.tally c.args.lines.now c.load_observed.new.lines c.serve_watched-served.new.lines c.args.writer.now
      c.serve_watched-served.new.writer c.in_err-served.field-0.0 c.in_ok-bench.ensures.remembered c.in_ok-bench.ensures.steady c.load_observed.ensures.bound c.in_err-served.ensures.ends);
  reads_in_time = λ timely. c.serve_watched-served.ensures.reads_in_time (c.load_observed.ensures.in_time timely);
  writes_in_time = c.serve_watched-served.ensures.writes_in_time;
}

pub returns-clause-session : goal.returns-clause-session
returns-clause-session g c = λ none.
    let left = g.R.Source.left in
    let held = g.W.Sink.held in
    session_served (input_of left c.args.lines.now) (input_of left c.load_observed.new.lines) (input_of left c.serve_watched-served.new.lines) c.args.external.now (held c.args.writer.now) (held c.serve_watched-served.new.writer)
    (λ b. contents_of b) c.in_ok-bench.bench (contents_of c.serve_watched-served.new.bench) (Ok tt) (c.in_ok-bench.ensures.loaded none) (c.in_ok-served.ensures.session c.in_ok-bench.ensures.remembered)
