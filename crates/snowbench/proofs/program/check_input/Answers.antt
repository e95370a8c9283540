use Rattle.std.proofs.Common.{rules, inl, refl, Ok, Err}
use Rattle.std.proofs.KnownBytes.{Appends-nil}
use Rattle.std.proofs.lemmas.Result.{err_from_is_err_and}
use Rattle.sbl_io.specs.HeldInput.{input_of}
use Rattle.sbl_script.specs.ParsedScript.{source_of}
use Rattle.sbl_input.specs.declared.faults.LoadFault.TheVariants.{Input, Script}
use Rattle.sbl_input.proofs.LoadFacts.{script_parsed, script_refused}
use Rattle.snowbench.proofs.AnswerFacts.{check_lists, check_no_text}
use Rattle.snowbench.proofs.ReasonFacts.{reasons_later, script_reasons}
use Rattle.snowbench.proofs.program.check_input.Goals as goal

pub returns-in_err-text-clause-checked : goal.returns-in_err-text-clause-checked
returns-in_err-text-clause-checked g c = λ none.
    let left = g.R.Source.left in
    let p = err_from_is_err_and c.from_residual.result c.from_residual.ensures.1 in
    rw (p.1, p.2) (check_no_text (input_of left c.args.lines.now) (input_of left c.read_script.new.lines) c.args.external.now (g.W.Sink.held c.args.writer.now) c.in_err-text.field-0.0 (c.in_err-text.ensures.reads none))

pub returns-in_err-text-clause-answering : goal.returns-in_err-text-clause-answering
returns-in_err-text-clause-answering g c = record {
  why = λ none.
      let left = g.R.Source.left in
      let p = err_from_is_err_and c.from_residual.result c.from_residual.ensures.1 in
      rw (p.1, p.2) (script_reasons g.R.Source.tally g.W.Sink.tally c.args.lines.now c.read_script.new.lines c.args.writer.now c.args.writer.now
      c.in_err-text.field-0.0 (input_of left c.args.lines.now) (input_of left c.read_script.new.lines) none c.in_err-text.ensures.why (c.in_err-text.ensures.reads none));
  reads_in_time = search rules;
  writes_in_time = search rules;
}

pub returns-in_err-script-clause-checked : goal.returns-in_err-script-clause-checked
returns-in_err-script-clause-checked g c = λ none.
    let left = g.R.Source.left in
    let f = c.in_err-script.field-0.0 in
    let p = err_from_is_err_and c.from_residual-in_err-script.result c.from_residual-in_err-script.ensures.1 in
    rw (p.1, p.2) (
    inl (
      Script f,
      refl,
      script_refused (input_of left c.args.lines.now) (input_of left c.read_script.new.lines) c.in_ok-text.text c.deref.result.now c.args.external.now f (c.in_ok-text.ensures.reads none) c.deref.ensures.value c.in_err-script.ensures.fault,
      Appends-nil (g.W.Sink.held c.args.writer.now),
    ))

pub returns-in_err-script-clause-answering : goal.returns-in_err-script-clause-answering
returns-in_err-script-clause-answering g c = record {
  why = λ none.
      let p = err_from_is_err_and c.from_residual-in_err-script.result c.from_residual-in_err-script.ensures.1 in
      rw (p.1, p.2) (λ is. cc is, λ is. cc is);
  reads_in_time = search rules;
  writes_in_time = search rules;
}

pub returns-in_err-differences-clause-checked : goal.returns-in_err-differences-clause-checked
returns-in_err-differences-clause-checked g c = λ none.
    let left = g.R.Source.left in
    let held = g.W.Sink.held in
    let source = script_parsed (input_of left c.args.lines.now) (input_of left c.read_script.new.lines) c.in_ok-text.text c.deref.result.now c.args.external.now c.in_ok-script.script (c.in_ok-text.ensures.reads none) c.deref.ensures.value c.in_ok-script.ensures.script in
    let p = err_from_is_err_and c.from_residual-in_err-differences.result c.from_residual-in_err-differences.ensures.1 in
    rw (p.1, p.2) (check_lists (input_of left c.args.lines.now) (input_of left c.read_script.new.lines) (input_of left c.check_lists-differences.new.lines) c.args.external.now (held c.args.writer.now) (held c.check_lists-differences.new.writer)
    (source_of c.in_ok-script.script) (Err c.in_err-differences.field-0.0) source (c.in_err-differences.ensures.checked c.in_ok-text.ensures.remembered))

pub returns-in_err-differences-clause-answering : goal.returns-in_err-differences-clause-answering
returns-in_err-differences-clause-answering g c = record {
  why = λ none.
      let p = err_from_is_err_and c.from_residual-in_err-differences.result c.from_residual-in_err-differences.ensures.1 in
      rw (p.1, p.2) (reasons_later g.R.Source.tally g.W.Sink.tally c.args.lines.now c.read_script.new.lines c.check_lists-differences.new.lines
      c.args.writer.now c.check_lists-differences.new.writer (Input c.in_err-differences.field-0.0) c.in_ok-text.ensures.steady c.read_script.ensures.bound (c.in_err-differences.ensures.why c.in_ok-text.ensures.remembered));
  reads_in_time = search rules;
  writes_in_time = search rules;
}

pub returns-clause-checked : goal.returns-clause-checked
returns-clause-checked g c = λ none.
    let left = g.R.Source.left in
    let held = g.W.Sink.held in
    let source = script_parsed (input_of left c.args.lines.now) (input_of left c.read_script.new.lines) c.in_ok-text.text c.deref.result.now c.args.external.now c.in_ok-script.script (c.in_ok-text.ensures.reads none) c.deref.ensures.value c.in_ok-script.ensures.script in
    check_lists (input_of left c.args.lines.now) (input_of left c.read_script.new.lines) (input_of left c.check_lists-differences.new.lines) c.args.external.now (held c.args.writer.now) (held c.check_lists-differences.new.writer)
    (source_of c.in_ok-script.script) (Ok c.in_ok-differences.field-0) source (c.in_ok-differences.ensures.checked c.in_ok-text.ensures.remembered)
