use Rattle.std.proofs.lemmas.Result.{err_from_is_err_and}
use Rattle.sbl_io.specs.HeldInput.{input_of}
use Rattle.sbl_script.specs.ParsedScript.{source_of}
use Rattle.sbl_input.specs.declared.faults.LoadFault.TheVariants.{Input}
use Rattle.snowbench.proofs.AnswerFacts.{lists_checked, lists_no_expected, lists_no_words}
use Rattle.snowbench.proofs.ReasonFacts.{check_result_reasons, expected_reasons, reasons_later, words_reasons}
use Rattle.snowbench.proofs.program.check_lists.Goals as goal

pub returns-in_err-words-clause-checked : goal.returns-in_err-words-clause-checked
returns-in_err-words-clause-checked g c = λ none.
    let left = g.R.Source.left in
    let p = err_from_is_err_and c.from_residual.result c.from_residual.ensures.1 in
    rw (p.1, p.2) (lists_no_words (source_of c.args.script.now) (input_of left c.args.lines.now) (input_of left c.read_word_block.new.lines) (g.W.Sink.held c.args.writer.now) c.in_err-words.field-0.0
    (c.in_err-words.ensures.reads none))

pub returns-in_err-words-clause-why : goal.returns-in_err-words-clause-why
returns-in_err-words-clause-why g c = λ none.
    let left = g.R.Source.left in
    let p = err_from_is_err_and c.from_residual.result c.from_residual.ensures.1 in
    rw (p.1, p.2) (words_reasons g.R.Source.tally g.W.Sink.tally c.args.lines.now c.read_word_block.new.lines c.args.writer.now c.args.writer.now
    c.in_err-words.field-0.0 (input_of left c.args.lines.now) (input_of left c.read_word_block.new.lines) none c.in_err-words.ensures.why (c.in_err-words.ensures.reads none))

pub returns-in_err-expected-clause-checked : goal.returns-in_err-expected-clause-checked
returns-in_err-expected-clause-checked g c = λ none.
    let left = g.R.Source.left in
    let p = err_from_is_err_and c.from_residual-in_err-expected.result c.from_residual-in_err-expected.ensures.1 in
    rw (p.1, p.2) (lists_no_expected (source_of c.args.script.now) (input_of left c.args.lines.now) (input_of left c.read_word_block.new.lines) (input_of left c.read_expected.new.lines) (g.W.Sink.held c.args.writer.now)
    c.in_ok-words.words c.in_err-expected.field-0.0 (c.in_ok-words.ensures.reads none) (c.in_err-expected.ensures.reads c.in_ok-words.ensures.remembered))

pub returns-in_err-expected-clause-why : goal.returns-in_err-expected-clause-why
returns-in_err-expected-clause-why g c = λ none.
    let left = g.R.Source.left in
    let ready = c.in_ok-words.ensures.remembered in
    let p = err_from_is_err_and c.from_residual-in_err-expected.result c.from_residual-in_err-expected.ensures.1 in
    rw (p.1, p.2) (reasons_later g.R.Source.tally g.W.Sink.tally c.args.lines.now c.read_word_block.new.lines c.read_expected.new.lines
    c.args.writer.now c.args.writer.now (Input c.in_err-expected.field-0.0) c.in_ok-words.ensures.steady c.read_word_block.ensures.bound
    (expected_reasons g.R.Source.tally g.W.Sink.tally c.read_word_block.new.lines c.read_expected.new.lines c.args.writer.now c.args.writer.now
    c.in_err-expected.field-0.0 (input_of left c.read_word_block.new.lines) (input_of left c.read_expected.new.lines) ready c.in_err-expected.ensures.why (c.in_err-expected.ensures.reads ready)))

pub returns-clause-checked : goal.returns-clause-checked
returns-clause-checked g c = λ none.
    let left = g.R.Source.left in
    let held = g.W.Sink.held in
    lists_checked (source_of c.args.script.now) (input_of left c.args.lines.now) (input_of left c.read_word_block.new.lines) (input_of left c.read_expected.new.lines) (held c.args.writer.now) (held c.check_observed.new.writer)
    c.in_ok-words.words c.in_ok-expected.expected c.deref.result.now c.deref-2.result.now c.check_observed.result (c.in_ok-words.ensures.reads none) (c.in_ok-expected.ensures.reads c.in_ok-words.ensures.remembered)
    c.deref.ensures.value c.deref-2.ensures.value c.check_observed.ensures.checked

pub returns-clause-why : goal.returns-clause-why
returns-clause-why g c = λ none.
    let held = g.W.Sink.held in
    check_result_reasons g.R.Source.tally g.W.Sink.tally c.args.lines.now c.read_expected.new.lines c.args.writer.now c.check_observed.new.writer c.check_observed.result
    (source_of c.args.script.now) c.deref.result.now c.deref-2.result.now (held c.args.writer.now) (held c.check_observed.new.writer) c.check_observed.ensures.checked c.check_observed.ensures.why
