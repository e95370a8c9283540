use Rattle.std.proofs.Common.{rules}
use Rattle.std.proofs.lemmas.Result.{err_from_is_err_and}
use Rattle.sbl_bench.specs.KeptRuns.{contents_of}
use Rattle.sbl_io.specs.HeldInput.{input_of}
use Rattle.sbl_input.proofs.LoadFacts.{script_refused, script_unread}
use Rattle.sbl_input.proofs.loading.read_input.Goals as goal

pub returns-in_err-text-clause-again : goal.returns-in_err-text-clause-again
returns-in_err-text-clause-again g c = λ fault is.
    let again = c.read_script.ensures.again fault is in
    (search (rules, again.0), again.1)

pub returns-in_err-text-clause-reads : goal.returns-in_err-text-clause-reads
returns-in_err-text-clause-reads g c = λ none.
    let left = g.R.Source.left in
    let p = err_from_is_err_and c.from_residual.result c.from_residual.ensures.1 in
    rw (p.1, p.2) (script_unread (input_of left c.args.lines.now) _ c.args.external.now (λ b. contents_of b) c.in_err-text.field-0.0 (c.in_err-text.ensures.reads none))

pub returns-in_err-script-clause-reads : goal.returns-in_err-script-clause-reads
returns-in_err-script-clause-reads g c = λ none.
    let p = err_from_is_err_and c.from_residual-in_err-script.result c.from_residual-in_err-script.ensures.1 in
    rw (p.1, p.2) (script_refused _ _ c.in_ok-text.text c.deref.result.now c.args.external.now c.in_err-script.field-0.0 (c.in_ok-text.ensures.reads none) c.deref.ensures.value c.in_err-script.ensures.fault)
