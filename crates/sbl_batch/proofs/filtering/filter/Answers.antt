use Rattle.std.proofs.Common.{rules, ◌≡◌, Some}
use Rattle.std.proofs.KnownBytes.{Appends-nil, Keeps-refl}
use Rattle.std.proofs.lemmas.Result.{err_from_is_err_and}
use Rattle.sbl_batch.proofs.FilterFacts.{script-no_write}
use Rattle.sbl_io.specs.Faults.{serve_fault_of}
use Rattle.sbl_io.specs.declared.faults.LineFault.{LineFault}
use Rattle.sbl_input.proofs.LoadFacts.{script_refused}
use Rattle.sbl_input.specs.declared.faults.LoadFault.TheVariants.{Input}
use Rattle.sbl_batch.proofs.filtering.filter.Goals as goal

pub returns-in_err-text-clause-why_write : goal.returns-in_err-text-clause-why_write
returns-in_err-text-clause-why_write g c =
    let p = err_from_is_err_and c.from_residual.result c.from_residual.ensures.1 in
    let again : (l : LineFault) → c.args.lines.now.fault ≡ Some l → c.in_err-text.field-0.0 ≡ Input (serve_fault_of l) =
    λ l e. (let before = c.read_script.ensures.again l e in let is : c.in_err-text.field-0.0 ≡ Input (serve_fault_of l) = search (rules, before.0) in is) in
    rw (p.1, p.2) (λ is. absurd (script-no_write c.args.lines.now.fault _ _ c.in_err-text.field-0.0 c.in_err-text.ensures.reads again is))

pub returns-in_err-text-clause-again : goal.returns-in_err-text-clause-again
returns-in_err-text-clause-again g c = λ fault is.
    let before = c.read_script.ensures.again fault is in
    (search (rules, before.0), before.1, Keeps-refl (g.W.Sink.held c.args.writer.now))

pub returns-in_err-script-clause-filtered : goal.returns-in_err-script-clause-filtered
returns-in_err-script-clause-filtered g c = λ none.
    let p = err_from_is_err_and c.from_residual-in_err-script.result c.from_residual-in_err-script.ensures.1 in
    rw (p.1, p.2) (
      script_refused _ _ c.in_ok-text.text c.deref.result.now c.args.external.now c.in_err-script.field-0.0 (c.in_ok-text.ensures.reads none) c.deref.ensures.value c.in_err-script.ensures.fault,
      Appends-nil (g.W.Sink.held c.args.writer.now),
    )
