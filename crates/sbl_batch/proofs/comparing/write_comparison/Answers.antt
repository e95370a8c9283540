use Rattle.std.proofs.Common.{rules, ◌≡◌, ◌∙◌, ℕ, List, Err, subst, take}
use Rattle.std.proofs.lemmas.Result.{err_from_is_err_and}
use Rattle.std.specs.Io.KnownBytes.{Appends}
use Rattle.sbl_batch.specs.declared.bench_pair.CompareFault.TheVariants.{Rows}
use Rattle.sbl_batch.proofs.OpenFacts.{compares-lacking}
use Rattle.sbl_bench.specs.KeptRuns.{contents_of}
use Rattle.sbl_io.specs.declared.faults.ServeFault.TheVariants as fault
use Rattle.sbl_batch.proofs.comparing.write_comparison.Goals as goal

pub returns-in_err-pair-clause-compares : goal.returns-in_err-pair-clause-compares
returns-in_err-pair-clause-compares g c =
    let p = err_from_is_err_and c.from_residual.result c.from_residual.ensures.1 in
    rw (p.1, p.2) (compares-lacking c.args.input.now c.in_err-pair.field-0.0 (g.W.Sink.held c.args.writer.now) c.in_err-pair.ensures.fault)

pub returns-in_err-write_all-clause-compares : goal.returns-in_err-write_all-clause-compares
returns-in_err-write_all-clause-compares g c =
    let held = g.W.Sink.held in
    let n = c.write_all.ensures.prefix.0 in
    let wrote : c.from_residual-in_err-write_all.result ≡ Err (Rows fault.Write) = search rules in
    rw wrote (
      contents_of c.in_ok-pair.pair.old,
      contents_of c.in_ok-pair.pair.new,
      c.in_ok-pair.ensures.pair,
      n,
      subst (λ (t : List ℕ). Appends (held c.args.writer.now) (held c.write_all.new.writer) (take n t))
          (c.deref.ensures.value ∙ c.in_ok-text.ensures.0) c.write_all.ensures.prefix.1,
    )
