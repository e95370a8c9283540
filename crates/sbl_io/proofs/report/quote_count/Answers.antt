use Rattle.std.proofs.Common.{arith, refl}
use Rattle.csv.specs.Writing.{escaped}
use Rattle.sbl_io.proofs.ReportFacts.{other_more, quote_more}
use Rattle.sbl_io.proofs.report.quote_count.Goals.{then-byte-eq34, else-byte-eq34}
use Rattle.sbl_io.proofs.report.quote_count.Goals as goal

pub loop-byte-init : goal.loop-byte-init
unfolding escaped
loop-byte-init c = (refl, omega arith)

pub loop-byte-preserved : goal.loop-byte-preserved
loop-byte-preserved c =
    let so = c.loop-byte.invariant in
    elim c.if-byte-eq34.branch [
      | then-byte-eq34 w ↦
          (quote_more c.args.field.now c.loop-byte.byte-index c.loop-byte.count c.if-byte-eq34.count c.loop-byte-test.true w.if-byte-eq34.true so.0 w.count-is, omega (arith, w.count-is, so.1))
      | else-byte-eq34 w ↦
          (other_more c.args.field.now c.loop-byte.byte-index c.loop-byte.count c.if-byte-eq34.count c.loop-byte-test.true w.if-byte-eq34.false so.0 w.count-is, omega (arith, w.count-is, so.1))
    ]
