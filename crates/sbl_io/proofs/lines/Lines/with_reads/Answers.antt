use Rattle.sbl_io.proofs.Bytes.{at_end}
use Rattle.std.proofs.Common.{refl, sym, ◌∙◌, arith}
use Rattle.sbl_io.proofs.lines.Lines.with_reads.Goals as goal

pub returns-clause-input : goal.returns-clause-input
returns-clause-input g c = at_end c.in_ok-chunk.chunk.items 0 0 (g.R.Source.left c.args.reader) refl

pub returns-clause-in_time : goal.returns-clause-in_time
returns-clause-in_time g c = λ h.
    let within = h.none in
    (record { in_time = h.in_time; known = λ e. sym h.not_ended ∙ e; within = omega arith }, λ e. h.rested)
