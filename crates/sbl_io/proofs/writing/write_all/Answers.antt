use Rattle.std.proofs.Common.{arith, rules, ◌≡◌, ◌∙◌, ◌-◌, length, take, drop, List, ℕ, subst}
use Rattle.std.proofs.Math.Seq.{take-add}
use Rattle.std.specs.Io.KnownBytes.{Appends}
use Rattle.std.proofs.KnownBytes.{Appends-trans}
use Rattle.std.proofs.lemmas.Grind.{common_steps}
use Rattle.sbl_io.proofs.writing.write_all.Goals as goal

rest_of : (w : ℕ) (bytes : List ℕ) → take (length bytes - w) (drop w bytes) ≡ drop w bytes
rest_of w bytes = grind (arith, common_steps)

pub loop-written-preserved : goal.loop-written-preserved
loop-written-preserved g c =
    let more : Appends (g.W.Sink.held c.loop-written.writer) (g.W.Sink.held c.write_some.new.writer) (take c.in_ok-written.field-0 (drop c.loop-written.written c.args.bytes.now)) =
    subst (λ (rest : List ℕ). Appends (g.W.Sink.held c.loop-written.writer) (g.W.Sink.held c.write_some.new.writer) (take c.in_ok-written.field-0 rest)) (rest_of c.loop-written.written c.args.bytes.now) c.in_ok-written.ensures.takes in
    (search rules, rw take-add (Appends-trans _ _ _ _ _ c.loop-written.invariant.1 more), c.in_ok-written.ensures.steady ∙ c.loop-written.invariant.2, λ fair rest. c.write_some.ensures.in_time (c.loop-written.invariant.3 fair rest) (c.loop-written.invariant.4 rest), λ rest. c.in_ok-written.ensures.rested)
