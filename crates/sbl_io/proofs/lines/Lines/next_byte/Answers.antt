use Rattle.std.proofs.Common.{rules, arith, ◌<◌}
use Rattle.std.proofs.KnownBytes.{Keeps-refl}
use Rattle.std.specs.Io.KnownBytes.{Keeps}
use Rattle.sbl_io.specs.HeldInput.{input_of}
use Rattle.sbl_io.proofs.Bytes.{kept_then, take_one}
use Rattle.sbl_io.proofs.lines.Lines.next_byte.Goals as goal
use Rattle.sbl_io.proofs.lines.Lines.next_byte.Goals.{then-self+in_ok-fill+else-self-2, else-self}

pub returns-clause-byte : goal.returns-clause-byte
returns-clause-byte g c =
    let left = g.R.Source.left in
    let kept : Keeps (input_of left c.args.self.now) (input_of left c.if-self.self) = elim c.if-self.branch [
      | then-self+in_ok-fill+else-self-2 w ↦ rw w.self-is (w.in_ok-fill.ensures.input)
      | else-self w ↦ rw w.self-is (Keeps-refl _)
    ] in
    let some : c.if-self.self.at < c.if-self.self.end = elim c.if-self.branch [
      | then-self+in_ok-fill+else-self-2 w ↦ rw w.self-is (omega (arith, w.if-self-2.false, w.fill.new.self.in_order))
      | else-self w ↦ rw w.self-is (omega (arith, w.if-self.false, c.args.self.now.in_order))
    ] in
    kept_then _ _ _ _ kept (take_one _ _ _ _ _ some (search rules) c.index-byte.ensures)
