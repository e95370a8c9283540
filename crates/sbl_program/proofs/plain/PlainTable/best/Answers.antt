use Rattle.std.proofs.Common.{◌≡◌, length, take, sym, ap, ◌∙◌, arith}
use Rattle.std.proofs.lemmas.List.{length-take}
use Rattle.sbl_semantics.specs.Fitting.{read_as}
use Rattle.sbl_program.specs.Strings.{strings_of}
use Rattle.sbl_program.proofs.Next.{next_string}
use Rattle.sbl_program.proofs.SoFar.{so_far_next}
use Rattle.sbl_program.proofs.plain.PlainTable.best.Goals as goal

pub loop-i-preserved : goal.loop-i-preserved
loop-i-preserved c =
    let ss = strings_of c.args.self.now in
    let m = c.args.self.now.direction in
    let i = c.loop-i.i in
    let n = next_string m c.args.self.now.strings.items c.deref-string-items.result.now c.string-item.result i c.deref-string-items.ensures.value c.loop-i-test.true c.string-item.is in
    let len : i ≡ length (take i ss) = omega (arith, length-take i ss, n.0) in
    so_far_next ss i (read_as m c.deref.result.now) (read_as m c.args.part.now) c.args.below c.better-best.result.0 c.better-best.result.1 n.0 (n.1 ∙ ap (read_as m) (sym c.deref.ensures.value)) (c.better-best.ensures (take i ss) len c.loop-i.invariant)
