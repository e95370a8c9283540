use Rattle.std.proofs.Common.{◌++◌, ◌∷◌, [], sym, ap, ◌∙◌, Vec, Global, ℕ}
use Rattle.sbl_program.proofs.Taken.{taken_more}
use Rattle.sbl_program.proofs.plain.copy_strings.Goals as goal

pub loop-string-preserved : goal.loop-string-preserved
loop-string-preserved c =
    let g = λ (v : Vec ℕ Global). v.items in
    c.in_ok-add.ensures ∙ ap (λ t. t ++ (c.deref.result.now ∷ [])) c.loop-string.invariant ∙ taken_more g c.args.strings.now c.loop-string.string-index c.string-item.result c.deref.result.now c.loop-string-test.true c.string-item.is (sym c.deref.ensures.value)
