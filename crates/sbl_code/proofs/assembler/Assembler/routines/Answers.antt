use Rattle.std.proofs.Common.{◌≡◌, ◌<◌, [], ◌∷◌, ◌++◌, length, take, get_or, ap, sym, subst, ◌∙◌, arith, rules}
use Rattle.std.proofs.lemmas.List.{take_more, take_all}
use Rattle.sbl_code.specs.CodeOf.{AreCodeOf}
use Rattle.sbl_code.proofs.Codes.{coded_more}
use Rattle.sbl_code.proofs.assembler.Assembler.routines.Goals as goal

pub loop-routine-preserved : goal.loop-routine-preserved
loop-routine-preserved c =
    let rs = c.args.program.now.routines.items in
    let i = c.loop-routine.routine-index in
    let x = c.routine-item.result in
    let l : i < length rs = search rules in
    let at : x ≡ get_or rs i x = search rules in
    let all = coded_more c.loop-routine.codes.items (take i rs) c.in_ok-code.code x c.loop-routine.invariant c.in_ok-code.ensures in
    subst (λ xs. AreCodeOf c.push.new.self.items xs) (ap (λ y. take i rs ++ (y ∷ [])) at ∙ sym (take_more rs i x l))
    (subst (λ cs. AreCodeOf cs (take i rs ++ (x ∷ []))) (sym c.in_ok-push.ensures.items) all)

pub returns : goal.returns
returns c =
    let rs = c.args.program.now.routines.items in
    let many : length rs ≡ length c.deref-routine-items.result.now = ap (λ xs. length xs) (sym c.deref-routine-items.ensures.value) in
    subst (λ xs. AreCodeOf c.loop-routine.codes.items xs) (take_all c.loop-routine.routine-index rs (omega (arith, many, c.loop-routine-test.false))) c.loop-routine.invariant
