use Rattle.std.proofs.Common.{sym, subst}
use Rattle.std.proofs.lemmas.Result.{IfOk-weaker}
use Rattle.sbl_code.specs.Flow.{way_does}
use Rattle.sbl_code.specs.Performs.{Leaves}
use Rattle.sbl_code.proofs.Performing.{leaves_back}
use Rattle.sbl_code.proofs.assembler.Assembler.way.Goals as goal

pub returns-in-Back : goal.returns-in-Back
returns-in-Back c =
    let place = c.args.place.now in
    let x = place.exits in
    IfOk-weaker c.restore.result _ _
    (λ made r. λ tables. subst (λ w. Leaves tables place.slot x.next.value x.fail.value made.value (way_does w)) (sym c.in-Back.is) (leaves_back tables place.slot x.next.value x.fail.value made.value r))
    c.restore.ensures
