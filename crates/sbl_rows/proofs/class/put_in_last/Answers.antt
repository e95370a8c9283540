use Rattle.std.proofs.Common.{◌<◌, arith, refl}
use Rattle.std.specs.Vec.{vec_len}
use Rattle.std.proofs.lemmas.Result.{on_ok_weaker}
use Rattle.sbl_rows.specs.Classes.{view_class}
use Rattle.sbl_rows.proofs.LastFacts.{last_in_vec}
use Rattle.sbl_rows.proofs.class.put_in_last.Goals as goal

pub returns-in-Some : goal.returns-in-Some
returns-in-Some c =
    let some : 0 < vec_len c.args.classes.now = let h = c.in-Some.ensures.variant.0 refl in let k = c.args.classes.now.ok.0 in omega arith in
    on_ok_weaker c.push_word.result
    (λ more. last_in_vec view_class c.args.classes.now c.in-Some.class.now _ c.args.word.items some c.in-Some.ensures.value refl more)
    c.push_word.ensures
