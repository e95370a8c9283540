use Rattle.std.proofs.Common.{◌<◌, arith, refl}
use Rattle.std.specs.Vec.{vec_len}
use Rattle.std.proofs.lemmas.Result.{on_ok_weaker}
use Rattle.sbl_rows.specs.Classes.{view_stem_class}
use Rattle.sbl_rows.proofs.LastFacts.{last_in_vec}
use Rattle.sbl_rows.proofs.stem_class.put_in_last.Goals as goal

pub returns-in-Some : goal.returns-in-Some
returns-in-Some c =
    let some : 0 < vec_len c.args.classes.now = let h = c.in-Some.ensures.variant.0 refl in let k = c.args.classes.now.ok.0 in omega arith in
    on_ok_weaker c.push_text.result
    (λ more. last_in_vec view_stem_class c.args.classes.now c.in-Some.class.now _ c.args.member.now some c.in-Some.ensures.value refl more)
    c.push_text.ensures
