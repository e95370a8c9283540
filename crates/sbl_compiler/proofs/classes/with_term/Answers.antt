use Rattle.std.proofs.Common.{rules, ◌≡◌, map, length, Some, refl, sym}
use Rattle.std.specs.Prelude.{slice_get}
use Rattle.std.proofs.lemmas.Bool.{ltb-true}
use Rattle.std.proofs.lemmas.Option.{slice_get_read}
use Rattle.sbl_program.specs.CharacterClasses.{members}
use Rattle.sbl_program.specs.Terms.{class_at}
use Rattle.sbl_compiler.proofs.ClassAt.{class_there}
use Rattle.sbl_compiler.proofs.classes.with_term.Goals as goal

pub returns-in-Some : goal.returns-in-Some
returns-in-Some c =
    let k = c.number_of.result in
    let classes = c.args.classes.now in
    let found = c.in-Some.ensures.lookup in
    let there : slice_get classes k ≡ Some c.in-Some.other.now = slice_get_read classes (length classes) k c.in-Some.other.now refl (ltb-true k (length classes) (sym found.0)) found.1 in
    let same : members c.in-Some.other.now ≡ class_at (map members classes) k = class_there members classes k c.in-Some.other.now there in
    search (rules, same)
