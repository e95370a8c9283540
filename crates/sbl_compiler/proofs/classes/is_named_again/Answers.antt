use Rattle.std.proofs.Common.{rules, ◌≡◌, ◌∙◌, map, length, true, Some, refl, sym, ap}
use Rattle.std.specs.Prelude.{slice_get}
use Rattle.std.specs.Option.{option_map}
use Rattle.std.proofs.lemmas.Bool.{ltb-true}
use Rattle.std.proofs.lemmas.Option.{slice_get_read, slice_get-map}
use Rattle.sbl_ast.specs.View.{view_argument, view_term}
use Rattle.sbl_compiler.specs.NamedAgain.{is_name_of, is_named}
use Rattle.sbl_compiler.specs.NumberedView.{view_names}
use Rattle.sbl_compiler.proofs.Again.{named_there}
use Rattle.sbl_compiler.proofs.classes.is_named_again.Goals as goal

pub returns-in-Name-Some : goal.returns-in-Name-Some
returns-in-Name-Some c = λ yes.
    let i = c.args.distance in
    let ts = c.args.following.now in
    let t = c.in-Name-Some.term.now in
    let ns = view_names c.args.names.now in
    let k = c.number_of.result in
    let found = c.in-Name-Some.ensures.lookup in
    let there : slice_get ts i ≡ Some t = slice_get_read ts (length ts) i t refl (ltb-true i (length ts) (sym found.0)) found.1 in
    let viewed = slice_get-map view_term ts i ∙ ap (option_map view_term) there in
    let names : is_name_of ns (view_argument t.argument) k ≡ true = sym c.is_name_of.ensures ∙ yes in
    let named : is_named ns (map view_term ts) k ≡ true = named_there ns (map view_term ts) i k t.operator (view_argument t.argument) viewed names in
    search (rules, named)
