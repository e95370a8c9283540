use Rattle.std.proofs.Common.{rules, ◌≡◌, ◌∙◌, ◌+◌, List, None, Some, ap, length, refl, slice_get}
use Rattle.std.proofs.lemmas.Option.{slice_get_past, slice_get_read}
use Rattle.std.specs.Borrow.{Bor}
use Rattle.sbl_ast.specs.View.{view_row}
use Rattle.sbl_ast.specs.declared.tree.Among.{Among}
use Rattle.sbl_tree_amongs.specs.Amongs.{amongs_of_body}
use Rattle.sbl_uses.specs.Parts.{groups_held}
use Rattle.sbl_uses.specs.UnusedViews.{view_amongs}
use Rattle.sbl_uses.proofs.AskedFacts.{strings_there}
use Rattle.sbl_uses.proofs.uses.strings_at.Goals as goal

pub returns-in-Some-get : goal.returns-in-Some-get
returns-in-Some-get c =
    let b = view_row c.args.body.now in
    let i = c.in-Some.index in
    let amongs = c.deref.result.now in
    let among = c.in-Some-get.among.now in
    let there : slice_get amongs i ≡ Some among = slice_get_read amongs (length amongs) i among refl c.in-Some-get.ensures.lookup.3.0 c.in-Some-get.ensures.lookup.1 in
    let number : c.args.number ≡ i + 1 = search rules in
    let held : view_amongs amongs ≡ groups_held (amongs_of_body b) = ap (λ (l : List (Bor Among)). view_amongs l) c.deref.ensures.value ∙ c.in_ok-amongs.ensures in
    ap Some c.in_ok-strings_in-in-Some-get.ensures ∙ strings_there b i c.args.number amongs (Some among) number held there

pub returns : goal.returns
returns c =
    let b = view_row c.args.body.now in
    let i = c.in-Some.index in
    let amongs = c.deref.result.now in
    let past : slice_get amongs i ≡ None = slice_get_past amongs i c.in-None.ensures.lookup.3 in
    let number : c.args.number ≡ i + 1 = search rules in
    let held : view_amongs amongs ≡ groups_held (amongs_of_body b) = ap (λ (l : List (Bor Among)). view_amongs l) c.deref.ensures.value ∙ c.in_ok-amongs.ensures in
    strings_there b i c.args.number amongs None number held past
