use Rattle.std.proofs.Common.{◌≡◌, ◌∙◌, List, Option, Some, IfOk, map, ap, sym, refl, subst}
use Rattle.sbl_script.specs.ParsedScript.{source_of}
use Rattle.sbl_semantics.specs.Differs.{differs}
use Rattle.sbl_semantics.specs.TouchedItems.{item_of}
use Rattle.sbl_ast.specs.NamedParts.{Part'}
use Rattle.sbl_tree_diff.specs.ItemsIn.{items_in}
use Rattle.sbl_bench.specs.inside.AffectedWords.{AreMet, Every}
use Rattle.sbl_bench.specs.inside.Changes.{affected_of}
use Rattle.sbl_bench.proofs.affected_words.affected_by_exchange.Goals as goal

pub returns-in-Some : goal.returns-in-Some
returns-in-Some c machine =
    let s = source_of c.args.script.now in
    let t = source_of c.args.other.now in
    let xs = map item_of c.as_slice.result.now in
    let listed : Some xs ≡ differs s t = ap (λ (ys : List Part'). Some ys) (ap (map item_of) c.as_slice.ensures.value) ∙ ap (λ r. items_in r) (sym c.in-Some.is) ∙ c.in_ok-differing.ensures in
    subst (λ (o : Option (List Part')). IfOk c.affected_by_items.result (λ a. AreMet s o (affected_of a))) listed
    (c.affected_by_items.ensures machine (c.differing_agree.ensures.there s t xs (sym listed)))

pub returns-in-None : goal.returns-in-None
returns-in-None c machine =
    let s = source_of c.args.script.now in
    let t = source_of c.args.other.now in
    subst (λ (o : Option (List Part')). AreMet s o Every) (ap (λ r. items_in r) (sym c.in-None.is) ∙ c.in_ok-differing.ensures) (λ limit word. refl)
