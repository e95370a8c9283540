-- Two scripts have a list of differing items exactly if they differ only in items.
use Rattle.std.proofs.Common.{◌≡◌, ◌∙◌, ◌&&◌, Bool, true, false, if◌then◌else◌, List, [], ◌∷◌, map, Option, Some, None, refl, sym, ap}
use Rattle.std.specs.List.{list_all}
use Rattle.std.specs.Option.{is_some}
use Rattle.std.specs.Str.{bytes_eq}
use Rattle.std.proofs.lemmas.Bool.{true≢false}
use Rattle.std.proofs.lemmas.Slice.Eq.{bytes_eq-Decides}
use Rattle.sbl_ast.specs.Tree.{Plain, declaration, escapes, macro, routine, grouping, Item, plain, backward}
use Rattle.sbl_ast.specs.Source.{Source}
use Rattle.sbl_parser.proofs.OneTree.{trees_are_one}
use Rattle.sbl_machine.specs.DifferLaws.{AlikeDifferNowhere, MoreDiffers, OnlyItemsDiffer}
use Rattle.sbl_semantics.specs.DiffersByParts.{join, differ_plain, differ_plains, differ_item, differ_items}
use Rattle.sbl_machine.specs.Holes.{holed_plain, holed_item}
use Rattle.sbl_ast.specs.NamedParts.{Part'}
use Rattle.sbl_machine.proofs.DiffersAgree.{agree_outside}
use Rattle.sbl_semantics.proofs.ByParts.{by_parts}
use Rattle.sbl_semantics.proofs.DiffersSelf.{items_self}
use Rattle.sbl_semantics.proofs.SameSelf.{name_self}

abbrev all : Part' → Bool
all x = true

all_pass : (xs : List Part') → list_all all xs ≡ true
all_pass [] = refl
all_pass (x ∷ xs) = all_pass xs

pub only_items_differ : OnlyItemsDiffer
only_items_differ s t xs is = agree_outside all s t xs is (all_pass xs)

-- ---- with holes there is a list exactly if there is one without

some_if : {X : Type 0} (b : Bool) (x y : X) → is_some (if b then Some x else None) ≡ is_some (if b then Some y else None)
some_if true x y = refl
some_if false x y = refl

some_join : {X : Type 0} (x y : Option (List X)) → is_some (join x y) ≡ (is_some x && is_some y)
some_join (Some a) (Some b) = refl
some_join (Some a) None = refl
some_join None y = refl

both_joins : {X : Type 0} (w x y z : Option (List X)) → is_some w ≡ is_some y → is_some x ≡ is_some z → is_some (join w x) ≡ is_some (join y z)
both_joins w x y z p q = some_join w x ∙ (λ i. p i && q i) ∙ sym (some_join y z)

abbrev hole_of : Plain → Plain
hole_of x = holed_plain all x

plain_some : (x y : Plain) → is_some (differ_plain x y) ≡ is_some (differ_plain (hole_of x) (hole_of y))
plain_some (declaration k ms) (declaration l ns) = refl
plain_some (escapes a b) (escapes c d) = refl
plain_some (macro m b q) (macro n c r) = refl
plain_some (routine m c os) (routine n d ps) = some_if (bytes_eq m n) _ _
plain_some (grouping m a xs) (grouping n b ys) = some_if (bytes_eq m n) _ _
plain_some _ _ = refl

plains_some : (xs ys : List Plain) → is_some (differ_plains xs ys) ≡ is_some (differ_plains (map (holed_plain all) xs) (map (holed_plain all) ys))
plains_some [] [] = refl
plains_some (x ∷ xs) (y ∷ ys) = both_joins _ _ _ _ (plain_some x y) (plains_some xs ys)
plains_some [] (y ∷ ys) = refl
plains_some (x ∷ xs) [] = refl

item_some : (x y : Item) → is_some (differ_item x y) ≡ is_some (differ_item (holed_item all x) (holed_item all y))
item_some (plain x) (plain y) = plain_some x y
item_some (backward xs) (backward ys) = plains_some xs ys
item_some (plain x) (backward ys) = refl
item_some (backward xs) (plain y) = refl

items_some : (xs ys : List Item) → is_some (differ_items xs ys) ≡ is_some (differ_items (map (holed_item all) xs) (map (holed_item all) ys))
items_some [] [] = refl
items_some (x ∷ xs) (y ∷ ys) = both_joins _ _ _ _ (item_some x y) (items_some xs ys)
items_some [] (y ∷ ys) = refl
items_some (x ∷ xs) [] = refl

pub more_differs : MoreDiffers
more_differs s t none agree =
    let external : bytes_eq s.external t.external ≡ true = (bytes_eq-Decides s.external t.external).1 (ap (λ (u : Source). u.external) agree) in
    let items : map (holed_item all) s.items ≡ map (holed_item all) t.items = ap (λ (u : Source). u.items) agree in
    let some : is_some (differ_items s.items t.items) ≡ true =
    items_some s.items t.items
    ∙ ap (λ (ys : List Item). is_some (differ_items (map (holed_item all) s.items) ys)) (sym items)
    ∙ ap is_some (items_self (map (holed_item all) s.items)) in
    let not : differ_items s.items t.items ≡ None = sym (ap (λ (b : Bool). if b then differ_items s.items t.items else None) external) ∙ sym (by_parts trees_are_one s t) ∙ none in
    true≢false (sym some ∙ ap is_some not)

pub alike_differ_nowhere : AlikeDifferNowhere
alike_differ_nowhere s =
    by_parts trees_are_one s s
    ∙ ap (λ (b : Bool). if b then differ_items s.items s.items else None) (name_self s.external)
    ∙ items_self s.items
