-- A script defines the routines and groupings of the items in which it differs from another.
use Rattle.std.proofs.Common.{◌≡◌, ◌∙◌, ◌&&◌, ℕ, Bool, true, false, nat_eq, if◌then◌else◌, List, [], ◌∷◌, ◌++◌, map, Option, Some, None, refl, sym, ap, subst}
use Rattle.std.specs.Prelude.{⊤}
use Rattle.std.specs.List.{AllByRecursion, list_all}
use Rattle.std.specs.Cmp.Lexicographic.{pointwise}
use Rattle.std.specs.Option.{option_eq}
use Rattle.std.specs.Str.{bytes_eq}
use Rattle.std.proofs.lemmas.List.Folds.{list_all-append}
use Rattle.std.proofs.lemmas.Option.{none-some, same_Some}
use denote.Enum.Bare.{sameb}
use Rattle.sbl_ast.specs.contracts.tree.Base as base
use Rattle.sbl_ast.specs.contracts.tree.DeclarationKind as kind
use Rattle.sbl_ast.specs.Order.{ItemInMode, in_order}
use Rattle.sbl_ast.specs.inside.OrderParts.{in_mode}
use Rattle.sbl_ast.specs.declared.mode.Mode.TheVariants.{Backward}
use Rattle.sbl_ast.specs.declared.tree.DeclarationKind.TheVariants as kinds
use Rattle.sbl_ast.specs.Tree.{Plain, declaration, escapes, macro, routine, grouping, Item, plain, backward}
use Rattle.sbl_semantics.specs.Items.{is_member, known_in, names_by}
use Rattle.sbl_semantics.specs.Regions.{number_after}
use Rattle.sbl_parser.proofs.OneTree.{trees_are_one}
use Rattle.sbl_machine.specs.DifferLaws.{DifferingAreThere}
use Rattle.sbl_semantics.specs.DiffersByParts.{when, join, differ, differ_others, items_by, differ_plain, differ_plains, differ_item, differ_items}
use Rattle.sbl_machine.specs.Marks.{has_item}
use Rattle.sbl_semantics.specs.Same.{same_argument, same_quoted, same_term}
use Rattle.sbl_semantics.specs.TouchedItems.{Names', names_of}
use Rattle.sbl_ast.specs.NamedParts.{Part', Among, Grouping}
use Rattle.sbl_machine.proofs.DifferingCommands.{halves, if_so, none_listed}
use Rattle.sbl_machine.proofs.EditsAgree.{first_name, grouping_more, routine_more}
use Rattle.sbl_semantics.proofs.ByParts.{by_parts}
use Rattle.sbl_semantics.proofs.SameSelf.{also, name_self}

module _ (names : Names') where
  abbrev There : List Part' → Type 0
  There zs = list_all (has_item names) zs ≡ true

  -- the names have the routine or the grouping that an item defines
  abbrev HasPlain : Plain → Type 0
  HasPlain (routine n c os) = is_member names.routines n ≡ true
  HasPlain (grouping n a ts) = is_member names.groupings n ≡ true
  HasPlain _ = ⊤

  abbrev HaveAll : List ItemInMode → Type 0
  HaveAll is = AllByRecursion (λ x. HasPlain x.plain) is

  both_there : (zs xs ys : List Part') → zs ≡ xs ++ ys → There xs → There ys → There zs
  both_there zs xs ys is p q = ap (list_all (has_item names)) is ∙ list_all-append (has_item names) xs ys ∙ also _ _ p q

  none_there : (b : Bool) (zs : List Part') → when b ≡ Some zs → There zs
  none_there b zs is = subst There (none_listed b zs is) refl

  amongs_there : (n : List ℕ) → is_member names.routines n ≡ true → (ks : List ℕ) → There (map (Among n) ks)
  amongs_there n has [] = refl
  amongs_there n has (k ∷ ks) = also _ _ has (amongs_there n has ks)

  body_there : (n : List ℕ) → is_member names.routines n ≡ true → (o : Option (List ℕ)) → There (items_by n o)
  body_there n has None = also _ _ has refl
  body_there n has (Some ks) = amongs_there n has ks

  terms_there : (n : List ℕ) → is_member names.groupings n ≡ true → (same : Bool) → There (if same then [] else Grouping n ∷ [])
  terms_there n has true = refl
  terms_there n has false = also _ _ has refl

  plain_there : (x y : Plain) (zs : List Part') → differ_plain x y ≡ Some zs → HasPlain x → There zs
  plain_there (declaration k ms) (declaration l ns) zs is has = none_there (sameb kind.the_type k l && pointwise bytes_eq ms ns) zs is
  plain_there (escapes a b) (escapes c d) zs is has = none_there (nat_eq a c && nat_eq b d) zs is
  plain_there (macro m b q) (macro n c r) zs is has = none_there (bytes_eq m n && (option_eq (sameb base.the_type) b c && same_quoted q r)) zs is
  plain_there (routine m c os) (routine n d ps) zs is has =
      let o = join (differ 0 c d) (differ_others (number_after c 0) os ps) in
      subst There (same_Some (items_by m o) zs (if_so _ _ zs is).1) (body_there m has o)
  plain_there (grouping m a xs) (grouping n b ys) zs is has =
      let same = same_argument a b && pointwise same_term xs ys in
      subst There (same_Some (if same then [] else Grouping m ∷ []) zs (if_so _ _ zs is).1) (terms_there m has same)
  plain_there _ _ zs is has = absurd (none-some zs is)

  -- the items of one backwardmode, and the items after it
  plains_there : (xs ys : List Plain) (rest : List ItemInMode) (zs : List Part') → differ_plains xs ys ≡ Some zs → HaveAll (in_mode Backward xs ++ rest) → There zs × HaveAll rest
  plains_there [] [] rest zs is has = (subst There (same_Some [] zs is) refl, has)
  plains_there (x ∷ xs) (y ∷ ys) rest zs is has =
      let h = halves _ _ zs is in
      let later = plains_there xs ys rest h.second h.other has.1 in
      (both_there zs h.first h.second h.is (plain_there x y h.first h.one has.0) later.0, later.1)
  plains_there [] (y ∷ ys) rest zs is has = absurd (none-some zs is)
  plains_there (x ∷ xs) [] rest zs is has = absurd (none-some zs is)

  item_there : (x y : Item) (xs : List Item) (zs : List Part') → differ_item x y ≡ Some zs → HaveAll (in_order (x ∷ xs)) → There zs × HaveAll (in_order xs)
  item_there (plain x) (plain y) xs zs is has = (plain_there x y zs is has.0, has.1)
  item_there (backward ps) (backward qs) xs zs is has = plains_there ps qs (in_order xs) zs is has
  item_there (plain x) (backward qs) xs zs is has = absurd (none-some zs is)
  item_there (backward ps) (plain y) xs zs is has = absurd (none-some zs is)

  items_there : (xs ys : List Item) (zs : List Part') → differ_items xs ys ≡ Some zs → HaveAll (in_order xs) → There zs
  items_there [] [] zs is has = subst There (same_Some [] zs is) refl
  items_there (x ∷ xs) (y ∷ ys) zs is has =
      let h = halves _ _ zs is in
      let first = item_there x y xs h.first h.one has in
      both_there zs h.first h.second h.is first.0 (items_there xs ys h.second h.other first.1)
  items_there [] (y ∷ ys) zs is has = absurd (none-some zs is)
  items_there (x ∷ xs) [] zs is has = absurd (none-some zs is)

-- ---- the names of a script have what its items define

abbrev Within : List (List ℕ) → List (List ℕ) → Type 0
Within ms ns = (n : List ℕ) → is_member ms n ≡ true → is_member ns n ≡ true

own_plain : (names : Names') (x : Plain) (routines groupings : List (List ℕ)) → Within (names_by kinds.Routines x ++ routines) names.routines → Within (names_by kinds.Groupings x ++ groupings) names.groupings → HasPlain names x
own_plain names (routine n c os) routines groupings p q = p n (first_name n n routines (name_self n))
own_plain names (grouping n a ts) routines groupings p q = q n (first_name n n groupings (name_self n))
own_plain names _ routines groupings p q = tt

own_names : (names : Names') (is : List ItemInMode) → Within (known_in is kinds.Routines) names.routines → Within (known_in is kinds.Groupings) names.groupings → HaveAll names is
own_names names [] p q = tt
own_names names (x ∷ is) p q = (
  own_plain names x.plain (known_in is kinds.Routines) (known_in is kinds.Groupings) p q,
  own_names names is (λ n h. p n (routine_more n x.plain (known_in is kinds.Routines) h)) (λ n h. q n (grouping_more n x.plain (known_in is kinds.Groupings) h)),
)

pub differing_are_there : DifferingAreThere
differing_are_there s t xs is = items_there (names_of s) s.items t.items xs (if_so _ _ xs (sym (by_parts trees_are_one s t) ∙ is)).1 (own_names (names_of s) (in_order s.items) (λ n h. h) (λ n h. h))
