-- Two scripts agree outside the items in which they differ.
use Rattle.std.proofs.Common.{◌≡◌, ◌∙◌, ℕ, Bool, true, false, ◌&&◌, if◌then◌else◌, List, [], ◌∷◌, map, Option, Some, None, refl, sym, ap}
use Rattle.std.specs.List.{list_all}
use Rattle.std.proofs.lemmas.Bool.{eqb-true}
use Rattle.std.proofs.lemmas.Option.{none-some, same_Some}
use Rattle.std.specs.Cmp.Lexicographic.{pointwise}
use Rattle.sbl_ast.specs.Tree.{Argument, Term, Command, Others, bracket, no_rows, no_others, Plain, declaration, escapes, macro, routine, grouping, Item, plain, backward}
use Rattle.sbl_semantics.specs.Regions.{number_after}
use Rattle.sbl_resolver.specs.Laws.{WellDeclaredPasses}
use Rattle.sbl_ast.specs.Source.{Source}
use Rattle.sbl_semantics.specs.Differs.{differs}
use Rattle.sbl_semantics.specs.DiffersByParts.{join, differ, differ_others, items_by, differ_plain, differ_plains, differ_item, differ_items}
use Rattle.sbl_machine.specs.BuiltFrom.{affected_by}
use Rattle.sbl_machine.specs.DifferLaws.{DifferingAgree, DifferingStay}
use Rattle.sbl_machine.specs.Frame.{AgreeOutside}
use Rattle.sbl_machine.specs.Holes.{holed_plain, holed_item}
use Rattle.sbl_semantics.specs.Same.{same_argument, same_term}
use Rattle.sbl_ast.specs.NamedParts.{Part', Routine, Among, Grouping}
use Rattle.sbl_parser.proofs.OneTree.{trees_are_one}
use Rattle.sbl_semantics.proofs.ByParts.{by_parts}
use Rattle.sbl_machine.proofs.EditsAgree.{unmet_by_one_stay}
use Rattle.sbl_machine.proofs.Several.{all_affected, several_closed}
use Rattle.sbl_semantics.proofs.SameParts.{both, name_is, kind_is, quoted_is, argument_is, names_are, base_is, terms_are}
use Rattle.sbl_machine.proofs.DifferingCommands.{all_parts, halves, if_so, whole, sound, sound_others}

-- ---- items

module _ (picked : Part' → Bool) where
  abbrev Picked : List Part' → Type 0
  Picked xs = list_all picked xs ≡ true

  numbers : (n : List ℕ) (ks : List ℕ) → Picked (map (Among n) ks) → list_all (λ k. picked (Among n k)) ks ≡ true
  numbers n [] all = refl
  numbers n (k ∷ ks) all = let h = both (picked (Among n k)) (list_all picked (map (Among n) ks)) all in rw h.0 (numbers n ks h.1)

  -- two bodies of one routine
  bodies : (n : List ℕ) (c d : Command) (os ps : Others) (o : Option (List ℕ)) → join (differ 0 c d) (differ_others (number_after c 0) os ps) ≡ o → Picked (items_by n o)
      → holed_plain picked (routine n c os) ≡ holed_plain picked (routine n d ps)
  bodies n c d os ps None e all = let h = (both (picked (Routine n)) true all).0 in rw h refl
  bodies n c d os ps (Some ks) e all =
      let holes = λ (k : ℕ). picked (Among n k) in
      let h = halves _ _ ks e in
      let a = all_parts holes ks h.first h.second h.is (numbers n ks all) in
      let x = sound holes c d 0 0 refl h.first h.one a.0 in
      let y = sound_others holes os ps (number_after c 0) (number_after d 0) x.1 h.second h.other a.1 in
      (λ i. if picked (Routine n) then routine n (bracket no_rows) no_others else routine n (x.0 i) (y.0 i))

  -- two lists of terms of one grouping
  groupings : (n : List ℕ) (a b : Argument) (xs ys : List Term) (same : Bool) → (same_argument a b && pointwise same_term xs ys) ≡ same → Picked (if same then [] else Grouping n ∷ [])
      → holed_plain picked (grouping n a xs) ≡ holed_plain picked (grouping n b ys)
  groupings n a b xs ys true e all =
      let h = both _ _ e in
      let y = argument_is a b h.0 in
      let z = terms_are xs ys h.1 in
      (λ i. holed_plain picked (grouping n (y i) (z i)))
  groupings n a b xs ys false e all = let h = (both (picked (Grouping n)) true all).0 in rw h refl

  plain_agree : (x y : Plain) (zs : List Part') → differ_plain x y ≡ Some zs → Picked zs → holed_plain picked x ≡ holed_plain picked y
  plain_agree (declaration k ms) (declaration l ns) zs is all =
      let h = both _ _ (whole _ zs is) in
      let a = kind_is k l h.0 in
      let b = names_are ms ns h.1 in
      (λ i. declaration (a i) (b i))
  plain_agree (escapes a b) (escapes c d) zs is all =
      let h = both _ _ (whole _ zs is) in
      let x = eqb-true a c h.0 in
      let y = eqb-true b d h.1 in
      (λ i. escapes (x i) (y i))
  plain_agree (macro m b q) (macro n c r) zs is all =
      let h = both _ _ (whole _ zs is) in
      let j = both _ _ h.1 in
      let x = name_is m n h.0 in
      let y = base_is b c j.0 in
      let z = quoted_is q r j.1 in
      (λ i. macro (x i) (y i) (z i))
  plain_agree (routine m c os) (routine n d ps) zs is all =
      let h = if_so _ _ zs is in
      let o = join (differ 0 c d) (differ_others (number_after c 0) os ps) in
      let e = same_Some (items_by m o) zs h.1 in
      bodies m c d os ps o refl (ap (list_all picked) e ∙ all) ∙ ap (λ (x : List ℕ). holed_plain picked (routine x d ps)) (name_is m n h.0)
  plain_agree (grouping m a xs) (grouping n b ys) zs is all =
      let h = if_so _ _ zs is in
      let same = same_argument a b && pointwise same_term xs ys in
      let e = same_Some (if same then [] else Grouping m ∷ []) zs h.1 in
      groupings m a b xs ys same refl (ap (list_all picked) e ∙ all) ∙ ap (λ (x : List ℕ). holed_plain picked (grouping x b ys)) (name_is m n h.0)
  plain_agree _ _ zs is all = absurd (none-some zs is)

  plains_agree : (xs ys : List Plain) (zs : List Part') → differ_plains xs ys ≡ Some zs → Picked zs → map (holed_plain picked) xs ≡ map (holed_plain picked) ys
  plains_agree [] [] zs is all = refl
  plains_agree (x ∷ xs) (y ∷ ys) zs is all =
      let h = halves _ _ zs is in
      let a = all_parts picked zs h.first h.second h.is all in
      let p = plain_agree x y h.first h.one a.0 in
      let q = plains_agree xs ys h.second h.other a.1 in
      (λ i. p i ∷ q i)
  plains_agree [] (y ∷ ys) zs is all = absurd (none-some zs is)
  plains_agree (x ∷ xs) [] zs is all = absurd (none-some zs is)

  item_agree : (x y : Item) (zs : List Part') → differ_item x y ≡ Some zs → Picked zs → holed_item picked x ≡ holed_item picked y
  item_agree (plain x) (plain y) zs is all = ap plain (plain_agree x y zs is all)
  item_agree (backward xs) (backward ys) zs is all = ap backward (plains_agree xs ys zs is all)
  item_agree (plain x) (backward ys) zs is all = absurd (none-some zs is)
  item_agree (backward xs) (plain y) zs is all = absurd (none-some zs is)

  items_agree : (xs ys : List Item) (zs : List Part') → differ_items xs ys ≡ Some zs → Picked zs → map (holed_item picked) xs ≡ map (holed_item picked) ys
  items_agree [] [] zs is all = refl
  items_agree (x ∷ xs) (y ∷ ys) zs is all =
      let h = halves _ _ zs is in
      let a = all_parts picked zs h.first h.second h.is all in
      let p = item_agree x y h.first h.one a.0 in
      let q = items_agree xs ys h.second h.other a.1 in
      (λ i. p i ∷ q i)
  items_agree [] (y ∷ ys) zs is all = absurd (none-some zs is)
  items_agree (x ∷ xs) [] zs is all = absurd (none-some zs is)

pub agree_outside : (picked : Part' → Bool) (s t : Source) (zs : List Part') → differs s t ≡ Some zs → list_all picked zs ≡ true → AgreeOutside picked s t
agree_outside picked s t zs is all =
    let h = if_so _ _ zs (sym (by_parts trees_are_one s t) ∙ is) in
    let external = name_is s.external t.external h.0 in
    let items = items_agree picked s.items t.items zs h.1 all in
    (λ i. record { items = items i; external = external i })

pub differing_agree : WellDeclaredPasses → DifferingAgree
differing_agree passes s t zs well is = (several_closed passes s well zs, agree_outside (affected_by s zs) s t zs is (all_affected s zs))

pub differing_stay : WellDeclaredPasses → DifferingStay
differing_stay passes s t zs well is word limit clear = unmet_by_one_stay passes zs s t well (differing_agree passes s t zs well is).1 word limit clear
