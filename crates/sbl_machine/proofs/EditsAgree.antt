-- A script after an edit agrees with it outside the item that was replaced.
use Rattle.std.proofs.Common.{◌≡◌, ◌∙◌, ◌||◌, ◌&&◌, ℕ, Bool, true, false, nat_eq, if◌then◌else◌, List, [], ◌∷◌, ◌++◌, map, Option, Some, None, Ok, refl, sym, ap, subst}
use Rattle.std.specs.List.{list_any}
use Rattle.std.specs.Option.{option_or, is_some}
use Rattle.std.specs.Str.{bytes_eq}
use Rattle.std.proofs.lemmas.Bool.{eqb-true, true≢false}
use Rattle.std.proofs.lemmas.Slice.Eq.{bytes_eq-Decides}
use Rattle.sbl_ast.specs.Tree.{Argument, written_out, Term, Starter, Groups, Plain, Item, bracket, no_rows, no_others, declaration, escapes, macro, routine, grouping, plain, backward}
use Rattle.sbl_ast.specs.View.{RowView}
use Rattle.sbl_ast.specs.Counts.{count_in_among}
use Rattle.sbl_resolver.specs.Laws.{WellDeclaredPasses}
use Rattle.sbl_tree_amongs.specs.Amongs.{AmongContents, amongs_of_body, nth_held, put_in_body}
use Rattle.sbl_semantics.specs.Items.{is_member, known_in, names_by}
use Rattle.sbl_semantics.specs.Regions.{number_after}
use Rattle.sbl_ast.specs.Order.{ItemInMode, in_order}
use Rattle.sbl_ast.specs.inside.OrderParts.{in_mode}
use Rattle.sbl_ast.specs.declared.mode.Mode.TheVariants.{Backward}
use Rattle.sbl_ast.specs.declared.tree.DeclarationKind.{DeclarationKind}
use Rattle.sbl_ast.specs.declared.tree.DeclarationKind.TheVariants as kinds
use Rattle.sbl_ast.specs.NamedParts.{Routine as body, Among as among, Grouping as terms}
use Rattle.sbl_script.specs.Edits.{changes, is_routine_named, is_grouping_named, plains_with, items_with}
use Rattle.sbl_script.specs.Homes.{Home, first_in, first_passing, home_in, home_of_among, home_of_body, home_of_held, home_of_terms, plain_if, IsSubstitutedAt}
use Rattle.sbl_script.proofs.Agreement.{edited_in}
use Rattle.sbl_script.proofs.Found.{grouping_found, routine_found, some_plain}
use Rattle.sbl_ast.specs.Source.{Source}
use Rattle.sbl_machine.specs.BuiltFrom.{is_affected_by, affected_by, built_from, meets, meets_one}
use Rattle.sbl_machine.specs.Frame.{AgreeOutside, AgreeingNamesStay, ClearStay, EditsAgree, NamesStay, UnmetByOneStay, UnmetStay, UntouchedStay}
use Rattle.sbl_machine.specs.Holes.{with_holes, nothing, others_with_holes, holed_plain, holed_item}
use Rattle.sbl_semantics.specs.Meaning.{ending}
use Rattle.sbl_semantics.specs.Outcome.{touched_at, touches_of}
use Rattle.sbl_semantics.specs.TouchedItems.{item_of_touch, names_of, same_item}
use Rattle.sbl_ast.specs.NamedParts.{Part', Routine, Among, Grouping}
use Rattle.sbl_machine.specs.Marks.{EditedAreThere, has_item}
use Rattle.sbl_machine.proofs.BuiltFrom.{affected_closed, built_more}
use Rattle.sbl_machine.proofs.NamesStand.{flip}
use Rattle.sbl_machine.proofs.FrameLaw.{agree_names, alike_by, clear_by_names, frame_on}
use Rattle.sbl_machine.proofs.HoledPuts.{body_put}
use Rattle.sbl_machine.proofs.Several.{several_closed}
use Rattle.sbl_machine.proofs.TouchedOrder.{any-mapped}

same_bytes : (n : List ℕ) → bytes_eq n n ≡ true
same_bytes n = (bytes_eq-Decides n n).1 refl

-- ---- another item in the place of the first that passes, which is the same with holes

module _ (picked : Part' → Bool) (p : Plain → Bool) (new old : Plain) (same : holed_plain picked new ≡ holed_plain picked old) where
  -- the item itself
  here : (x : Plain) → Some x ≡ Some old → holed_plain picked new ≡ holed_plain picked x
  here x is = same ∙ ap (holed_plain picked) (sym (some_plain x old is))

  plains_by : (x : Plain) (xs : List Plain) (v : Bool) → option_or (if v then Some x else None) (first_in p xs) ≡ Some old
      → (first_in p xs ≡ Some old → map (holed_plain picked) (plains_with p new xs) ≡ map (holed_plain picked) xs)
      → map (holed_plain picked) (if v then new ∷ xs else x ∷ plains_with p new xs) ≡ holed_plain picked x ∷ map (holed_plain picked) xs
  plains_by x xs true is h = ap (λ (y : Plain). y ∷ map (holed_plain picked) xs) (here x is)
  plains_by x xs false is h = ap (λ (l : List Plain). holed_plain picked x ∷ l) (h is)

  plains_agree : (xs : List Plain) → first_in p xs ≡ Some old → map (holed_plain picked) (plains_with p new xs) ≡ map (holed_plain picked) xs
  plains_agree [] is = refl
  plains_agree (x ∷ xs) is = plains_by x xs (p x) is (plains_agree xs)

  -- whether one passes
  there_by : (x : Plain) (xs : List Plain) (v : Bool) → list_any p xs ≡ is_some (first_in p xs) → (v || list_any p xs) ≡ is_some (option_or (if v then Some x else None) (first_in p xs))
  there_by x xs true h = refl
  there_by x xs false h = h

  there : (xs : List Plain) → list_any p xs ≡ is_some (first_in p xs)
  there [] = refl
  there (x ∷ xs) = there_by x xs (p x) (there xs)

  abbrev Holed : List Item → List Item
  Holed is = map (holed_item picked) is

  item_by : (x : Plain) (is : List Item) (v : Bool) → option_or (if v then Some x else None) (first_passing p is) ≡ Some old
      → (first_passing p is ≡ Some old → Holed (items_with p new is) ≡ Holed is)
      → Holed (if v then plain new ∷ is else plain x ∷ items_with p new is) ≡ holed_item picked (plain x) ∷ Holed is
  item_by x is true at h = ap (λ (y : Plain). plain y ∷ Holed is) (here x at)
  item_by x is false at h = ap (λ (l : List Item). holed_item picked (plain x) ∷ l) (h at)

  group_by : (xs : List Plain) (is : List Item) (o : Option Plain) → first_in p xs ≡ o → option_or o (first_passing p is) ≡ Some old
      → (first_passing p is ≡ Some old → Holed (items_with p new is) ≡ Holed is)
      → Holed (if is_some o then backward (plains_with p new xs) ∷ is else backward xs ∷ items_with p new is) ≡ holed_item picked (backward xs) ∷ Holed is
  group_by xs is (Some x) e at h = ap (λ (l : List Plain). backward l ∷ Holed is) (plains_agree xs (e ∙ at))
  group_by xs is None e at h = ap (λ (l : List Item). holed_item picked (backward xs) ∷ l) (h at)

  pub items_agree : (is : List Item) → first_passing p is ≡ Some old → Holed (items_with p new is) ≡ Holed is
  items_agree [] at = refl
  items_agree (plain x ∷ is) at = item_by x is (p x) at (items_agree is)
  items_agree (backward xs ∷ is) at =
      ap (λ (v : Bool). Holed (if v then backward (plains_with p new xs) ∷ is else backward xs ∷ items_with p new is)) (there xs)
      ∙ group_by xs is (first_in p xs) refl at (items_agree is)

-- ---- edits

-- with the routine replaced, or with its k-th among replaced, a body is the same
pub whole_same : (n : List ℕ) (b new : RowView) → holed_plain (same_item (Routine n)) (routine n new.0 new.1) ≡ holed_plain (same_item (Routine n)) (routine n b.0 b.1)
whole_same n b new =
    let gone = λ (x : RowView). ap
    (λ (v : Bool). if v then routine n (bracket no_rows) no_others else routine n (with_holes (λ k. same_item (Routine n) (Among n k)) 0 x.0) (others_with_holes (λ k. same_item (Routine n) (Among n k)) (number_after x.0 0) x.1))
    (same_bytes n) in
    gone new ∙ sym (gone b)

pub among_same : (n : List ℕ) (k : ℕ) (b : RowView) (a : Starter × Groups) (h : AmongContents) → nth_held k (amongs_of_body b) ≡ Some h → count_in_among a ≡ count_in_among (h.1, h.2)
    → holed_plain (same_item (Among n k)) (routine n (put_in_body b k a).0 (put_in_body b k a).1) ≡ holed_plain (same_item (Among n k)) (routine n b.0 b.1)
among_same n k b a h at count =
    let x = body_put k a (λ j. bytes_eq n n && nat_eq k j) (λ j. ap (λ (v : Bool). v && nat_eq k j) (same_bytes n)) b h at count in
    (λ i. routine n (x.first i) (x.others i))

-- a grouping is changed with itself, so its terms are of no matter
terms_same : (s : Source) (n : List ℕ) (a b : Argument) (xs ys : List Term) → holed_plain (is_affected_by s (Grouping n)) (grouping n a xs) ≡ holed_plain (is_affected_by s (Grouping n)) (grouping n b ys)
terms_same s n a b xs ys =
    let own : is_member (built_from n s) n ≡ true = built_more (in_order s.items) (n ∷ []) n (ap (λ (v : Bool). if v then true else false) (same_bytes n)) in
    let gone = λ (c : Argument) (zs : List Term). ap (λ (v : Bool). if v then grouping n (written_out nothing) [] else grouping n c zs) own in
    gone a xs ∙ sym (gone b ys)

-- the script with another item in the place of one
script_agree : (picked : Part' → Bool) (s t : Source) (p : Plain → Bool) (new old : Plain) → holed_plain picked new ≡ holed_plain picked old → first_passing p s.items ≡ Some old
    → t.items ≡ items_with p new s.items → t.external ≡ s.external → AgreeOutside picked s t
script_agree picked s t p new old same at items external =
    let is : map (holed_item picked) s.items ≡ map (holed_item picked) t.items = sym (items_agree picked p new old same s.items at) ∙ ap (map (holed_item picked)) (sym items) in
    (λ i. record { items = is i; external = sym external i })

-- a home that there is, by what is found in the script
body_agree : (s t : Source) (n text : List ℕ) (b : RowView) (h : Home) → first_passing (is_routine_named n) s.items ≡ Some (routine n b.0 b.1) → home_of_body s.items n ≡ h → IsSubstitutedAt s h text true t
    → AgreeOutside (same_item (Routine n)) s t
body_agree s t n text b h at is =
    subst (λ h. IsSubstitutedAt s h text true t → AgreeOutside (same_item (Routine n)) s t) is
    (λ (z : IsSubstitutedAt s (home_of_body s.items n) text true t).
    script_agree (same_item (Routine n)) s t (is_routine_named n) (routine n z.tree.0 z.tree.1) (routine n b.0 b.1) (whole_same n b z.tree) at z.items_are z.external_is)

among_agree : (s t : Source) (n : List ℕ) (k : ℕ) (text : List ℕ) (b : RowView) (g : AmongContents) (h : Home) → first_passing (is_routine_named n) s.items ≡ Some (routine n b.0 b.1) → nth_held k (amongs_of_body b) ≡ Some g
    → home_of_among s.items n b k g ≡ h → IsSubstitutedAt s h text true t → AgreeOutside (same_item (Among n k)) s t
among_agree s t n k text b g h at there is =
    subst (λ h. IsSubstitutedAt s h text true t → AgreeOutside (same_item (Among n k)) s t) is
    (λ (z : IsSubstitutedAt s (home_of_among s.items n b k g) text true t).
    script_agree (same_item (Among n k)) s t (is_routine_named n) (routine n (put_in_body b k z.tree).0 (put_in_body b k z.tree).1) (routine n b.0 b.1)
    (among_same n k b z.tree g there (eqb-true _ _ z.counted)) at z.items_are z.external_is)

among_by : (s t : Source) (n : List ℕ) (k : ℕ) (text : List ℕ) (b : RowView) (h : Home) → first_passing (is_routine_named n) s.items ≡ Some (routine n b.0 b.1) → (o : Option AmongContents) → nth_held k (amongs_of_body b) ≡ o
    → home_of_held s.items n b k o ≡ Ok h → IsSubstitutedAt s h text true t → AgreeOutside (same_item (Among n k)) s t
among_by s t n k text b h at None there is = let never : home_of_held s.items n b k None ≡ Ok h = is in absurd cc
among_by s t n k text b h at (Some g) there is = let same : home_of_among s.items n b k g ≡ h = cc in among_agree s t n k text b g h at there same

terms_agree : (s t : Source) (n text : List ℕ) (a : Argument) (xs : List Term) (h : Home) → first_passing (is_grouping_named n) s.items ≡ Some (grouping n a xs) → home_of_terms s.items n ≡ h → IsSubstitutedAt s h text true t
    → AgreeOutside (is_affected_by s (Grouping n)) s t
terms_agree s t n text a xs h at is =
    subst (λ h. IsSubstitutedAt s h text true t → AgreeOutside (is_affected_by s (Grouping n)) s t) is
    (λ (z : IsSubstitutedAt s (home_of_terms s.items n) text true t).
    script_agree (is_affected_by s (Grouping n)) s t (is_grouping_named n) (grouping n z.tree.0 z.tree.1) (grouping n a xs) (terms_same s n z.tree.0 a z.tree.1 xs) at z.items_are z.external_is)

-- ---- what is found is in the script

or_more : {A : Type 0} (a b c : Option A) → option_or a (option_or b c) ≡ option_or (option_or a b) c
or_more (Some x) b c = refl
or_more None b c = refl

module _ (n : List ℕ) (k : DeclarationKind) (p : Plain → Bool) (own : (x : Plain) → p x ≡ true → (rest : List (List ℕ)) → is_member (names_by k x ++ rest) n ≡ true)
    (more : (x : Plain) (rest : List (List ℕ)) → is_member rest n ≡ true → is_member (names_by k x ++ rest) n ≡ true) where
  plain_known : (x : Plain) (v : Bool) → p x ≡ v → (o : Option Plain) (old : Plain) → option_or (if v then Some x else None) o ≡ Some old → (rest : List (List ℕ)) → (o ≡ Some old → is_member rest n ≡ true)
      → is_member (names_by k x ++ rest) n ≡ true
  plain_known x true e o old is rest later = own x e rest
  plain_known x false e o old is rest later = more x rest (later is)

  plains_known : (xs : List Plain) (o : Option Plain) (old : Plain) → option_or (first_in p xs) o ≡ Some old → (ys : List ItemInMode) → (o ≡ Some old → is_member (known_in ys k) n ≡ true)
      → is_member (known_in (in_mode Backward xs ++ ys) k) n ≡ true
  plains_known [] o old is ys later = later is
  plains_known (x ∷ xs) o old is ys later =
      plain_known x (p x) refl (option_or (first_in p xs) o) old (or_more (plain_if p x) (first_in p xs) o ∙ is) (known_in (in_mode Backward xs ++ ys) k) (λ g. plains_known xs o old g ys later)

  items_known : (is : List Item) (old : Plain) → first_passing p is ≡ Some old → is_member (known_in (in_order is) k) n ≡ true
  items_known [] old h = let never : None ≡ Some old = h in absurd cc
  items_known (plain x ∷ is) old h = plain_known x (p x) refl (first_passing p is) old h (known_in (in_order is) k) (λ g. items_known is old g)
  items_known (backward xs ∷ is) old h = plains_known xs (first_passing p is) old h (in_order is) (λ g. items_known is old g)

pub first_name : (n m : List ℕ) (rest : List (List ℕ)) → bytes_eq n m ≡ true → is_member (m ∷ rest) n ≡ true
first_name n m rest e = ap (λ (v : Bool). if v then true else is_member rest n) (flip n m e)

later_name : (n m : List ℕ) (rest : List (List ℕ)) → is_member rest n ≡ true → is_member (m ∷ rest) n ≡ true
later_name n m rest h = by (bytes_eq m n)
  where
    by : (v : Bool) → (if v then true else is_member rest n) ≡ true
    by true = refl
    by false = h

routine_own : (n : List ℕ) (x : Plain) → is_routine_named n x ≡ true → (rest : List (List ℕ)) → is_member (names_by kinds.Routines x ++ rest) n ≡ true
routine_own n (routine m c os) e rest = first_name n m rest e
routine_own n _ e rest = absurd (true≢false (sym e))

pub routine_more : (n : List ℕ) (x : Plain) (rest : List (List ℕ)) → is_member rest n ≡ true → is_member (names_by kinds.Routines x ++ rest) n ≡ true
routine_more n (routine m c os) rest h = later_name n m rest h
routine_more n _ rest h = h

grouping_own : (n : List ℕ) (x : Plain) → is_grouping_named n x ≡ true → (rest : List (List ℕ)) → is_member (names_by kinds.Groupings x ++ rest) n ≡ true
grouping_own n (grouping m a ts) e rest = first_name n m rest e
grouping_own n _ e rest = absurd (true≢false (sym e))

pub grouping_more : (n : List ℕ) (x : Plain) (rest : List (List ℕ)) → is_member rest n ≡ true → is_member (names_by kinds.Groupings x ++ rest) n ≡ true
grouping_more n (grouping m a ts) rest h = later_name n m rest h
grouping_more n _ rest h = h

routine_known : (n : List ℕ) (is : List Item) (x : Plain) → first_passing (is_routine_named n) is ≡ Some x → is_member (known_in (in_order is) kinds.Routines) n ≡ true
routine_known n is x at = items_known n kinds.Routines (is_routine_named n) (routine_own n) (routine_more n) is x at

grouping_known : (n : List ℕ) (is : List Item) (x : Plain) → first_passing (is_grouping_named n) is ≡ Some x → is_member (known_in (in_order is) kinds.Groupings) n ≡ true
grouping_known n is x at = items_known n kinds.Groupings (is_grouping_named n) (grouping_own n) (grouping_more n) is x at

-- ---- an edit, by what is found in the script

abbrev Edited : Source → Source → Part' → Type 0
Edited s t e = AgreeOutside (is_affected_by s e) s t × (has_item (names_of s) e ≡ true)

edit_by : (s t : Source) (e : Part') (text : List ℕ) (h : Home) (o : Option Plain) → first_passing (changes e) s.items ≡ o → home_in s.items o e ≡ Ok h → IsSubstitutedAt s h text true t → Edited s t e
edit_by s t (body n) text h (Some (routine m c os)) at is z =
    let same : home_of_body s.items n ≡ h = cc in
    (body_agree s t n text (c, os) h (routine_found n s.items m c os at) same z, routine_known n s.items (routine m c os) at)
edit_by s t (among n k) text h (Some (routine m c os)) at is z =
    (among_by s t n k text (c, os) h (routine_found n s.items m c os at) (nth_held k (amongs_of_body (c, os))) refl is z, routine_known n s.items (routine m c os) at)
edit_by s t (terms n) text h (Some (grouping m a ts)) at is z =
    let same : home_of_terms s.items n ≡ h = cc in
    (terms_agree s t n text a ts h (grouping_found n s.items m a ts at) same z, grouping_known n s.items (grouping m a ts) at)
edit_by s t (body n) text h None at is z = let never : home_in s.items None (body n) ≡ Ok h = is in absurd cc
edit_by s t (body n) text h (Some (declaration k2 ns)) at is z = let never : home_in s.items (Some (declaration k2 ns)) (body n) ≡ Ok h = is in absurd cc
edit_by s t (body n) text h (Some (escapes x y)) at is z = let never : home_in s.items (Some (escapes x y)) (body n) ≡ Ok h = is in absurd cc
edit_by s t (body n) text h (Some (macro m x y)) at is z = let never : home_in s.items (Some (macro m x y)) (body n) ≡ Ok h = is in absurd cc
edit_by s t (body n) text h (Some (grouping m a ts)) at is z = let never : home_in s.items (Some (grouping m a ts)) (body n) ≡ Ok h = is in absurd cc
edit_by s t (among n k) text h None at is z = let never : home_in s.items None (among n k) ≡ Ok h = is in absurd cc
edit_by s t (among n k) text h (Some (declaration k2 ns)) at is z = let never : home_in s.items (Some (declaration k2 ns)) (among n k) ≡ Ok h = is in absurd cc
edit_by s t (among n k) text h (Some (escapes x y)) at is z = let never : home_in s.items (Some (escapes x y)) (among n k) ≡ Ok h = is in absurd cc
edit_by s t (among n k) text h (Some (macro m x y)) at is z = let never : home_in s.items (Some (macro m x y)) (among n k) ≡ Ok h = is in absurd cc
edit_by s t (among n k) text h (Some (grouping m a ts)) at is z = let never : home_in s.items (Some (grouping m a ts)) (among n k) ≡ Ok h = is in absurd cc
edit_by s t (terms n) text h None at is z = let never : home_in s.items None (terms n) ≡ Ok h = is in absurd cc
edit_by s t (terms n) text h (Some (declaration k2 ns)) at is z = let never : home_in s.items (Some (declaration k2 ns)) (terms n) ≡ Ok h = is in absurd cc
edit_by s t (terms n) text h (Some (escapes x y)) at is z = let never : home_in s.items (Some (escapes x y)) (terms n) ≡ Ok h = is in absurd cc
edit_by s t (terms n) text h (Some (macro m x y)) at is z = let never : home_in s.items (Some (macro m x y)) (terms n) ≡ Ok h = is in absurd cc
edit_by s t (terms n) text h (Some (routine m c os)) at is z = let never : home_in s.items (Some (routine m c os)) (terms n) ≡ Ok h = is in absurd cc

pub edits_agree : EditsAgree
edits_agree s t e text edited =
    let z = edited_in s e text t edited in
    (edit_by s t e text z.0 (first_passing (changes e) s.items) refl z.1 z.2).0

pub edited_are_there : EditedAreThere
edited_are_there s t e text edited =
    let z = edited_in s e text t edited in
    (edit_by s t e text z.0 (first_passing (changes e) s.items) refl z.1 z.2).1

pub names_stay : NamesStay
names_stay s t e text edited = agree_names (is_affected_by s e) s t (edits_agree s t e text edited)

pub agreeing_names_stay : AgreeingNamesStay
agreeing_names_stay picked s t agree = agree_names picked s t agree

pub clear_stay : ClearStay
unfolding touches_of
clear_stay picked s t closed agree word limit clear =
    let names = names_of s in
    let run = ending s word limit in
    let same = frame_on picked s t closed agree word limit (sym (clear_by_names picked names run) ∙ sym (any-mapped (item_of_touch names) picked (touched_at run)) ∙ clear) in
    record { alike = alike_by s t word limit (agree_names picked s t agree) same; touches = ap touched_at same }

pub unmet_stay : WellDeclaredPasses → UnmetStay
unfolding meets
unmet_stay passes x s t well agree word limit clear = clear_stay (is_affected_by s x) s t (affected_closed passes s well x) agree word limit clear

pub unmet_by_one_stay : WellDeclaredPasses → UnmetByOneStay
unfolding meets_one
unmet_by_one_stay passes xs s t well agree word limit clear = clear_stay (affected_by s xs) s t (several_closed passes s well xs) agree word limit clear

pub untouched_stay : WellDeclaredPasses → UntouchedStay
untouched_stay passes s t e text well edited word limit clear = unmet_stay passes e s t well (edits_agree s t e text edited) word limit clear
