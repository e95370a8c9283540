-- Holes leave a script its names, each routine its own body with holes, and what is closed.
use Rattle.std.proofs.Common.{◌≡◌, ◌∙◌, ℕ, suc, Bool, true, false, List, [], ◌∷◌, ◌++◌, map, Option, Some, None, option_map, refl, sym, ap, subst}
use Rattle.std.specs.Prelude.{◌↔◌, if◌then◌else◌, slice_index_or}
use Rattle.std.specs.List.{AllByRecursion}
use Rattle.std.specs.Str.{bytes_eq}
use Rattle.std.proofs.lemmas.Slice.Eq.{bytes_eq-Decides}
use Rattle.std.proofs.lemmas.Bool.{true≢false}
use Rattle.std.proofs.Math.Path.{fun_ext}
use Rattle.sbl_ast.specs.Order.{ItemInMode, in_order}
use Rattle.sbl_ast.specs.inside.OrderParts.{in_mode}
use Rattle.sbl_ast.specs.declared.tree.DeclarationKind.{DeclarationKind}
use Rattle.sbl_ast.specs.declared.tree.DeclarationKind.TheVariants as kinds
use Rattle.sbl_ast.specs.Tree.{Command, Others, Argument, written_out, Term, Plain, Item, bracket, no_rows, no_others, routine, grouping, plain, backward}
use Rattle.sbl_ast.specs.declared.mode.Mode.{Mode}
use Rattle.sbl_ast.specs.declared.mode.Mode.TheVariants.{Forward, Backward}
use Rattle.sbl_semantics.specs.Items.{DeclaredNames, is_member, place_of, names_by, known_in, Body, body_or, body_named}
use Rattle.sbl_semantics.specs.Regions.{number_after}
use Rattle.sbl_machine.specs.BuiltFrom.{IsClosed, IsClosedAt}
use Rattle.sbl_machine.specs.Holes.{nothing, with_holes, others_with_holes, holed_plain, holed_item, holed_script}
use Rattle.sbl_semantics.specs.TouchedItems.{names_of}
use Rattle.sbl_ast.specs.NamedParts.{Part', Routine, Among, Grouping}
use Rattle.sbl_ast.specs.Source.{Source}

module _ (picked : Part' → Bool) where
  abbrev pub holed_in_mode : ItemInMode → ItemInMode
  holed_in_mode x = record { mode = x.mode; plain = holed_plain picked x.plain }

  abbrev pub holed_items : List ItemInMode → List ItemInMode
  holed_items xs = map holed_in_mode xs

  mode_holed : (m : Mode) (xs : List Plain) (rest : List ItemInMode) → in_mode m (map (holed_plain picked) xs) ++ holed_items rest ≡ holed_items (in_mode m xs ++ rest)
  mode_holed m [] rest = refl
  mode_holed m (x ∷ xs) rest = ap (λ (l : List ItemInMode). (record { mode = m; plain = holed_plain picked x }) ∷ l) (mode_holed m xs rest)

  pub order_holed : (is : List Item) → in_order (map (holed_item picked) is) ≡ holed_items (in_order is)
  order_holed [] = refl
  order_holed (plain x ∷ is) = ap (λ (l : List ItemInMode). holed_in_mode (record { mode = Forward; plain = x }) ∷ l) (order_holed is)
  order_holed (backward xs ∷ is) = ap (λ (l : List ItemInMode). in_mode Backward (map (holed_plain picked) xs) ++ l) (order_holed is) ∙ mode_holed Backward xs (in_order is)

  -- ---- names

  either_way : {A : Type 0} (b : Bool) (f : Plain → A) (x y : Plain) (z : A) → f x ≡ z → f y ≡ z → f (if b then x else y) ≡ z
  either_way true f x y z p q = p
  either_way false f x y z p q = q

  routine_by : (k : DeclarationKind) (n : List ℕ) (c c' : Command) (os os' : Others) → names_by k (routine n c os) ≡ names_by k (routine n c' os')
  routine_by kinds.Strings n c c' os os' = refl
  routine_by _ n c c' os os' = refl

  grouping_by : (k : DeclarationKind) (n : List ℕ) (a a' : Argument) (ts ts' : List Term) → names_by k (grouping n a ts) ≡ names_by k (grouping n a' ts')
  grouping_by kinds.Strings n a a' ts ts' = refl
  grouping_by _ n a a' ts ts' = refl

  plain_names : (k : DeclarationKind) (x : Plain) → names_by k (holed_plain picked x) ≡ names_by k x
  plain_names k (routine n c os) = either_way (picked (Routine n)) (names_by k) _ _ (names_by k (routine n c os)) (routine_by k n _ c _ os) (routine_by k n _ c _ os)
  plain_names k (grouping n a ts) = either_way (picked (Grouping n)) (names_by k) _ _ (names_by k (grouping n a ts)) (grouping_by k n _ a _ ts) refl
  plain_names k _ = refl

  names_by_kind : (xs : List ItemInMode) (k : DeclarationKind) → known_in (holed_items xs) k ≡ known_in xs k
  names_by_kind [] k = refl
  names_by_kind (x ∷ xs) k = ap (λ l. names_by k (holed_plain picked x.plain) ++ l) (names_by_kind xs k) ∙ ap (λ l. l ++ known_in xs k) (plain_names k x.plain)

  pub known_same : (xs : List ItemInMode) → known_in (holed_items xs) ≡ known_in xs
  known_same xs = fun_ext (names_by_kind xs)

  pub names_same : (s : Source) → names_of (holed_script picked s) ≡ names_of s
  names_same s =
      ap (λ (known : DeclaredNames). record { routines = known kinds.Routines; groupings = known kinds.Groupings })
      (ap known_in (order_holed s.items) ∙ known_same (in_order s.items))

  -- ---- what is closed

  routine_closed : (n : List ℕ) (c c' : Command) (os os' : Others) (b : Bool) → IsClosedAt picked (if b then routine n c os else routine n c' os')
  routine_closed n c c' os os' true = tt
  routine_closed n c c' os os' false = tt

  grouping_closed : (n : List ℕ) (a : Argument) (ts : List Term) (b : Bool) → picked (Grouping n) ≡ b
      → IsClosedAt picked (if b then grouping n (written_out nothing) [] else grouping n a ts) ↔ IsClosedAt picked (grouping n a ts)
  grouping_closed n a ts true c = (λ h e. c, λ h e. c)
  grouping_closed n a ts false c = (λ h. h, λ h. h)

  -- an item and the same with holes
  closed_plain : (x : Plain) → IsClosedAt picked (holed_plain picked x) ↔ IsClosedAt picked x
  closed_plain (routine n c os) = (λ h. tt, λ h. routine_closed n _ _ _ _ (picked (Routine n)))
  closed_plain (grouping n a ts) = grouping_closed n a ts (picked (Grouping n)) refl
  closed_plain _ = (λ h. tt, λ h. tt)

  abbrev AreClosed : List ItemInMode → Type 0
  AreClosed xs = AllByRecursion (λ x. IsClosedAt picked x.plain) xs

  items_closed : (xs : List ItemInMode) → AreClosed (holed_items xs) ↔ AreClosed xs
  items_closed [] = (λ h. tt, λ h. tt)
  items_closed (x ∷ xs) =
      let one = closed_plain x.plain in
      let rest = items_closed xs in
      (λ h. (one.0 h.0, rest.0 h.1), λ h. (one.1 h.0, rest.1 h.1))

  -- a script and the same with holes
  pub closed_holed : (s : Source) → IsClosed picked s → IsClosed picked (holed_script picked s)
  closed_holed s h = subst AreClosed (sym (order_holed s.items)) ((items_closed (in_order s.items)).1 h)

  pub closed_of_holed : (s : Source) → IsClosed picked (holed_script picked s) → IsClosed picked s
  closed_of_holed s h = (items_closed (in_order s.items)).0 (subst AreClosed (order_holed s.items) h)

  -- ---- bodies

  abbrev pub hole_of : Bool → List ℕ → Body → Body
  hole_of true n b = record { mode = b.mode; first = bracket no_rows; others = no_others }
  hole_of false n b = record {
    mode = b.mode;
    first = with_holes (λ k. picked (Among n k)) 0 b.first;
    others = others_with_holes (λ k. picked (Among n k)) (number_after b.first 0) b.others;
  }

  -- the body of the routine of this name, with holes
  abbrev pub holed_body : List ℕ → Body → Body
  holed_body n b = hole_of (picked (Routine n)) n b

  abbrev body_by : Mode → List ℕ → Command → Others → Body
  body_by m n c os = record { mode = m; first = c; others = os }

  holed_or : (m : Mode) (r n : List ℕ) (c : Command) (os : Others) (rest : Option Body) (b : Bool)
      → body_or m (if b then routine r (bracket no_rows) no_others else routine r (with_holes (λ k. picked (Among r k)) 0 c) (others_with_holes (λ k. picked (Among r k)) (number_after c 0) os)) n rest
      ≡ (if bytes_eq r n then Some (hole_of b r (body_by m r c os)) else rest)
  holed_or m r n c os rest true = refl
  holed_or m r n c os rest false = refl

  one_body : (r n : List ℕ) (x : Body) (rest : Option Body) (b : Bool) → bytes_eq r n ≡ b → (if b then Some (holed_body r x) else option_map (holed_body n) rest) ≡ option_map (holed_body n) (if b then Some x else rest)
  one_body r n x rest true e = ap (λ (l : List ℕ). Some (holed_body l x)) ((bytes_eq-Decides r n).0 e)
  one_body r n x rest false e = refl

  item_body : (m : Mode) (x : Plain) (n : List ℕ) (rest : Option Body) → body_or m (holed_plain picked x) n (option_map (holed_body n) rest) ≡ option_map (holed_body n) (body_or m x n rest)
  item_body m (routine r c os) n rest = holed_or m r n c os (option_map (holed_body n) rest) (picked (Routine r)) ∙ one_body r n (body_by m r c os) rest (bytes_eq r n) refl
  item_body m (grouping y a ts) n rest = either_way (picked (Grouping y)) (λ x. body_or m x n (option_map (holed_body n) rest)) _ _ (option_map (holed_body n) rest) refl refl
  item_body m _ n rest = refl

  pub bodies_holed : (xs : List ItemInMode) (n : List ℕ) → body_named (holed_items xs) n ≡ option_map (holed_body n) (body_named xs n)
  bodies_holed [] n = refl
  bodies_holed (x ∷ xs) n = ap (body_or x.mode (holed_plain picked x.plain) n) (bodies_holed xs n) ∙ item_body x.mode x.plain n (body_named xs n)

-- ---- the place of a routine that there is gives its name

-- where a routine of this name is one of some items, its place among their names has its name
abbrev Stands : List ItemInMode → List ℕ → Type 0
Stands xs n = (b : Body) → body_named xs n ≡ Some b → slice_index_or (known_in xs kinds.Routines) (place_of (known_in xs kinds.Routines) n) [] ≡ n

stands_first : (r n : List ℕ) (x : Body) (xs : List ItemInMode) → Stands xs n → (b : Bool) → bytes_eq r n ≡ b → (y : Body) → (if b then Some x else body_named xs n) ≡ Some y
    → slice_index_or (r ∷ known_in xs kinds.Routines) (if b then 0 else suc (place_of (known_in xs kinds.Routines) n)) [] ≡ n
stands_first r n x xs h true e y is = (bytes_eq-Decides r n).0 e
stands_first r n x xs h false e y is = h y is

stands_item : (m : Mode) (x : Plain) (n : List ℕ) (xs : List ItemInMode) → Stands xs n → (y : Body) → body_or m x n (body_named xs n) ≡ Some y
    → slice_index_or (names_by kinds.Routines x ++ known_in xs kinds.Routines) (place_of (names_by kinds.Routines x ++ known_in xs kinds.Routines) n) [] ≡ n
stands_item m (routine r c os) n xs h y is = stands_first r n (record { mode = m; first = c; others = os }) xs h (bytes_eq r n) refl y is
stands_item m _ n xs h y is = h y is

pub name_stands : (xs : List ItemInMode) (n : List ℕ) (b : Body) → body_named xs n ≡ Some b → slice_index_or (known_in xs kinds.Routines) (place_of (known_in xs kinds.Routines) n) [] ≡ n
name_stands [] n b is = let never : None ≡ Some b = is in absurd cc
name_stands (x ∷ xs) n b is = stands_item x.mode x.plain n xs (name_stands xs n) b is

-- a name that is one of some is at its place among them
pub place_names : (xs : List (List ℕ)) (n : List ℕ) → is_member xs n ≡ true → slice_index_or xs (place_of xs n) [] ≡ n
place_names [] n h = absurd (true≢false (sym h))
place_names (x ∷ xs) n h = at (bytes_eq x n) refl h (place_names xs n)
  where
    at : (b : Bool) → bytes_eq x n ≡ b → (if b then true else is_member xs n) ≡ true → (is_member xs n ≡ true → slice_index_or xs (place_of xs n) [] ≡ n) → slice_index_or (x ∷ xs) (if b then 0 else suc (place_of xs n)) [] ≡ n
    at true e k rest = (bytes_eq-Decides x n).0 e
    at false e k rest = rest k
