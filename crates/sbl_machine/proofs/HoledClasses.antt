-- With holes in the place of what is closed, each grouping that is not picked has the same characters.
use Rattle.std.proofs.Common.{◌≡◌, ◌∙◌, ◌||◌, ◌&&◌, not, ℕ, Bool, true, false, List, [], ◌∷◌, ◌++◌, map, refl, sym, ap}
use Rattle.std.specs.Prelude.{if◌then◌else◌, ⊤}
use Rattle.std.specs.List.{AllByRecursion}
use Rattle.std.specs.Str.{bytes_eq}
use Rattle.std.proofs.lemmas.Bool.{true≢false}
use Rattle.std.proofs.lemmas.Slice.Eq.{bytes_eq-Decides}
use Rattle.std.proofs.Math.Path.{fun_ext}
use Rattle.sbl_ast.specs.Order.{ItemInMode}
use Rattle.sbl_ast.specs.declared.tree.Additive.TheVariants.{Plus, Minus}
use Rattle.sbl_ast.specs.declared.tree.DeclarationKind.TheVariants as kinds
use Rattle.sbl_ast.specs.Tree.{Command, Others, Argument, written_out, by_name, Term, term, Plain, routine, grouping}
use Rattle.sbl_semantics.specs.Items.{Grouping, and_grouping, char_class_of, classes_after, is_member, known_in, term_has, terms_have}
use Rattle.sbl_machine.specs.BuiltFrom.{any_names, IsClosedAt}
use Rattle.sbl_machine.specs.inside.BuiltFromParts.{names}
use Rattle.sbl_machine.specs.inside.BuiltFromParts.{built_on}
use Rattle.sbl_machine.specs.Holes.{nothing, holed_plain}
use Rattle.sbl_ast.specs.NamedParts.{Part', Routine}
use Rattle.sbl_ast.specs.NamedParts as items
use Rattle.sbl_machine.proofs.Groupings.{name_of, class_names}
use Rattle.sbl_machine.proofs.HoledScripts.{holed_items}

no_or : (a b : Bool) → (a || b) ≡ false → (a ≡ false) × (b ≡ false)
no_or true b h = absurd (true≢false h)
no_or false b h = (refl, h)

not_so : (b c : Bool) → (b ≡ true → c ≡ true) → c ≡ false → b ≡ false
not_so true c f e = absurd (true≢false (sym (f refl) ∙ e))
not_so false c f e = refl

-- ---- a name that is none of some groupings

none_has : (gs : List Grouping) (n : List ℕ) (c : ℕ) → is_member (map name_of gs) n ≡ false → char_class_of gs n c ≡ false
none_has [] n c h = refl
none_has (g ∷ gs) n c h = at (bytes_eq g.name n) h (none_has gs n c)
  where
    at : (b : Bool) → (if b then true else is_member (map name_of gs) n) ≡ false → (is_member (map name_of gs) n ≡ false → char_class_of gs n c ≡ false) → (if b then g.has c else char_class_of gs n c) ≡ false
    at true k rest = absurd (true≢false k)
    at false k rest = rest k

pub no_class : (xs : List ItemInMode) (n : List ℕ) (c : ℕ) → is_member (known_in xs kinds.Groupings) n ≡ false → char_class_of (classes_after xs []) n c ≡ false
no_class xs n c h = none_has (classes_after xs []) n c (ap (λ l. is_member l n) (class_names xs []) ∙ h)

-- ---- groupings beside those of the same items with holes

module _ (picked : Part' → Bool) where
  abbrev is_picked : List ℕ → Bool
  is_picked n = picked (items.Grouping n)

  -- two groupings of one name, which have the same unless it is picked
  record Like (g g' : Grouping) : Type 0 where
    name : g'.name ≡ g.name
    has : is_picked g.name ≡ false → (c : ℕ) → g'.has c ≡ g.has c

  -- groupings beside others
  AllLike : List Grouping → List Grouping → Type 0
  AllLike [] [] = ⊤
  AllLike [] (g' ∷ gs') = ⊥
  AllLike (g ∷ gs) [] = ⊥
  AllLike (g ∷ gs) (g' ∷ gs') = Like g g' × AllLike gs gs'

  more_like : (gs gs' : List Grouping) (g g' : Grouping) → AllLike gs gs' → Like g g' → AllLike (gs ++ g ∷ []) (gs' ++ g' ∷ [])
  unfolding AllLike
  more_like [] [] g g' h l = (l, tt)
  more_like [] (f' ∷ fs') g g' h l = absurd h
  more_like (f ∷ fs) [] g g' h l = absurd h
  more_like (f ∷ fs) (f' ∷ fs') g g' h l = (h.0, more_like fs fs' g g' h.1 l)

  class_like : (gs gs' : List Grouping) → AllLike gs gs' → (n : List ℕ) → is_picked n ≡ false → (c : ℕ) → char_class_of gs' n c ≡ char_class_of gs n c
  unfolding AllLike
  class_like [] [] h n e c = refl
  class_like [] (g' ∷ gs') h n e c = absurd h
  class_like (g ∷ gs) [] h n e c = absurd h
  class_like (g ∷ gs) (g' ∷ gs') h n e c =
      ap (λ (m : List ℕ). if bytes_eq m n then g'.has c else char_class_of gs' n c) h.0.name
      ∙ by (bytes_eq g.name n) refl
      ∙ ap (λ (b : Bool). if bytes_eq g.name n then g.has c else b) (class_like gs gs' h.1 n e c)
    where
      by : (b : Bool) → bytes_eq g.name n ≡ b → (if b then g'.has c else char_class_of gs' n c) ≡ (if b then g.has c else char_class_of gs' n c)
      by true k = h.0.has (ap is_picked ((bytes_eq-Decides g.name n).0 k) ∙ e) c
      by false k = refl

  module _ (gs gs' : List Grouping) (h : AllLike gs gs') (c : ℕ) where
    term_like : (a : Argument) → names is_picked a ≡ false → term_has gs' a c ≡ term_has gs a c
    term_like (written_out q) e = refl
    term_like (by_name n) e = class_like gs gs' h n e c

    terms_like : (ts : List Term) → any_names is_picked ts ≡ false → (b b' : Bool) → b' ≡ b → terms_have gs' ts b' c ≡ terms_have gs ts b c
    terms_like [] e b b' p = p
    terms_like (term Plus a ∷ ts) e b b' p =
        let d = no_or (names is_picked a) (any_names is_picked ts) e in
        terms_like ts d.1 _ _ (ap (λ x. x || term_has gs' a c) p ∙ ap (λ x. b || x) (term_like a d.0))
    terms_like (term Minus a ∷ ts) e b b' p =
        let d = no_or (names is_picked a) (any_names is_picked ts) e in
        terms_like ts d.1 _ _ (ap (λ x. x && not (term_has gs' a c)) p ∙ ap (λ x. b && not x) (term_like a d.0))

  -- ---- items and the same with holes

  abbrev of_terms : List Grouping → List ℕ → Argument → List Term → Grouping
  of_terms gs n a ts = record { name = n; has = λ c. terms_have gs ts (term_has gs a c) c }

  kept_like : (gs gs' : List Grouping) → AllLike gs gs' → (n : List ℕ) (a : Argument) (ts : List Term) → (built_on is_picked a ts ≡ true → is_picked n ≡ true) → Like (of_terms gs n a ts) (of_terms gs' n a ts)
  kept_like gs gs' h n a ts closed =
      record {
        name = refl;
        has = λ e c.
            let d = no_or (names is_picked a) (any_names is_picked ts) (not_so (built_on is_picked a ts) (is_picked n) closed e) in
            terms_like gs gs' h c ts d.1 _ _ (term_like gs gs' h c a d.0);
      }

  hole_like : (gs gs' : List Grouping) (n : List ℕ) (a a' : Argument) (ts ts' : List Term) → is_picked n ≡ true → Like (of_terms gs n a ts) (of_terms gs' n a' ts')
  hole_like gs gs' n a a' ts ts' e = record { name = refl; has = λ no c. absurd (true≢false (sym e ∙ no)) }

  grouping_like : (gs gs' : List Grouping) → AllLike gs gs' → (n : List ℕ) (a : Argument) (ts : List Term) → IsClosedAt picked (grouping n a ts) → (b : Bool) → is_picked n ≡ b
      → AllLike (and_grouping (grouping n a ts) gs) (and_grouping (if b then grouping n (written_out nothing) [] else grouping n a ts) gs')
  grouping_like gs gs' h n a ts closed true e = more_like gs gs' _ _ h (hole_like gs gs' n a (written_out nothing) ts [] e)
  grouping_like gs gs' h n a ts closed false e = more_like gs gs' _ _ h (kept_like gs gs' h n a ts closed)

  routine_like : (gs gs' : List Grouping) → AllLike gs gs' → (n : List ℕ) (c c' : Command) (os os' : Others) (b : Bool) → AllLike gs (and_grouping (if b then routine n c os else routine n c' os') gs')
  routine_like gs gs' h n c c' os os' true = h
  routine_like gs gs' h n c c' os os' false = h

  plain_like : (gs gs' : List Grouping) → AllLike gs gs' → (x : Plain) → IsClosedAt picked x → AllLike (and_grouping x gs) (and_grouping (holed_plain picked x) gs')
  plain_like gs gs' h (grouping n a ts) closed = grouping_like gs gs' h n a ts closed (is_picked n) refl
  plain_like gs gs' h (routine n c os) closed = routine_like gs gs' h n _ _ _ _ (picked (Routine n))
  plain_like gs gs' h _ closed = h

  items_like : (xs : List ItemInMode) (gs gs' : List Grouping) → AllLike gs gs' → AllByRecursion (λ x. IsClosedAt picked x.plain) xs → AllLike (classes_after xs gs) (classes_after (holed_items picked xs) gs')
  items_like [] gs gs' h closed = h
  items_like (x ∷ xs) gs gs' h closed = items_like xs (and_grouping x.plain gs) (and_grouping (holed_plain picked x.plain) gs') (plain_like gs gs' h x.plain closed.0) closed.1

  none_like : AllLike [] []
  unfolding AllLike
  none_like = tt

  pub classes_same : (xs : List ItemInMode) → AllByRecursion (λ x. IsClosedAt picked x.plain) xs → (n : List ℕ) → picked (items.Grouping n) ≡ false → char_class_of (classes_after (holed_items picked xs) []) n ≡ char_class_of (classes_after xs []) n
  classes_same xs closed n e = fun_ext (class_like (classes_after xs []) (classes_after (holed_items picked xs) []) (items_like xs [] [] none_like closed) n e)
