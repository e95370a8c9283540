-- In a script that is well declared each grouping is defined once, and a name in its terms is that of a grouping before it.
use Rattle.std.proofs.Common.{◌≡◌, ◌⊎◌, inl, inr, ℕ, ◌+◌, ◌<◌, ◌≤◌, Bool, true, false, not, cond, List, [], ◌∷◌, ◌++◌, length, Option, Some, None, is_some, refl, sym, ap, subst, ◌∙◌, arith}
use Rattle.std.specs.Prelude.{⊤, nat_lt}
use Rattle.std.specs.Str.{bytes_eq}
use Rattle.std.proofs.lemmas.Bool.{lt-ltb, ltb-true}
use Rattle.std.proofs.lemmas.Slice.Eq.{bytes_eq-Decides}
use Rattle.sbl_text.specs.declared.fault.ScriptFault.TheVariants as fault
use Rattle.sbl_ast.specs.Order.{ItemInMode, in_order}
use Rattle.sbl_ast.specs.declared.mode.Mode.{Mode}
use Rattle.sbl_ast.specs.declared.tree.DeclarationKind.{DeclarationKind}
use Rattle.sbl_ast.specs.declared.tree.DeclarationKind.TheVariants as kinds
use Rattle.sbl_ast.specs.Tree.{Argument, written_out, by_name, Term, term, Plain, declaration, escapes, macro, routine, grouping, Item}
use Rattle.sbl_resolver.specs.declared.occurrences.Site.{Site}
use Rattle.sbl_resolver.specs.declared.occurrences.Use.TheVariants as use_as
use Rattle.sbl_resolver.specs.Occurrences.{Occurrence, put, uses, defines_routine, defines_grouping, noted_plain, noted_items, occurrences_of, noted_name}
use Rattle.sbl_resolver.specs.OccurrenceView.{noted_terms}
use Rattle.sbl_resolver.specs.Checks.{kind_of, defined_at, definition_of, is_routine, is_grouping, is_earlier}
use Rattle.sbl_resolver.specs.inside.CheckParts.{is_some_and}
use Rattle.sbl_resolver.proofs.Extends.{Extends, then_, items_more, put_more}
use Rattle.sbl_semantics.specs.Items.{known_in, names_by, is_member}
use Rattle.sbl_machine.proofs.Noticed.{look, look_kept, kinds_at, site_is, sites_quiet, routine_still, grouping_still}
use Rattle.sbl_machine.proofs.NamesStand.{names_site, site_put, Passing, at_mark, kind_kept, routine_kind, not_false, terms_extend, plain_after, grouping_after, flip, or_true}
use Rattle.sbl_resolver.proofs.FirstFault.{rest_fails, test_fails}

-- ---- the occurrences of items

abbrev place_of : ℕ → ItemInMode → Site
place_of i x = record { item = i; mode = x.mode }

-- the occurrences after an item
abbrev following : ItemInMode → ℕ → List Occurrence → List Occurrence
following x i s = noted_plain x.plain (place_of i x) s

noted_split : (xs ys : List ItemInMode) (i : ℕ) (s : List Occurrence) → noted_items (xs ++ ys) i s ≡ noted_items ys (i + length xs) (noted_items xs i s)
noted_split [] ys i s = ap (λ k. noted_items ys k s) (omega arith)
noted_split (x ∷ xs) ys i s = noted_split xs ys (i + 1) (following x i s) ∙ ap (λ k. noted_items ys k (noted_items xs (i + 1) (following x i s))) (omega arith)

-- ---- where a name is defined

abbrev site_in : List ℕ → List Occurrence → Option Site
site_in n s = look (defined_at n) s

-- what an item defines is defined at its place
abbrev IsPlaced : List ℕ → Site → List Occurrence → Type 0
IsPlaced n p t = (site_in n t ≡ None) ⊎ (site_in n t ≡ Some p)

place_after : (y : Plain) (p : Site) (s : List Occurrence) (n : List ℕ) → site_in n s ≡ None → IsPlaced n p (noted_plain y p s)
place_after (declaration k ns) p s n e = inl (names_site k ns p s n e)
place_after (escapes a b) p s n e = inl e
place_after (macro m b q) p s n e = inl e
place_after (routine r c os) p s n e = at (bytes_eq n r) refl
  where
    still : site_in n (noted_plain (routine r c os) p s) ≡ site_in n (put (defines_routine r) p s)
    still = routine_still (defined_at n) (sites_quiet n) r c os p s

    at : (b : Bool) → bytes_eq n r ≡ b → IsPlaced n p (noted_plain (routine r c os) p s)
    at true h = inr (still ∙ site_put n (defines_routine r) p s (Some p) e (ap (λ k. cond k (Some p) None) h))
    at false h = inl (still ∙ site_put n (defines_routine r) p s None e (ap (λ k. cond k (Some p) None) h))
place_after (grouping r a ts) p s n e = at (bytes_eq n r) refl
  where
    still : site_in n (noted_plain (grouping r a ts) p s) ≡ site_in n (put (defines_grouping r) p s)
    still = grouping_still (defined_at n) (sites_quiet n) r a ts p s

    at : (b : Bool) → bytes_eq n r ≡ b → IsPlaced n p (noted_plain (grouping r a ts) p s)
    at true h = inr (still ∙ site_put n (defines_grouping r) p s (Some p) e (ap (λ k. cond k (Some p) None) h))
    at false h = inl (still ∙ site_put n (defines_grouping r) p s None e (ap (λ k. cond k (Some p) None) h))

same_item : (p d : Site) (o : Option Site) → o ≡ Some p → o ≡ Some d → p.item ≡ d.item
same_item p d o h k = let same : p ≡ d = cc in ap (λ (z : Site). z.item) same

-- the place of what some items define is not before the first of them
not_before : (xs : List ItemInMode) (i : ℕ) (s : List Occurrence) (n : List ℕ) (d : Site) → site_in n s ≡ None → site_in n (noted_items xs i s) ≡ Some d → i ≤ d.item
not_before [] i s n d e h = let none : ⊥ = cc in absurd none
not_before (x ∷ xs) i s n d e h = at (place_after x.plain (place_of i x) s n e) (λ none. not_before xs (i + 1) (following x i s) n d none h)
  where
    at : IsPlaced n (place_of i x) (following x i s) → (site_in n (following x i s) ≡ None → i + 1 ≤ d.item) → i ≤ d.item
    at (inl none) rest = let later = rest none in omega arith
    at (inr there) rest =
        let is : i ≡ d.item = same_item (place_of i x) d (site_in n (noted_items (x ∷ xs) i s)) (look_kept (defined_at n) (following x i s) (noted_items xs (i + 1) (following x i s)) (place_of i x) (items_more xs (i + 1) (following x i s)) there) h in
        omega arith

-- a grouping that is not that of an item is one of the others
others_have : (y : Plain) (p : Site) (s : List Occurrence) (n : List ℕ) (rest : List (List ℕ)) → is_member (names_by kinds.Groupings y ++ rest) n ≡ true → site_in n s ≡ None → site_in n (noted_plain y p s) ≡ None → is_member rest n ≡ true
others_have (declaration k ns) p s n rest h e none = h
others_have (escapes a b) p s n rest h e none = h
others_have (macro m b q) p s n rest h e none = h
others_have (routine r c os) p s n rest h e none = h
others_have (grouping r a ts) p s n rest h e none = at (bytes_eq r n) refl h
  where
    still : site_in n (noted_plain (grouping r a ts) p s) ≡ site_in n (put (defines_grouping r) p s)
    still = grouping_still (defined_at n) (sites_quiet n) r a ts p s

    at : (b : Bool) → bytes_eq r n ≡ b → cond b true (is_member rest n) ≡ true → is_member rest n ≡ true
    at true k g =
        let there : site_in n (put (defines_grouping r) p s) ≡ Some p = site_put n (defines_grouping r) p s (Some p) e (ap (λ c. cond c (Some p) None) (flip r n k)) in
        let both = sym none ∙ still ∙ there in
        let gone : ⊥ = cc in
        absurd gone
    at false k g = g

-- a grouping that some items define is defined in one of them
defined_in : (xs : List ItemInMode) (i : ℕ) (s : List Occurrence) (n : List ℕ) → is_member (known_in xs kinds.Groupings) n ≡ true → site_in n s ≡ None → (d : Site) × (site_in n (noted_items xs i s) ≡ Some d) × (d.item < i + length xs)
defined_in [] i s n h e = let none : ⊥ = cc in absurd none
defined_in (x ∷ xs) i s n h e = at (place_after x.plain (place_of i x) s n e) (λ none. defined_in xs (i + 1) (following x i s) n (others_have x.plain (place_of i x) s n (known_in xs kinds.Groupings) h e none) none)
  where
    at : IsPlaced n (place_of i x) (following x i s) → (site_in n (following x i s) ≡ None → (d : Site) × (site_in n (noted_items xs (i + 1) (following x i s)) ≡ Some d) × (d.item < i + 1 + length xs))
        → (d : Site) × (site_in n (noted_items (x ∷ xs) i s) ≡ Some d) × (d.item < i + length (x ∷ xs))
    at (inl none) rest = let r = rest none in let low = r.2 in (r.0, r.1, omega arith)
    at (inr there) rest = (place_of i x, look_kept (defined_at n) (following x i s) (noted_items xs (i + 1) (following x i s)) (place_of i x) (items_more xs (i + 1) (following x i s)) there, omega arith)

-- ---- names in a script that passes

not_both : (k : Option DeclarationKind) → is_some_and is_routine k ≡ true → is_some_and is_grouping k ≡ true → ⊥
not_both None r g = cc
not_both (Some kinds.Strings) r g = cc
not_both _ r g = cc

-- the names of a term, and of some, are among these
abbrev pub IsKnown : List (List ℕ) → Argument → Type 0
IsKnown ns (written_out q) = ⊤
IsKnown ns (by_name n) = is_member ns n ≡ true

abbrev pub AreKnown : List (List ℕ) → List Term → Type 0
AreKnown ns [] = ⊤
AreKnown ns (term o a ∷ ts) = IsKnown ns a × AreKnown ns ts

module _ (all : List Occurrence) (passing : Passing all) where
  abbrev is_grouping_name : List ℕ → Type 0
  is_grouping_name n = is_some_and is_grouping (look (kinds_at n) all) ≡ true

  -- what some items define is a grouping of theirs, if its name is a grouping's
  grouping_in : (xs : List ItemInMode) (i : ℕ) (s : List Occurrence) (n : List ℕ) (d : Site) → is_grouping_name n → Extends (noted_items xs i s) all → site_in n s ≡ None → site_in n (noted_items xs i s) ≡ Some d → is_member (known_in xs kinds.Groupings) n ≡ true
  grouping_in [] i s n d g more e h = let none : ⊥ = cc in absurd none
  grouping_in (x ∷ xs) i s n d g more e h = at x.plain (then_ (items_more xs (i + 1) (following x i s)) more) (λ none. grouping_in xs (i + 1) (following x i s) n d g more none h)
    where
      at : (y : Plain) → Extends (noted_plain y (place_of i x) s) all → (site_in n (noted_plain y (place_of i x) s) ≡ None → is_member (known_in xs kinds.Groupings) n ≡ true) → is_member (names_by kinds.Groupings y ++ known_in xs kinds.Groupings) n ≡ true
      at (declaration k ns) ext rest = rest (names_site k ns (place_of i x) s n e)
      at (escapes a b) ext rest = rest e
      at (macro m b q) ext rest = rest e
      at (routine r c os) ext rest = pick (bytes_eq n r) refl
        where
          pick : (b : Bool) → bytes_eq n r ≡ b → is_member (known_in xs kinds.Groupings) n ≡ true
          pick true k =
              absurd (not_both (look (kinds_at n) all)
              (ap (λ z. is_some_and is_routine (look (kinds_at z) all)) ((bytes_eq-Decides n r).0 k) ∙ routine_kind all s r (place_of i x) passing (then_ (plain_after r c os (place_of i x) s) ext)) g)
          pick false k =
              rest (routine_still (defined_at n) (sites_quiet n) r c os (place_of i x) s ∙ site_put n (defines_routine r) (place_of i x) s None e (ap (λ b. cond b (Some (place_of i x)) None) k))
      at (grouping r a ts) ext rest = pick (bytes_eq n r) refl
        where
          pick : (b : Bool) → bytes_eq n r ≡ b → cond (bytes_eq r n) true (is_member (known_in xs kinds.Groupings) n) ≡ true
          pick true k = ap (λ b. cond b true (is_member (known_in xs kinds.Groupings) n)) (flip n r k)
          pick false k =
              or_true (bytes_eq r n) (is_member (known_in xs kinds.Groupings) n)
              (rest (grouping_still (defined_at n) (sites_quiet n) r a ts (place_of i x) s ∙ site_put n (defines_grouping r) (place_of i x) s None e (ap (λ b. cond b (Some (place_of i x)) None) k)))

  -- ---- the items before one

  module _ (bs rest : List ItemInMode) (parts : all ≡ noted_items rest (1 + length bs) (noted_items bs 1 [])) where
    abbrev s0 : List Occurrence
    s0 = noted_items bs 1 []

    first_more : Extends s0 all
    first_more = subst (Extends s0) (sym parts) (items_more rest (1 + length bs) s0)

    -- a grouping that is defined earlier is one of theirs
    earlier_in : (n : List ℕ) → is_grouping_name n → is_earlier (1 + length bs) (definition_of n all) ≡ true → is_member (known_in bs kinds.Groupings) n ≡ true
    earlier_in n g h = at (site_in n s0) refl
      where
        whole : (o : Option Site) → site_in n all ≡ o → site_in n s0 ≡ None → ⊥
        whole None k e = let gone : is_earlier (1 + length bs) None ≡ true = sym (ap (is_earlier (1 + length bs)) (site_is n all ∙ k)) ∙ h in cc
        whole (Some d) k e =
            let low : nat_lt d.item (1 + length bs) ≡ true = sym (ap (is_earlier (1 + length bs)) (site_is n all ∙ k)) ∙ h in
            let lt = ltb-true d.item (1 + length bs) low in
            let high = not_before rest (1 + length bs) s0 n d e (sym (ap (site_in n) parts) ∙ k) in
            omega arith

        at : (o : Option Site) → site_in n s0 ≡ o → is_member (known_in bs kinds.Groupings) n ≡ true
        at None e = absurd (whole (site_in n all) refl e)
        at (Some d) e = grouping_in bs 1 [] n d g first_more refl e

    -- what is not defined earlier is none of theirs
    not_in : (n : List ℕ) → is_earlier (1 + length bs) (definition_of n all) ≡ false → is_member (known_in bs kinds.Groupings) n ≡ false
    not_in n h = at (is_member (known_in bs kinds.Groupings) n) refl
      where
        at : (b : Bool) → is_member (known_in bs kinds.Groupings) n ≡ b → is_member (known_in bs kinds.Groupings) n ≡ false
        at false e = e
        at true e =
            let d = defined_in bs 1 [] n e refl in
            let there : definition_of n all ≡ Some d.0 = site_is n all ∙ look_kept (defined_at n) s0 all d.0 first_more d.1 in
            let low : nat_lt d.0.item (1 + length bs) ≡ true = lt-ltb d.0.item (1 + length bs) d.2 in
            let high : nat_lt d.0.item (1 + length bs) ≡ false = sym (ap (is_earlier (1 + length bs)) there) ∙ h in
            let gone : ⊥ = cc in
            absurd gone

    name_known : (m : Mode) (s : List Occurrence) (n : List ℕ) → Extends (put (uses use_as.Term n) (record { item = 1 + length bs; mode = m }) s) all → is_member (known_in bs kinds.Groupings) n ≡ true
    name_known m s n e =
        let p : Site = record { item = 1 + length bs; mode = m } in
        let mark : Occurrence = record { site = p; notice = uses use_as.Term n } in
        let h = (at_mark all s mark passing e).1 in
        let declared = rest_fails (not (is_some (kind_of n s))) (fault.Undeclared p.item) _ h in
        let allowed = not_false (is_some_and is_grouping (kind_of n s)) (test_fails (not (is_some_and is_grouping (kind_of n s))) (fault.WrongKind p.item) _ declared) in
        let after_kind = rest_fails (not (is_some_and is_grouping (kind_of n s))) (fault.WrongKind p.item) _ declared in
        earlier_in n
        (kind_kept is_grouping n s all (kind_of n s) refl (then_ (put_more (uses use_as.Term n) p s) e) allowed)
        (not_false (is_earlier p.item (definition_of n all)) (test_fails (not (is_earlier p.item (definition_of n all))) (fault.Undefined p.item) _ after_kind))

    term_known : (a : Argument) (m : Mode) (s : List Occurrence) → Extends (noted_name use_as.Term a (record { item = 1 + length bs; mode = m }) s) all → IsKnown (known_in bs kinds.Groupings) a
    term_known (written_out q) m s e = tt
    term_known (by_name n) m s e = name_known m s n e

    terms_known : (ts : List Term) (m : Mode) (s : List Occurrence) → Extends (noted_terms ts (record { item = 1 + length bs; mode = m }) s) all → AreKnown (known_in bs kinds.Groupings) ts
    terms_known [] m s e = tt
    terms_known (term o a ∷ ts) m s e =
        let p : Site = record { item = 1 + length bs; mode = m } in
        (term_known a m s (then_ (terms_extend ts p (noted_name use_as.Term a p s)) e), terms_known ts m (noted_name use_as.Term a p s) e)

-- the names of a grouping's definition: none of the groupings before has its own, and those of its terms are all among them
pub record AreNames (bs : List ItemInMode) (n : List ℕ) (a : Argument) (ts : List Term) : Type 0 where
  pub once : is_member (known_in bs kinds.Groupings) n ≡ false
  pub first : IsKnown (known_in bs kinds.Groupings) a
  pub others : AreKnown (known_in bs kinds.Groupings) ts

pub names_are : (items : List Item) → Passing (occurrences_of items) → (bs after : List ItemInMode) (m : Mode) (n : List ℕ) (a : Argument) (ts : List Term) → in_order items ≡ bs ++ (record { mode = m; plain = grouping n a ts }) ∷ after → AreNames bs n a ts
names_are items passing bs after m n a ts parts =
    let all = occurrences_of items in
    let x : ItemInMode = record { mode = m; plain = grouping n a ts } in
    let p : Site = record { item = 1 + length bs; mode = m } in
    let s = noted_items bs 1 [] in
    let t = put (defines_grouping n) p s in
    let split : all ≡ noted_items (x ∷ after) (1 + length bs) s = ap (λ l. noted_items l 1 []) parts ∙ noted_split bs (x ∷ after) 1 [] in
    let more : Extends (noted_plain (grouping n a ts) p s) all = subst (Extends (noted_plain (grouping n a ts) p s)) (sym split) (items_more after (1 + length bs + 1) (noted_plain (grouping n a ts) p s)) in
    let mark : Occurrence = record { site = p; notice = defines_grouping n } in
    let h = (at_mark all s mark passing (then_ (grouping_after n a ts p s) more)).1 in
    let declared = rest_fails (not (is_some (kind_of n s))) (fault.Undeclared p.item) _ h in
    let after_kind = rest_fails (not (is_some_and is_grouping (kind_of n s))) (fault.WrongKind p.item) _ declared in
    record {
      once = not_in all passing bs (x ∷ after) split n (test_fails (is_earlier p.item (definition_of n all)) (fault.DefinedTwice p.item) _ after_kind);
      first = term_known all passing bs (x ∷ after) split a m t (then_ (terms_extend ts p (noted_name use_as.Term a p t)) more);
      others = terms_known all passing bs (x ∷ after) split ts m (noted_name use_as.Term a p t) more;
    }
