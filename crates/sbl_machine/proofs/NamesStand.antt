-- The names of a script that is well declared stand for what there is.
use Rattle.std.proofs.Common.{◌≡◌, ◌⊎◌, inl, inr, ℕ, ◌+◌, Bool, true, false, not, cond, List, [], ◌∷◌, ◌++◌, Option, Some, None, is_some, refl, sym, ap, subst, ◌∙◌, ◌||◌, append_assoc}
use Rattle.std.specs.Option.{option_or}
use Rattle.std.specs.Str.{bytes_eq}
use Rattle.std.proofs.lemmas.Slice.Eq.{bytes_eq-Decides}
use Rattle.sbl_text.specs.declared.fault.ScriptFault.TheVariants as fault
use Rattle.sbl_ast.specs.Order.{ItemInMode, in_order}
use Rattle.sbl_ast.specs.declared.tree.DeclarationKind.{DeclarationKind}
use Rattle.sbl_ast.specs.declared.tree.DeclarationKind.TheVariants as kinds
use Rattle.sbl_ast.specs.declared.mode.Mode.{Mode}
use Rattle.sbl_ast.specs.declared.mode.Mode.TheVariants.{Forward, Backward}
use Rattle.sbl_ast.specs.Tree.{Argument, written_out, by_name, Command, Others, Term, term, Plain, declaration, escapes, macro, routine, grouping, Item}
use Rattle.sbl_resolver.specs.declared.occurrences.Site.{Site}
use Rattle.sbl_resolver.specs.declared.occurrences.Use.{Use}
use Rattle.sbl_resolver.specs.declared.occurrences.Use.TheVariants as use_as
use Rattle.sbl_resolver.specs.Occurrences.{Occurrence, Notice, put, uses, region_end, declares, defines_routine, defines_grouping, noted_command, noted_others, noted_plain, noted_items, occurrences_of, noted_name}
use Rattle.sbl_resolver.specs.OccurrenceView.{noted_names, noted_terms}
use Rattle.sbl_resolver.specs.Checks.{kind_of, defined_at, definition_of, may_be, is_kind, is_routine, is_grouping, is_mode, needs_definition, fault_at}
use Rattle.sbl_resolver.specs.inside.CheckParts.{is_some_and}
use Rattle.sbl_resolver.specs.Laws.{EachPasses, NamesResolve, Resolves, WellDeclaredPasses}
use Rattle.sbl_resolver.proofs.Extends.{Extends, same, then_, items_more, put_more, command_more, others_more}
use Rattle.sbl_resolver.proofs.FirstFault.{rest_fails, test_fails}
use Rattle.sbl_semantics.specs.Items.{Body, body_named, is_member, known_in, names_by}
use Rattle.sbl_semantics.proofs.SameParts as parts
use Rattle.sbl_machine.specs.NamesStand.{HasBody, StandsFor, NamesStand}
use Rattle.sbl_machine.proofs.Noticed.{look, or_none, look_put, look_kept, kinds_at, kind_is, site_is, routine_still, grouping_still, kinds_quiet, sites_quiet}

-- ---- names among names

pub flip : (a b : List ℕ) → bytes_eq a b ≡ true → bytes_eq b a ≡ true
flip a b h = (bytes_eq-Decides b a).1 (sym ((bytes_eq-Decides a b).0 h))

flip_false : (a b : List ℕ) → bytes_eq a b ≡ false → bytes_eq b a ≡ false
flip_false a b h = at (bytes_eq b a) refl
  where
    at : (c : Bool) → bytes_eq b a ≡ c → bytes_eq b a ≡ false
    at true e = let k : bytes_eq a b ≡ true = flip b a e in absurd cc
    at false e = e

pub or_true : (b c : Bool) → c ≡ true → cond b true c ≡ true
or_true true c h = refl
or_true false c h = h

among_left : (xs ys : List (List ℕ)) (n : List ℕ) → is_member xs n ≡ true → is_member (xs ++ ys) n ≡ true
among_left [] ys n h = absurd cc
among_left (x ∷ xs) ys n h = at (bytes_eq x n) h (among_left xs ys n)
  where
    at : (b : Bool) → cond b true (is_member xs n) ≡ true → (is_member xs n ≡ true → is_member (xs ++ ys) n ≡ true) → cond b true (is_member (xs ++ ys) n) ≡ true
    at true e rest = refl
    at false e rest = rest e

among_right : (xs ys : List (List ℕ)) (n : List ℕ) → is_member ys n ≡ true → is_member (xs ++ ys) n ≡ true
among_right [] ys n h = h
among_right (x ∷ xs) ys n h = or_true (bytes_eq x n) (is_member (xs ++ ys) n) (among_right xs ys n h)

-- ---- declarations

kind_put : (n : List ℕ) (k : DeclarationKind) (x : List ℕ) (p : Site) (s : List Occurrence) (b : Bool) → look (kinds_at n) s ≡ None → bytes_eq n x ≡ b → look (kinds_at n) (put (declares k x) p s) ≡ cond b (Some k) None
kind_put n k x p s b e h = look_put (kinds_at n) (declares k x) p s ∙ ap (λ o. option_or o (cond (bytes_eq n x) (Some k) None)) e ∙ ap (λ c. cond c (Some k) None) h

names_kept : (k : DeclarationKind) (ns : List (List ℕ)) (p : Site) (s : List Occurrence) (n : List ℕ) (j : DeclarationKind) → look (kinds_at n) s ≡ Some j → look (kinds_at n) (noted_names k ns p s) ≡ Some j
names_kept k [] p s n j h = h
names_kept k (x ∷ ns) p s n j h = names_kept k ns p (put (declares k x) p s) n j (look_kept (kinds_at n) s (put (declares k x) p s) j (put_more (declares k x) p s) h)

names_case : (k : DeclarationKind) (ns : List (List ℕ)) (p : Site) (s : List Occurrence) (n : List ℕ) → look (kinds_at n) s ≡ None → (look (kinds_at n) (noted_names k ns p s) ≡ None) ⊎ ((is_member ns n ≡ true) × (look (kinds_at n) (noted_names k ns p s) ≡ Some k))
names_case k [] p s n e = inl e
names_case k (x ∷ ns) p s n e = at (bytes_eq n x) refl (names_case k ns p (put (declares k x) p s) n)
  where
    further : (look (kinds_at n) (noted_names k ns p (put (declares k x) p s)) ≡ None) ⊎ ((is_member ns n ≡ true) × (look (kinds_at n) (noted_names k ns p (put (declares k x) p s)) ≡ Some k)) → (look (kinds_at n) (noted_names k (x ∷ ns) p s) ≡ None) ⊎ ((is_member (x ∷ ns) n ≡ true) × (look (kinds_at n) (noted_names k (x ∷ ns) p s) ≡ Some k))
    further (inl h) = inl h
    further (inr h) = inr (or_true (bytes_eq x n) (is_member ns n) h.0, h.1)

    at : (b : Bool) → bytes_eq n x ≡ b → (look (kinds_at n) (put (declares k x) p s) ≡ None → (look (kinds_at n) (noted_names k ns p (put (declares k x) p s)) ≡ None) ⊎ ((is_member ns n ≡ true) × (look (kinds_at n) (noted_names k ns p (put (declares k x) p s)) ≡ Some k))) → (look (kinds_at n) (noted_names k (x ∷ ns) p s) ≡ None) ⊎ ((is_member (x ∷ ns) n ≡ true) × (look (kinds_at n) (noted_names k (x ∷ ns) p s) ≡ Some k))
    at true h rest = inr (ap (λ c. cond c true (is_member ns n)) (flip n x h), names_kept k ns p (put (declares k x) p s) n k (kind_put n k x p s true e h))
    at false h rest = further (rest (kind_put n k x p s false e h))

-- the item after which a name has its kind
record Declares (y : Plain) (p : Site) (s : List Occurrence) (n : List ℕ) : Type 0 where
  kind : DeclarationKind
  names : List (List ℕ)
  item : y ≡ declaration kind names
  there : is_member names n ≡ true
  is : look (kinds_at n) (noted_plain y p s) ≡ Some kind

kind_after : (y : Plain) (p : Site) (s : List Occurrence) (n : List ℕ) → look (kinds_at n) s ≡ None → (look (kinds_at n) (noted_plain y p s) ≡ None) ⊎ Declares y p s n
kind_after (declaration k ns) p s n e = at (names_case k ns p s n e)
  where
    at : (look (kinds_at n) (noted_names k ns p s) ≡ None) ⊎ ((is_member ns n ≡ true) × (look (kinds_at n) (noted_names k ns p s) ≡ Some k)) → (look (kinds_at n) (noted_names k ns p s) ≡ None) ⊎ Declares (declaration k ns) p s n
    at (inl h) = inl h
    at (inr h) = inr (record { kind = k; names = ns; item = refl; there = h.0; is = h.1 })
kind_after (escapes a b) p s n e = inl e
kind_after (macro m b q) p s n e = inl e
kind_after (routine r c os) p s n e = inl (routine_still (kinds_at n) (kinds_quiet n) r c os p s ∙ look_put (kinds_at n) (defines_routine r) p s ∙ or_none (look (kinds_at n) s) ∙ e)
kind_after (grouping g a ts) p s n e = inl (grouping_still (kinds_at n) (kinds_quiet n) g a ts p s ∙ look_put (kinds_at n) (defines_grouping g) p s ∙ or_none (look (kinds_at n) s) ∙ e)

abbrev site_of : ℕ → ItemInMode → Site
site_of i x = record { item = i; mode = x.mode }

-- the names of one kind of variables, by the items
module _ (kind : DeclarationKind) (here : (ns : List (List ℕ)) → names_by kind (declaration kind ns) ≡ ns) where
  declared_among : (n : List ℕ) (xs : List ItemInMode) (i : ℕ) (s : List Occurrence) → look (kinds_at n) s ≡ None → look (kinds_at n) (noted_items xs i s) ≡ Some kind → is_member (known_in xs kind) n ≡ true
  declared_among n [] i s e h = let no : ⊥ = cc in absurd no
  declared_among n (x ∷ xs) i s e h = at (kind_after x.plain (site_of i x) s n e) (λ none. declared_among n xs (i + 1) (noted_plain x.plain (site_of i x) s) none h)
    where
      at : (look (kinds_at n) (noted_plain x.plain (site_of i x) s) ≡ None) ⊎ Declares x.plain (site_of i x) s n → (look (kinds_at n) (noted_plain x.plain (site_of i x) s) ≡ None → is_member (known_in xs kind) n ≡ true) → is_member (names_by kind x.plain ++ known_in xs kind) n ≡ true
      at (inl none) rest = among_right (names_by kind x.plain) (known_in xs kind) n (rest none)
      at (inr d) rest =
          let kept : look (kinds_at n) (noted_items xs (i + 1) (noted_plain x.plain (site_of i x) s)) ≡ Some d.kind = look_kept (kinds_at n) (noted_plain x.plain (site_of i x) s) (noted_items xs (i + 1) (noted_plain x.plain (site_of i x) s)) d.kind (items_more xs (i + 1) (noted_plain x.plain (site_of i x) s)) d.is in
          let same : d.kind ≡ kind = cc in
          ap (λ y. is_member (names_by kind y ++ known_in xs kind) n) (d.item ∙ ap (λ k. declaration k d.names) same)
          ∙ ap (λ l. is_member (l ++ known_in xs kind) n) (here d.names)
          ∙ among_left d.names (known_in xs kind) n d.there

-- ---- definitions

pub not_false : (b : Bool) → not b ≡ false → b ≡ true
not_false true e = refl
not_false false e = absurd cc

pub record Passing (all : List Occurrence) : Type 0 where
  pub each : EachPasses all

-- no check fails at an occurrence after which the list goes on
pub at_mark : (all s : List Occurrence) (m : Occurrence) → Passing all → Extends (s ++ m ∷ []) all → (rest : List Occurrence) × (fault_at all s m rest ≡ None)
at_mark all s m passing e = (e.more, passing.each s e.more m (e.is ∙ append_assoc s (m ∷ []) e.more))

-- the kind of a name that is defined fits its definition
pub kind_kept : (test : DeclarationKind → Bool) (r : List ℕ) (s all : List Occurrence) (o : Option DeclarationKind) → kind_of r s ≡ o → Extends s all → is_some_and test o ≡ true → is_some_and test (look (kinds_at r) all) ≡ true
kind_kept test r s all None h e t = absurd cc
kind_kept test r s all (Some k) h e t = ap (is_some_and test) (look_kept (kinds_at r) s all k e (sym (kind_is r s) ∙ h)) ∙ t

pub routine_kind : (all s : List Occurrence) (r : List ℕ) (p : Site) → Passing all → Extends (put (defines_routine r) p s) all → is_some_and is_routine (look (kinds_at r) all) ≡ true
routine_kind all s r p passing e =
    let mark : Occurrence = record { site = p; notice = defines_routine r } in
    let h = (at_mark all s mark passing e).1 in
    kind_kept is_routine r s all (kind_of r s) refl (then_ (put_more (defines_routine r) p s) e)
    (not_false (is_some_and is_routine (kind_of r s)) (test_fails (not (is_some_and is_routine (kind_of r s))) (fault.WrongKind p.item) _ (rest_fails (not (is_some (kind_of r s))) (fault.Undeclared p.item) _ h)))

grouping_kind : (all s : List Occurrence) (r : List ℕ) (p : Site) → Passing all → Extends (put (defines_grouping r) p s) all → is_some_and is_grouping (look (kinds_at r) all) ≡ true
grouping_kind all s r p passing e =
    let mark : Occurrence = record { site = p; notice = defines_grouping r } in
    let h = (at_mark all s mark passing e).1 in
    kind_kept is_grouping r s all (kind_of r s) refl (then_ (put_more (defines_grouping r) p s) e)
    (not_false (is_some_and is_grouping (kind_of r s)) (test_fails (not (is_some_and is_grouping (kind_of r s))) (fault.WrongKind p.item) _ (rest_fails (not (is_some (kind_of r s))) (fault.Undeclared p.item) _ h)))

pub term_extends : (a : Argument) (p : Site) (s : List Occurrence) → Extends s (noted_name use_as.Term a p s)
term_extends (written_out q) p s = same s
term_extends (by_name n) p s = put_more (uses use_as.Term n) p s

pub terms_extend : (ts : List Term) (p : Site) (s : List Occurrence) → Extends s (noted_terms ts p s)
terms_extend [] p s = same s
terms_extend (term o a ∷ ts) p s = then_ (term_extends a p s) (terms_extend ts p (noted_name use_as.Term a p s))

pub plain_after : (n : List ℕ) (c : Command) (os : Others) (p : Site) (s : List Occurrence) → Extends (put (defines_routine n) p s) (noted_plain (routine n c os) p s)
plain_after n c os p s =
    let a = put (defines_routine n) p s in
    let b = noted_command c p a in
    then_ (command_more c p a) (then_ (others_more os p b) (put_more region_end p (noted_others os p b)))

pub grouping_after : (n : List ℕ) (a : Argument) (ts : List Term) (p : Site) (s : List Occurrence) → Extends (put (defines_grouping n) p s) (noted_plain (grouping n a ts) p s)
grouping_after n a ts p s = let b = put (defines_grouping n) p s in then_ (term_extends a p b) (terms_extend ts p (noted_name use_as.Term a p b))

-- what a name is defined as
abbrev Defined : List Occurrence → List ItemInMode → List ℕ → Mode → Type 0
Defined all items n m = ((is_some_and is_routine (look (kinds_at n) all) ≡ true) × HasBody items n m) ⊎ ((is_some_and is_grouping (look (kinds_at n) all) ≡ true) × (is_member (known_in items kinds.Groupings) n ≡ true))

-- an item that does not define the name
passed_over : (all : List Occurrence) (x : ItemInMode) (xs : List ItemInMode) (n : List ℕ) (m : Mode) → body_named (x ∷ xs) n ≡ body_named xs n → (is_member (known_in xs kinds.Groupings) n ≡ true → is_member (known_in (x ∷ xs) kinds.Groupings) n ≡ true) → Defined all xs n m → Defined all (x ∷ xs) n m
passed_over all x xs n m b g (inl h) = inl (h.0, (h.1.0, b ∙ h.1.1, h.1.2))
passed_over all x xs n m b g (inr h) = inr (h.0, g h.1)

pub site_put : (n : List ℕ) (x : Notice) (p : Site) (s : List Occurrence) (o : Option Site) → look (defined_at n) s ≡ None → defined_at n (record { site = p; notice = x }) ≡ o → look (defined_at n) (put x p s) ≡ o
site_put n x p s o e h = look_put (defined_at n) x p s ∙ ap (λ a. option_or a (defined_at n (record { site = p; notice = x }))) e ∙ h

pub names_site : (k : DeclarationKind) (ns : List (List ℕ)) (p : Site) (s : List Occurrence) (n : List ℕ) → look (defined_at n) s ≡ None → look (defined_at n) (noted_names k ns p s) ≡ None
names_site k [] p s n e = e
names_site k (x ∷ ns) p s n e = names_site k ns p (put (declares k x) p s) n (site_put n (declares k x) p s None e refl)

mode_of_site : (p q : Site) → Some p ≡ Some q → p.mode ≡ q.mode
mode_of_site p q e = let same : p ≡ q = cc in ap (λ (z : Site). z.mode) same

module _ (all : List Occurrence) (passing : Passing all) (n : List ℕ) (d : Site) (is : look (defined_at n) all ≡ Some d) where
  abbrev Goal : ItemInMode → List ItemInMode → Type 0
  Goal x xs = Defined all (x ∷ xs) n d.mode

  abbrev Later : Plain → Site → List Occurrence → List ItemInMode → Type 0
  Later y p s xs = look (defined_at n) (noted_plain y p s) ≡ None → Defined all xs n d.mode

  -- the definition is at this occurrence
  found_here : (x : Notice) (p : Site) (s t : List Occurrence) → look (defined_at n) s ≡ None → defined_at n (record { site = p; notice = x }) ≡ Some p → look (defined_at n) t ≡ look (defined_at n) (put x p s) → Extends t all → p.mode ≡ d.mode
  found_here x p s t e h still more =
      mode_of_site p d (sym (look_kept (defined_at n) t all p more (still ∙ site_put n x p s (Some p) e h)) ∙ is)

  in_routine : (r : List ℕ) (c : Command) (os : Others) (p : Site) (s : List Occurrence) (xs : List ItemInMode) → Extends (noted_plain (routine r c os) p s) all → look (defined_at n) s ≡ None → Later (routine r c os) p s xs → Goal (record { mode = p.mode; plain = routine r c os }) xs
  in_routine r c os p s xs more e later = at (bytes_eq n r) refl
    where
      x : ItemInMode
      x = record { mode = p.mode; plain = routine r c os }

      still : look (defined_at n) (noted_plain (routine r c os) p s) ≡ look (defined_at n) (put (defines_routine r) p s)
      still = routine_still (defined_at n) (sites_quiet n) r c os p s

      b : Body
      b = record { mode = p.mode; first = c; others = os }

      at : (k : Bool) → bytes_eq n r ≡ k → Goal (record { mode = p.mode; plain = routine r c os }) xs
      at true h =
          let first : Extends (put (defines_routine r) p s) all = then_ (plain_after r c os p s) more in
          inl (
            ap (λ z. is_some_and is_routine (look (kinds_at z) all)) ((bytes_eq-Decides n r).0 h) ∙ routine_kind all s r p passing first,
            (
              b,
              ap (λ k. cond k (Some b) (body_named xs n)) (flip n r h),
              found_here (defines_routine r) p s (noted_plain (routine r c os) p s) e (ap (λ k. cond k (Some p) None) h) still more,
            ),
          )
      at false h =
          passed_over all x xs n d.mode (ap (λ k. cond k (Some b) (body_named xs n)) (flip_false n r h)) (λ g. g)
          (later (still ∙ site_put n (defines_routine r) p s None e (ap (λ k. cond k (Some p) None) h)))

  in_grouping : (r : List ℕ) (a : Argument) (ts : List Term) (p : Site) (s : List Occurrence) (xs : List ItemInMode) → Extends (noted_plain (grouping r a ts) p s) all → look (defined_at n) s ≡ None → Later (grouping r a ts) p s xs → Goal (record { mode = p.mode; plain = grouping r a ts }) xs
  in_grouping r a ts p s xs more e later = at (bytes_eq n r) refl
    where
      x : ItemInMode
      x = record { mode = p.mode; plain = grouping r a ts }

      still : look (defined_at n) (noted_plain (grouping r a ts) p s) ≡ look (defined_at n) (put (defines_grouping r) p s)
      still = grouping_still (defined_at n) (sites_quiet n) r a ts p s

      at : (k : Bool) → bytes_eq n r ≡ k → Goal (record { mode = p.mode; plain = grouping r a ts }) xs
      at true h =
          inr (
            ap (λ z. is_some_and is_grouping (look (kinds_at z) all)) ((bytes_eq-Decides n r).0 h) ∙ grouping_kind all s r p passing (then_ (grouping_after r a ts p s) more),
            ap (λ k. cond k true (is_member (known_in xs kinds.Groupings) n)) (flip n r h),
          )
      at false h =
          passed_over all x xs n d.mode refl (or_true (bytes_eq r n) (is_member (known_in xs kinds.Groupings) n))
          (later (still ∙ site_put n (defines_grouping r) p s None e (ap (λ k. cond k (Some p) None) h)))

  in_item : (y : Plain) (p : Site) (s : List Occurrence) (xs : List ItemInMode) → Extends (noted_plain y p s) all → look (defined_at n) s ≡ None → Later y p s xs → Goal (record { mode = p.mode; plain = y }) xs
  in_item (declaration k ns) p s xs more e later = passed_over all (record { mode = p.mode; plain = declaration k ns }) xs n d.mode refl (λ g. g) (later (names_site k ns p s n e))
  in_item (escapes a b) p s xs more e later = passed_over all (record { mode = p.mode; plain = escapes a b }) xs n d.mode refl (λ g. g) (later e)
  in_item (macro m b q) p s xs more e later = passed_over all (record { mode = p.mode; plain = macro m b q }) xs n d.mode refl (λ g. g) (later e)
  in_item (routine r c os) p s xs more e later = in_routine r c os p s xs more e later
  in_item (grouping r a ts) p s xs more e later = in_grouping r a ts p s xs more e later

  has_definition : (xs : List ItemInMode) (i : ℕ) (s : List Occurrence) → all ≡ noted_items xs i s → look (defined_at n) s ≡ None → Defined all xs n d.mode
  has_definition [] i s parts e = let no : ⊥ = cc in absurd no
  has_definition (x ∷ xs) i s parts e =
      in_item x.plain (site_of i x) s xs (subst (Extends (noted_plain x.plain (site_of i x) s)) (sym parts) (items_more xs (i + 1) (noted_plain x.plain (site_of i x) s))) e
      (has_definition xs (i + 1) (noted_plain x.plain (site_of i x) s) parts)

-- ---- a script

same_mode : (m k : Mode) → is_mode m k ≡ true → k ≡ m
same_mode Forward Forward h = refl
same_mode Backward Backward h = refl
same_mode Forward Backward h = absurd cc
same_mode Backward Forward h = absurd cc

module _ (items : List Item) (passing : Passing (occurrences_of items)) (u : Use) (n : List ℕ) (m : Mode) (r : Resolves (occurrences_of items) u n m) where
  abbrev all : List Occurrence
  all = occurrences_of items

  abbrev ours : List ItemInMode
  ours = in_order items

  kind_there : look (kinds_at n) all ≡ Some r.kind
  kind_there = sym (kind_is n all) ∙ r.declared

  string_there : r.kind ≡ kinds.Strings → is_member (known_in ours kinds.Strings) n ≡ true
  string_there k =
      declared_among kinds.Strings (λ ns. refl) n ours 1 [] refl (kind_there ∙ ap Some k)

  integer_there : r.kind ≡ kinds.Integers → is_member (known_in ours kinds.Integers) n ≡ true
  integer_there k =
      declared_among kinds.Integers (λ ns. refl) n ours 1 [] refl (kind_there ∙ ap Some k)

  boolean_there : r.kind ≡ kinds.Booleans → is_member (known_in ours kinds.Booleans) n ≡ true
  boolean_there k =
      declared_among kinds.Booleans (λ ns. refl) n ours 1 [] refl (kind_there ∙ ap Some k)

  definition_there : (d : Site) → definition_of n all ≡ Some d → Defined all ours n d.mode
  definition_there d h =
      has_definition all passing n d (sym (site_is n all) ∙ h) ours 1 [] refl refl

  either : (b c : Bool) → c ≡ true → (b || c) ≡ true
  either true c h = refl
  either false c h = h

  never_both : (k : DeclarationKind) → is_routine k ≡ true → is_grouping k ≡ true → ⊥
  never_both kinds.Strings h g = cc
  never_both _ h g = cc

  kind_passes : (test : DeclarationKind → Bool) → is_some_and test (look (kinds_at n) all) ≡ true → test r.kind ≡ true
  kind_passes test h = sym (ap (is_some_and test) kind_there) ∙ h

  body_there : is_routine r.kind ≡ true → HasBody ours n m
  body_there k = at (r.defined (needs k))
    where
      needs : is_routine r.kind ≡ true → needs_definition r.kind ≡ true
      needs h = ap (λ b. b || is_grouping r.kind) h

      at : (p : Site) × (definition_of n all ≡ Some p) → HasBody ours n m
      at d = pick (definition_there d.0 d.1)
        where
          pick : Defined all ours n d.0.mode → HasBody ours n m
          pick (inl h) = (h.1.0, h.1.1, h.1.2 ∙ same_mode m d.0.mode (r.same_mode k d.0 d.1))
          pick (inr h) = absurd (never_both r.kind k (kind_passes is_grouping h.0))

  grouping_there : is_grouping r.kind ≡ true → is_member (known_in ours kinds.Groupings) n ≡ true
  grouping_there k = at (r.defined (either (is_routine r.kind) (is_grouping r.kind) k))
    where
      at : (p : Site) × (definition_of n all ≡ Some p) → is_member (known_in ours kinds.Groupings) n ≡ true
      at d = pick (definition_there d.0 d.1)
        where
          pick : Defined all ours n d.0.mode → is_member (known_in ours kinds.Groupings) n ≡ true
          pick (inl h) = absurd (never_both r.kind (kind_passes is_routine h.0) k)
          pick (inr h) = h.1

  a_command : (k : DeclarationKind) → r.kind ≡ k → not (is_kind k kinds.Integers) ≡ true → StandsFor ours use_as.Command n m
  a_command kinds.Strings e h = inl (string_there e)
  a_command kinds.Integers e h = absurd cc
  a_command kinds.Booleans e h = inr (inl (boolean_there e))
  a_command kinds.Routines e h = inr (inr (inr (body_there (ap is_routine e))))
  a_command kinds.Externals e h = inr (inr (inr (body_there (ap is_routine e))))
  a_command kinds.Groupings e h = inr (inr (inl (grouping_there (ap is_grouping e))))

  stands : (v : Use) → may_be v r.kind ≡ true → StandsFor ours v n m
  stands use_as.Command h = a_command r.kind refl h
  stands use_as.Condition h = body_there h
  stands use_as.Excluded h = grouping_there h
  stands use_as.Term h = grouping_there h
  stands use_as.Boolean h = boolean_there (parts.kind_is r.kind kinds.Booleans h)
  stands use_as.Integer h = integer_there (parts.kind_is r.kind kinds.Integers h)
  stands use_as.String h = string_there (parts.kind_is r.kind kinds.Strings h)

pub names_stand : NamesResolve → WellDeclaredPasses → NamesStand
names_stand resolve passes script well before after p u n parts =
    let r = resolve script.items script.external well before after p u n parts in
    stands script.items (record { each = (passes script.items script.external well).0 }) u n p.mode r u r.allowed
