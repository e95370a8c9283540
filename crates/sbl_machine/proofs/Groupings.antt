-- In a script that is well declared each grouping is that of its terms.
use Rattle.std.proofs.Common.{◌≡◌, ◌⊎◌, inl, inr, ℕ, zero, suc, Bool, true, false, not, cond, ◌||◌, ◌&&◌, List, [], ◌∷◌, ◌++◌, length, map, refl, sym, ap, ◌∙◌, append_assoc, append-nil, arith, subst}
use Rattle.std.specs.Prelude.{◌<◌, nat_eq, slice_index_or}
use Rattle.std.specs.List.{AllByRecursion, Contains, list_any}
use Rattle.std.specs.Str.{bytes_eq}
use Rattle.std.proofs.lemmas.Bool.{eq-eqb, eqb-true}
use Rattle.std.proofs.lemmas.List.{map-append}
use Rattle.std.proofs.lemmas.Slice.Eq.{bytes_eq-Decides}
use Rattle.sbl_ast.specs.Order.{ItemInMode, in_order}
use Rattle.sbl_ast.specs.declared.mode.Mode.{Mode}
use Rattle.sbl_ast.specs.declared.tree.Additive.TheVariants.{Plus, Minus}
use Rattle.sbl_ast.specs.declared.tree.DeclarationKind.TheVariants as kinds
use Rattle.sbl_ast.specs.Tree.{Argument, written_out, by_name, Term, term, Plain, grouping}
use Rattle.sbl_resolver.specs.Laws.{WellDeclaredPasses}
use Rattle.sbl_semantics.specs.Items.{Grouping, and_grouping, char_class_of, classes_after, known_in, names_by, is_member, term_has, terms_have}
use Rattle.sbl_machine.specs.Groupings.{groupings_of, Has, Leaves, IsOfTerms, GroupingsAreTheirTerms, GroupingsHaveTheirTerms}
use Rattle.sbl_machine.proofs.GroupingNames.{IsKnown, AreKnown, AreNames, names_are}

-- ---- the groupings of some items

abbrev pub name_of : Grouping → List ℕ
name_of g = g.name

-- some groupings, and then more
abbrev More : List Grouping → List Grouping → Type 0
More gs all = (more : List Grouping) × (all ≡ gs ++ more)

and_more : (y : Plain) (gs : List Grouping) → More gs (and_grouping y gs)
and_more (grouping n a ts) gs = ((record { name = n; has = λ c. terms_have gs ts (term_has gs a c) c }) ∷ [], refl)
and_more _ gs = ([], sym (append-nil gs))

classes_more : (xs : List ItemInMode) (gs : List Grouping) → More gs (classes_after xs gs)
classes_more [] gs = ([], sym (append-nil gs))
classes_more (x ∷ xs) gs =
    let one = and_more x.plain gs in
    let rest = classes_more xs (and_grouping x.plain gs) in
    (one.0 ++ rest.0, rest.1 ∙ ap (λ l. l ++ rest.0) one.1 ∙ append_assoc gs one.0 rest.0)

classes_split : (xs ys : List ItemInMode) (gs : List Grouping) → classes_after (xs ++ ys) gs ≡ classes_after ys (classes_after xs gs)
classes_split [] ys gs = refl
classes_split (x ∷ xs) ys gs = classes_split xs ys (and_grouping x.plain gs)

names_more : (y : Plain) (gs : List Grouping) (rest : List (List ℕ)) → map name_of (and_grouping y gs) ++ rest ≡ map name_of gs ++ (names_by kinds.Groupings y ++ rest)
names_more (grouping n a ts) gs rest =
    let g : Grouping = record { name = n; has = λ c. terms_have gs ts (term_has gs a c) c } in
    ap (λ l. l ++ rest) (map-append name_of gs (g ∷ [])) ∙ append_assoc (map name_of gs) (n ∷ []) rest
names_more _ gs rest = refl

pub class_names : (xs : List ItemInMode) (gs : List Grouping) → map name_of (classes_after xs gs) ≡ map name_of gs ++ known_in xs kinds.Groupings
class_names [] gs = sym (append-nil (map name_of gs))
class_names (x ∷ xs) gs = class_names xs (and_grouping x.plain gs) ∙ names_more x.plain gs (known_in xs kinds.Groupings)

-- ---- names among groupings

-- a name that is one of some stands for the same among more
class_kept : (gs more : List Grouping) (n : List ℕ) (c : ℕ) → is_member (map name_of gs) n ≡ true → char_class_of (gs ++ more) n c ≡ char_class_of gs n c
class_kept [] more n c h = absurd cc
class_kept (g ∷ gs) more n c h = at (bytes_eq g.name n) h (class_kept gs more n c)
  where
    at : (b : Bool) → cond b true (is_member (map name_of gs) n) ≡ true → (is_member (map name_of gs) n ≡ true → char_class_of (gs ++ more) n c ≡ char_class_of gs n c) → cond b (g.has c) (char_class_of (gs ++ more) n c) ≡ cond b (g.has c) (char_class_of gs n c)
    at true k rest = refl
    at false k rest = rest k

-- one that is none of some stands for the grouping after them, if it is that one's
class_after : (gs : List Grouping) (g : Grouping) (more : List Grouping) (n : List ℕ) (c : ℕ) → is_member (map name_of gs) n ≡ false → bytes_eq g.name n ≡ true → char_class_of (gs ++ g ∷ more) n c ≡ g.has c
class_after [] g more n c h k = ap (λ b. cond b (g.has c) (char_class_of more n c)) k
class_after (f ∷ gs) g more n c h k = at (bytes_eq f.name n) h (λ e. class_after gs g more n c e k)
  where
    at : (b : Bool) → cond b true (is_member (map name_of gs) n) ≡ false → (is_member (map name_of gs) n ≡ false → char_class_of (gs ++ g ∷ more) n c ≡ g.has c) → cond b (f.has c) (char_class_of (gs ++ g ∷ more) n c) ≡ g.has c
    at true e rest = absurd cc
    at false e rest = rest e

term_kept : (gs more : List Grouping) (a : Argument) (c : ℕ) → IsKnown (map name_of gs) a → term_has (gs ++ more) a c ≡ term_has gs a c
term_kept gs more (written_out q) c h = refl
term_kept gs more (by_name n) c h = class_kept gs more n c h

terms_kept : (gs more : List Grouping) (ts : List Term) (b : Bool) (c : ℕ) → AreKnown (map name_of gs) ts → terms_have (gs ++ more) ts b c ≡ terms_have gs ts b c
terms_kept gs more [] b c h = refl
terms_kept gs more (term Plus a ∷ ts) b c h =
    terms_kept gs more ts (b || term_has (gs ++ more) a c) c h.1 ∙ ap (λ k. terms_have gs ts (b || k) c) (term_kept gs more a c h.0)
terms_kept gs more (term Minus a ∷ ts) b c h =
    terms_kept gs more ts (b && not (term_has (gs ++ more) a c)) c h.1 ∙ ap (λ k. terms_have gs ts (b && not k) c) (term_kept gs more a c h.0)

-- ---- a script

same_name : (n : List ℕ) → bytes_eq n n ≡ true
same_name n = (bytes_eq-Decides n n).1 refl

module _ (bs after : List ItemInMode) (m : Mode) (n : List ℕ) (a : Argument) (ts : List Term) (names : AreNames bs n a ts) where
  abbrev gs : List Grouping
  gs = classes_after bs []

  abbrev g : Grouping
  g = record { name = n; has = λ c. terms_have gs ts (term_has gs a c) c }

  abbrev ours : List ItemInMode
  ours = bs ++ (record { mode = m; plain = grouping n a ts }) ∷ after

  abbrev all : List Grouping
  all = classes_after ours []

  known_names : map name_of gs ≡ known_in bs kinds.Groupings
  known_names = class_names bs []

  whole : (more : List Grouping) × (all ≡ gs ++ g ∷ more)
  whole =
      let rest = classes_more after (gs ++ g ∷ []) in
      (rest.0, classes_split bs ((record { mode = m; plain = grouping n a ts }) ∷ after) [] ∙ rest.1 ∙ append_assoc gs (g ∷ []) rest.0)

  class_is : (c : ℕ) → char_class_of all n c ≡ terms_have all ts (term_has all a c) c
  class_is c =
      let more = g ∷ whole.0 in
      ap (λ l. char_class_of l n c) whole.1
      ∙ class_after gs g whole.0 n c (ap (λ l. is_member l n) known_names ∙ names.once) (same_name n)
      ∙ sym (
      ap (λ l. terms_have l ts (term_has l a c) c) whole.1
      ∙ terms_kept gs more ts (term_has (gs ++ more) a c) c (subst (λ l. AreKnown l ts) (sym known_names) names.others)
      ∙ ap (λ k. terms_have gs ts k c) (term_kept gs more a c (subst (λ l. IsKnown l a) (sym known_names) names.first))
      )

pub groupings_are : WellDeclaredPasses → GroupingsAreTheirTerms
groupings_are passes script well n a ts defined c =
    let names = names_are script.items (record { each = (passes script.items script.external well).0 }) defined.0 defined.2 defined.1 n a ts defined.3 in
    let law : (items : List ItemInMode) → in_order script.items ≡ items → char_class_of (classes_after items []) n c ≡ terms_have (classes_after items []) ts (term_has (classes_after items []) a c) c → char_class_of (groupings_of script) n c ≡ terms_have (groupings_of script) ts (term_has (groupings_of script) a c) c = λ items e h. subst (λ l. char_class_of (classes_after l []) n c ≡ terms_have (classes_after l []) ts (term_has (classes_after l []) a c) c) (sym e) h in
    law _ defined.3 (class_is defined.0 defined.2 defined.1 n a ts names c)

-- ---- what the terms give

any_contains : (xs : List ℕ) (c : ℕ) → list_any (λ x. nat_eq x c) xs ≡ true → Contains xs c
any_contains [] c h = absurd cc
any_contains (x ∷ xs) c h = at (nat_eq x c) refl h (any_contains xs c)
  where
    at : (b : Bool) → nat_eq x c ≡ b → (b || list_any (λ y. nat_eq y c) xs) ≡ true → (list_any (λ y. nat_eq y c) xs ≡ true → Contains xs c) → Contains (x ∷ xs) c
    at true e k rest = (0, omega arith, eqb-true x c e)
    at false e k rest = let r = rest k in let low = r.1 in (suc r.0, omega arith, r.2)

or_either : (b c : Bool) → c ≡ true → (b || c) ≡ true
or_either true c h = refl
or_either false c h = h

contains_any : (xs : List ℕ) (c k : ℕ) → k < length xs → slice_index_or xs k c ≡ c → list_any (λ x. nat_eq x c) xs ≡ true
contains_any [] c k lt h = absurd (omega arith)
contains_any (x ∷ xs) c zero lt h = ap (λ b. b || list_any (λ y. nat_eq y c) xs) (eq-eqb x c h)
contains_any (x ∷ xs) c (suc k) lt h = or_either (nat_eq x c) (list_any (λ y. nat_eq y c) xs) (contains_any xs c k (omega arith) h)

has_by : (fs : List Grouping) (c : ℕ) (a : Argument) → term_has fs a c ≡ true → Has fs c a
has_by fs c (written_out q) h = any_contains q.value c h
has_by fs c (by_name n) h = h

by_has : (fs : List Grouping) (c : ℕ) (a : Argument) → Has fs c a → term_has fs a c ≡ true
by_has fs c (written_out q) h = contains_any q.value c h.0 h.1 h.2
by_has fs c (by_name n) h = h

module _ (all : List Grouping) (c : ℕ) where
  -- the character was there before the terms and stays, or is of the terms
  abbrev Stays : List Term → Bool → Type 0
  Stays ts b = ((b ≡ true) × AllByRecursion (Leaves all c) ts) ⊎ IsOfTerms all ts c

  later : (t : Term) (ts : List Term) → IsOfTerms all ts c → IsOfTerms all (t ∷ ts) c
  later t ts h = record { before = t ∷ h.before; added = h.added; after = h.after; parts = ap (λ l. t ∷ l) h.parts; has = h.has; stays = h.stays }

  leaves : (a : Argument) → term_has all a c ≡ false → Has all c a → ⊥
  leaves a e h = let k = by_has all c a h in cc

  stays_by : (ts : List Term) (b : Bool) → terms_have all ts b c ≡ true → Stays ts b
  stays_by [] b h = inl (h, tt)
  stays_by (term Plus a ∷ ts) b h = at (b || term_has all a c) refl (stays_by ts (b || term_has all a c) h)
    where
      mine : (k d : Bool) → b ≡ k → term_has all a c ≡ d → (k || d) ≡ true → AllByRecursion (Leaves all c) ts → Stays (term Plus a ∷ ts) b
      mine true d e f o l = inl (e, (tt, l))
      mine false true e f o l = inr (record { before = []; added = a; after = ts; parts = refl; has = has_by all c a f; stays = l })
      mine false false e f o l = absurd cc

      at : (k : Bool) → (b || term_has all a c) ≡ k → Stays ts (b || term_has all a c) → Stays (term Plus a ∷ ts) b
      at k e (inl s) = mine b (term_has all a c) refl refl s.0 s.1
      at k e (inr s) = inr (later (term Plus a) ts s)
  stays_by (term Minus a ∷ ts) b h = at (stays_by ts (b && not (term_has all a c)) h)
    where
      mine : (k d : Bool) → b ≡ k → term_has all a c ≡ d → (k && not d) ≡ true → AllByRecursion (Leaves all c) ts → Stays (term Minus a ∷ ts) b
      mine true false e f o l = inl (e, (leaves a f, l))
      mine true true e f o l = absurd cc
      mine false d e f o l = absurd cc

      at : Stays ts (b && not (term_has all a c)) → Stays (term Minus a ∷ ts) b
      at (inl s) = mine b (term_has all a c) refl refl s.0 s.1
      at (inr s) = inr (later (term Minus a) ts s)

  not_taken : (a : Argument) (b : Bool) → term_has all a c ≡ b → (Has all c a → ⊥) → not b ≡ true
  not_taken a true e l = absurd (l (has_by all c a e))
  not_taken a false e l = refl

  by_leaves : (ts : List Term) (b : Bool) → b ≡ true → AllByRecursion (Leaves all c) ts → terms_have all ts b c ≡ true
  by_leaves [] b h l = h
  by_leaves (term Plus a ∷ ts) b h l = by_leaves ts (b || term_has all a c) (ap (λ k. k || term_has all a c) h) l.1
  by_leaves (term Minus a ∷ ts) b h l = by_leaves ts (b && not (term_has all a c)) (ap (λ k. k && not (term_has all a c)) h ∙ not_taken a (term_has all a c) refl l.0) l.1

  by_parts : (before : List Term) (a : Argument) (after : List Term) (b : Bool) → Has all c a → AllByRecursion (Leaves all c) after → terms_have all (before ++ (term Plus a) ∷ after) b c ≡ true
  by_parts [] a after b h l = by_leaves after (b || term_has all a c) (or_either b (term_has all a c) (by_has all c a h)) l
  by_parts (term Plus x ∷ before) a after b h l = by_parts before a after (b || term_has all x c) h l
  by_parts (term Minus x ∷ before) a after b h l = by_parts before a after (b && not (term_has all x c)) h l

  by_terms : (ts : List Term) (b : Bool) → IsOfTerms all ts c → terms_have all ts b c ≡ true
  by_terms ts b h = ap (λ l. terms_have all l b c) h.parts ∙ by_parts h.before h.added h.after b h.has h.stays

  of_terms : (a : Argument) (ts : List Term) → terms_have all ts (term_has all a c) c ≡ true → IsOfTerms all (term Plus a ∷ ts) c
  of_terms a ts h = at (stays_by (term Plus a ∷ ts) false h)
    where
      at : Stays (term Plus a ∷ ts) false → IsOfTerms all (term Plus a ∷ ts) c
      at (inl s) = absurd cc
      at (inr s) = s

pub groupings_have : GroupingsAreTheirTerms → GroupingsHaveTheirTerms
groupings_have are script well n a ts defined c =
    let e = are script well n a ts defined c in
    ((λ h. of_terms (groupings_of script) c a ts (sym e ∙ h)), (λ h. e ∙ by_terms (groupings_of script) c (term Plus a ∷ ts) false h))
