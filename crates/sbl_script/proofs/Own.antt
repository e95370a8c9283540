-- What an item has for its occurrences depends on that item alone.
use Rattle.std.proofs.Common.{◌≡◌, ℕ, ◌+◌, Bool, true, false, List, [], ◌∷◌, ◌++◌, Option, Some, None, refl, sym, ap, subst, ◌∙◌, append_assoc, append-nil}
use Rattle.std.specs.Prelude.{⊤}
use Rattle.sbl_ast.specs.declared.tree.DeclarationKind.{DeclarationKind}
use Rattle.sbl_ast.specs.declared.tree.Simple.{Simple}
use Rattle.sbl_ast.specs.declared.tree.Simple.TheVariants as simples
use Rattle.sbl_ast.specs.declared.tree.Prefix.{Prefix}
use Rattle.sbl_ast.specs.declared.tree.Prefix.TheVariants as prefixes
use Rattle.sbl_ast.specs.Tree.{Argument, written_out, by_name, Expression, expression, Sums, no_sums, sum, Product, product, Scales, no_scales, scale, Factor, negated, bracketed, variable, length_of, Entry, entry, Command, bracket, simple_, literal_, name_, non_, prefixed, counted, move_, named, splice_, setlimit_, assign_, compare_, compare_values_, among_, Rows, no_rows, row, Others, no_others, joined, Starter, no_starter, starter, Groups, bare, group, Term, term, Plain, declaration, escapes, macro, routine, grouping}
use Rattle.sbl_resolver.specs.declared.occurrences.Use.TheVariants as use_as
use Rattle.sbl_resolver.specs.declared.occurrences.Site.{Site}
use Rattle.sbl_resolver.specs.Occurrences.{Occurrence, Notice, put, uses, substring, among, string, backwards, region_end, declares, defines_routine, defines_grouping, amongs_in, noted_expression, use_of, noted_entry, noted_entries, is_empty, noted_command, noted_rows, noted_others, noted_groups, noted_plain, noted_name}
use Rattle.sbl_resolver.specs.inside.CheckParts.{amongs_after}
use Rattle.sbl_resolver.specs.OccurrenceView.{noted_names, walked_expression, noted_sums, noted_product, noted_scales, noted_factor, noted_simple, noted_prefix, site_after, noted_condition, has_starter, noted_starter, noted_terms}
use Rattle.sbl_resolver.proofs.Walked.{expression_is, prefixed_is, among_is}

-- it holds of each occurrence
abbrev pub Each : (Occurrence → Type 0) → List Occurrence → Type 0
Each Q [] = ⊤
Each Q (m ∷ ms) = Q m × Each Q ms

pub each_both : (Q : Occurrence → Type 0) (xs ys : List Occurrence) → Each Q xs → Each Q ys → Each Q (xs ++ ys)
each_both Q [] ys h g = g
each_both Q (x ∷ xs) ys h g = (h.0, each_both Q xs ys h.1 g)

pub each_as : (Q R : Occurrence → Type 0) → ((m : Occurrence) → Q m → R m) → (xs : List Occurrence) → Each Q xs → Each R xs
each_as Q R f [] h = tt
each_as Q R f (x ∷ xs) h = (f x h.0, each_as Q R f xs h.1)

-- What is put after some occurrences: such ones alone, and, where P holds of those, whatever stands before them.
pub record Own (P : List Occurrence → Type 0) (Q : Occurrence → Type 0) (f : List Occurrence → List Occurrence) : Type 0 where
  pub more : List Occurrence → List Occurrence
  pub is : (s : List Occurrence) → f s ≡ s ++ more s
  pub each : (s : List Occurrence) → Each Q (more s)
  pub alone : (a s : List Occurrence) → P s → f (a ++ s) ≡ a ++ f s

-- the routine that stands among some occurrences has its amongs counted whatever stands before them
pub record HasRoutine (s : List Occurrence) : Type 0 where
  pub counted : (j k : ℕ) → amongs_in s j ≡ amongs_in s k

amongs_both : (s t : List Occurrence) (k : ℕ) → amongs_in (s ++ t) k ≡ amongs_in t (amongs_in s k)
amongs_both [] t k = refl
amongs_both (m ∷ s) t k = amongs_both s t (amongs_after m.notice k)

routine_more : (s t : List Occurrence) → HasRoutine s → HasRoutine (s ++ t)
routine_more s t h = record { counted = λ j k. amongs_both s t j ∙ ap (amongs_in t) (h.counted j k) ∙ sym (amongs_both s t k) }

module _ (P : List Occurrence → Type 0) (kept : (s t : List Occurrence) → P s → P (s ++ t)) (Q : Occurrence → Type 0) where
  same : Own P Q (λ s. s)
  same = record { more = λ s. []; is = λ s. sym (append-nil s); each = λ s. tt; alone = λ a s h. refl }

  then_ : {f g : List Occurrence → List Occurrence} → Own P Q f → Own P Q g → Own P Q (λ s. g (f s))
  then_ {f} {g} h k = record {
    more = λ s. h.more s ++ k.more (f s);
    is = λ s. k.is (f s) ∙ ap (λ x. x ++ k.more (f s)) (h.is s) ∙ append_assoc s (h.more s) (k.more (f s));
    each = λ s. each_both Q (h.more s) (k.more (f s)) (h.each s) (k.each (f s));
    alone = λ a s p. ap g (h.alone a s p) ∙ k.alone a (f s) (holds s p);
  } where
    holds : (s : List Occurrence) → P s → P (f s)
    holds s p = subst P (sym (h.is s)) (kept s (h.more s) p)

  -- the same of a function that is equal at each list
  as_ : {f g : List Occurrence → List Occurrence} → Own P Q f → ((s : List Occurrence) → g s ≡ f s) → Own P Q g
  as_ {f} {g} h e = record {
    more = h.more;
    is = λ s. e s ∙ h.is s;
    each = h.each;
    alone = λ a s p. e (a ++ s) ∙ h.alone a s p ∙ ap (λ t. a ++ t) (sym (e s));
  }

  put_own : (n : Notice) (p : Site) → Q (record { site = p; notice = n }) → Own P Q (λ s. put n p s)
  put_own n p q = record {
    more = λ s. (record { site = p; notice = n }) ∷ [];
    is = λ s. refl;
    each = λ s. (q, tt);
    alone = λ a s h. append_assoc a s ((record { site = p; notice = n }) ∷ []);
  }

-- ---- commands

-- it declares and defines nothing
abbrev pub is_quiet : Notice → Bool
is_quiet (declares k x) = false
is_quiet (defines_routine x) = false
is_quiet (defines_grouping x) = false
is_quiet _ = true

-- it is one of a command of this item
abbrev pub IsOfCommand : ℕ → Occurrence → Type 0
IsOfCommand i m = (m.site.item ≡ i) × (is_quiet m.notice ≡ true)

after_item : (x : Prefix) (p : Site) → (site_after x p).item ≡ p.item
after_item prefixes.Backwards p = refl
after_item _ p = refl

module _ (i : ℕ) where
  abbrev Ours : (List Occurrence → List Occurrence) → Type 0
  Ours f = Own HasRoutine (IsOfCommand i) f

  none : Ours (λ s. s)
  none = same HasRoutine routine_more (IsOfCommand i)

  and_ : {f g : List Occurrence → List Occurrence} → Ours f → Ours g → Ours (λ s. g (f s))
  and_ h k = then_ HasRoutine routine_more (IsOfCommand i) h k

  like : {f g : List Occurrence → List Occurrence} → Ours f → ((s : List Occurrence) → g s ≡ f s) → Ours g
  like h e = as_ HasRoutine routine_more (IsOfCommand i) h e

  one : (n : Notice) (p : Site) → p.item ≡ i → is_quiet n ≡ true → Ours (λ s. put n p s)
  one n p h q = put_own HasRoutine routine_more (IsOfCommand i) n p (h, q)

  string_own : (a : Argument) (p : Site) → p.item ≡ i → Ours (λ s. noted_name use_as.String a p s)
  string_own (written_out q) p h = none
  string_own (by_name n) p h = one (uses use_as.String n) p h refl

  mutual
    walked_own : (e : Expression) (p : Site) → p.item ≡ i → Ours (λ s. walked_expression e p s)
    walked_own (expression x ss) p h = and_ (product_own x p h) (sums_own ss p h)

    sums_own : (ss : Sums) (p : Site) → p.item ≡ i → Ours (λ s. noted_sums ss p s)
    sums_own no_sums p h = none
    sums_own (sum o x ss) p h = and_ (product_own x p h) (sums_own ss p h)

    product_own : (x : Product) (p : Site) → p.item ≡ i → Ours (λ s. noted_product x p s)
    product_own (product f ss) p h = and_ (factor_own f p h) (scales_own ss p h)

    scales_own : (ss : Scales) (p : Site) → p.item ≡ i → Ours (λ s. noted_scales ss p s)
    scales_own no_scales p h = none
    scales_own (scale o f ss) p h = and_ (factor_own f p h) (scales_own ss p h)

    factor_own : (f : Factor) (p : Site) → p.item ≡ i → Ours (λ s. noted_factor f p s)
    factor_own (negated f) p h = factor_own f p h
    factor_own (bracketed e) p h = walked_own e p h
    factor_own (variable n) p h = one (uses use_as.Integer n) p h refl
    factor_own (length_of a) p h = string_own a p h
    factor_own _ p h = none

  expression_own : (e : Expression) (p : Site) → p.item ≡ i → Ours (λ s. noted_expression e p s)
  expression_own e p h = like (walked_own e p h) (λ s. expression_is e p s)

  simple_own : (x : Simple) (p : Site) → p.item ≡ i → Ours (λ s. noted_simple x p s)
  simple_own simples.Substring p h = one substring p h refl
  simple_own _ p h = none

  prefix_own : (x : Prefix) (p : Site) → p.item ≡ i → Ours (λ s. noted_prefix x p s)
  prefix_own prefixes.Backwards p h = one backwards p h refl
  prefix_own _ p h = none

  condition_own : (c : Option (List ℕ)) (p : Site) → p.item ≡ i → Ours (λ s. noted_condition c p s)
  condition_own None p h = none
  condition_own (Some n) p h = one (uses use_as.Condition n) p h refl

  entry_own : (e : Entry) (k : ℕ) (p : Site) → p.item ≡ i → Ours (λ s. noted_entry e k p s)
  entry_own (entry q c) k p h = and_ (one (string k q.value) p h refl) (condition_own c p h)

  entries_own : (es : List Entry) (k : ℕ) (p : Site) → p.item ≡ i → Ours (λ s. noted_entries es k p s)
  entries_own [] k p h = none
  entries_own (e ∷ es) k p h = and_ (entry_own e k p h) (entries_own es k p h)

  -- what goes by the number of the among that comes next
  ours_by_number : (f : ℕ → List Occurrence → List Occurrence) → ((k : ℕ) → Ours (f k)) → Ours (λ s. f (amongs_in s 0 + 1) s)
  ours_by_number f h = record {
    more = λ s. (h (amongs_in s 0 + 1)).more s;
    is = λ s. (h (amongs_in s 0 + 1)).is s;
    each = λ s. (h (amongs_in s 0 + 1)).each s;
    alone = λ a s r. ap (λ k. f (k + 1) (a ++ s)) (amongs_both a s 0 ∙ r.counted (amongs_in a 0) 0) ∙ (h (amongs_in s 0 + 1)).alone a s r;
  }

  mutual
    command_own : (t : Command) (p : Site) → p.item ≡ i → Ours (λ s. noted_command t p s)
    command_own (bracket rs) p h = rows_own rs p h
    command_own (simple_ x) p h = simple_own x p h
    command_own (literal_ q) p h = none
    command_own (name_ n) p h = one (uses use_as.Command n) p h refl
    command_own (non_ m n) p h = one (uses use_as.Excluded n) p h refl
    command_own (prefixed x c) p h = like (and_ (prefix_own x p h) (command_own c (site_after x p) (after_item x p ∙ h))) (λ s. prefixed_is x c p s)
    command_own (counted n e c) p h = and_ (expression_own e p h) (command_own c p h)
    command_own (move_ m e) p h = expression_own e p h
    command_own (named x n) p h = one (uses (use_of x) n) p h refl
    command_own (splice_ x a) p h = string_own a p h
    command_own (setlimit_ b c) p h = and_ (command_own b p h) (command_own c p h)
    command_own (assign_ n o e) p h = and_ (one (uses use_as.Integer n) p h refl) (expression_own e p h)
    command_own (compare_ n o e) p h = and_ (one (uses use_as.Integer n) p h refl) (expression_own e p h)
    command_own (compare_values_ e o f) p h = and_ (expression_own e p h) (expression_own f p h)
    command_own (among_ x gs) p h =
        let n = among (has_starter x) (is_empty gs) in
        like (ours_by_number (λ k s. noted_groups gs k p (noted_starter x p (put n p s))) (λ k. and_ (one n p h refl) (and_ (starter_own x p h) (groups_own gs k p h)))) (λ s. among_is x gs p s)

    rows_own : (rs : Rows) (p : Site) → p.item ≡ i → Ours (λ s. noted_rows rs p s)
    rows_own no_rows p h = none
    rows_own (row c os rs) p h = and_ (command_own c p h) (and_ (others_own os p h) (rows_own rs p h))

    others_own : (os : Others) (p : Site) → p.item ≡ i → Ours (λ s. noted_others os p s)
    others_own no_others p h = none
    others_own (joined j c os) p h = and_ (command_own c p h) (others_own os p h)

    starter_own : (x : Starter) (p : Site) → p.item ≡ i → Ours (λ s. noted_starter x p s)
    starter_own no_starter p h = none
    starter_own (starter rs) p h = and_ (rows_own rs p h) (one region_end p h refl)

    groups_own : (gs : Groups) (k : ℕ) (p : Site) → p.item ≡ i → Ours (λ s. noted_groups gs k p s)
    groups_own (bare es) k p h = entries_own es k p h
    groups_own (group e es rs gs) k p h = and_ (entry_own e k p h) (and_ (entries_own es k p h) (and_ (rows_own rs p h) (and_ (one region_end p h refl) (groups_own gs k p h))))

-- ---- items

-- the occurrences of a routine's body, after its definition
abbrev of_body : Command → Others → Site → List Occurrence → List Occurrence
of_body c os p s = put region_end p (noted_others os p (noted_command c p s))

body_own : (c : Command) (os : Others) (p : Site) → Own HasRoutine (IsOfCommand p.item) (λ s. of_body c os p s)
body_own c os p = and_ p.item (command_own p.item c p refl) (and_ p.item (others_own p.item os p refl) (one p.item region_end p refl refl))

-- a routine has its definition, its commands and the end of its region for occurrences
pub record RoutineParts (n : List ℕ) (p : Site) (own : List Occurrence) : Type 0 where
  pub commands : List Occurrence
  pub are : own ≡ (record { site = p; notice = defines_routine n }) ∷ (commands ++ (record { site = p; notice = region_end }) ∷ [])
  pub each : Each (IsOfCommand p.item) commands

has_routine_put : (n : List ℕ) (p : Site) (s : List Occurrence) → HasRoutine (put (defines_routine n) p s)
has_routine_put n p s = record { counted = λ j k. amongs_both s ((record { site = p; notice = defines_routine n }) ∷ []) j ∙ sym (amongs_both s ((record { site = p; notice = defines_routine n }) ∷ []) k) }

pub routine_parts : (n : List ℕ) (c : Command) (os : Others) (p : Site) → RoutineParts n p (noted_plain (routine n c os) p [])
routine_parts n c os p =
    let commands = and_ p.item (command_own p.item c p refl) (others_own p.item os p refl) in
    let a = put (defines_routine n) p [] in
    record {
      commands = commands.more a;
      are = ap (λ s. put region_end p s) (commands.is a);
      each = commands.each a;
    }

-- what stands in a declaration or in a grouping
abbrev pub IsOfList : ℕ → Occurrence → Type 0
IsOfList i m = (m.site.item ≡ i) × (m.notice ≡ substring → ⊥)

abbrev Any : List Occurrence → Type 0
Any s = ⊤

any_more : (s t : List Occurrence) → Any s → Any (s ++ t)
any_more s t h = tt

no_declaration : (k : DeclarationKind) (n : List ℕ) → declares k n ≡ substring → ⊥
no_declaration k n e = cc

no_use : (n : List ℕ) → uses use_as.Term n ≡ substring → ⊥
no_use n e = cc

no_grouping : (n : List ℕ) → defines_grouping n ≡ substring → ⊥
no_grouping n e = cc

names_own : (k : DeclarationKind) (ns : List (List ℕ)) (p : Site) → Own Any (IsOfList p.item) (λ s. noted_names k ns p s)
names_own k [] p = same Any any_more (IsOfList p.item)
names_own k (n ∷ ns) p = then_ Any any_more (IsOfList p.item) (put_own Any any_more (IsOfList p.item) (declares k n) p (refl, no_declaration k n)) (names_own k ns p)

module _ (p : Site) (Q : Occurrence → Type 0) (q : (n : List ℕ) → Q (record { site = p; notice = uses use_as.Term n })) where
  term_own : (a : Argument) → Own Any Q (λ s. noted_name use_as.Term a p s)
  term_own (written_out l) = same Any any_more Q
  term_own (by_name n) = put_own Any any_more Q (uses use_as.Term n) p (q n)

  terms_own : (ts : List Term) → Own Any Q (λ s. noted_terms ts p s)
  terms_own [] = same Any any_more Q
  terms_own (term o a ∷ ts) = then_ Any any_more Q (term_own a) (terms_own ts)

grouping_own : (n : List ℕ) (a : Argument) (ts : List Term) (p : Site) → Own Any (IsOfList p.item) (λ s. noted_plain (grouping n a ts) p s)
grouping_own n a ts p =
    let q : (m : List ℕ) → IsOfList p.item (record { site = p; notice = uses use_as.Term m }) = λ m. (refl, no_use m) in
    then_ Any any_more (IsOfList p.item) (put_own Any any_more (IsOfList p.item) (defines_grouping n) p (refl, no_grouping n)) (then_ Any any_more (IsOfList p.item) (term_own p (IsOfList p.item) q a) (terms_own p (IsOfList p.item) q ts))

-- it is a use in this item
abbrev pub is_use : Notice → Bool
is_use (uses u n) = true
is_use _ = false

abbrev pub IsUse : ℕ → Occurrence → Type 0
IsUse i m = (m.site.item ≡ i) × (is_use m.notice ≡ true)

-- a grouping has its definition and its terms for occurrences
pub record GroupingParts (n : List ℕ) (p : Site) (own : List Occurrence) : Type 0 where
  pub names : List Occurrence
  pub are : own ≡ (record { site = p; notice = defines_grouping n }) ∷ names
  pub each : Each (IsUse p.item) names

pub grouping_parts : (n : List ℕ) (a : Argument) (ts : List Term) (p : Site) → GroupingParts n p (noted_plain (grouping n a ts) p [])
grouping_parts n a ts p =
    let q : (m : List ℕ) → IsUse p.item (record { site = p; notice = uses use_as.Term m }) = λ m. (refl, refl) in
    let names = then_ Any any_more (IsUse p.item) (term_own p (IsUse p.item) q a) (terms_own p (IsUse p.item) q ts) in
    let start = put (defines_grouping n) p [] in
    record {
      names = names.more start;
      are = names.is start;
      each = names.each start;
    }

-- an item has the same occurrences whatever stands before it
pub plain_alone : (x : Plain) (p : Site) (a s : List Occurrence) → noted_plain x p (a ++ s) ≡ a ++ noted_plain x p s
plain_alone (declaration k ns) p a s = (names_own k ns p).alone a s tt
plain_alone (escapes x y) p a s = refl
plain_alone (macro n b q) p a s = refl
plain_alone (routine n c os) p a s =
    ap (λ t. of_body c os p t) (append_assoc a s ((record { site = p; notice = defines_routine n }) ∷ [])) ∙ (body_own c os p).alone a (put (defines_routine n) p s) (has_routine_put n p s)
plain_alone (grouping n x ts) p a s = (grouping_own n x ts p).alone a s tt

pub names_are : (k : DeclarationKind) (ns : List (List ℕ)) (p : Site) → Each (IsOfList p.item) (noted_names k ns p [])
names_are k ns p = subst (Each (IsOfList p.item)) (sym ((names_own k ns p).is [])) ((names_own k ns p).each [])

pub grouping_are : (n : List ℕ) (a : Argument) (ts : List Term) (p : Site) → Each (IsOfList p.item) (noted_plain (grouping n a ts) p [])
grouping_are n a ts p = subst (Each (IsOfList p.item)) (sym ((grouping_own n a ts p).is [])) ((grouping_own n a ts p).each [])
