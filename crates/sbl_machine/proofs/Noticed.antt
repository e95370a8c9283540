-- The first of what a script notices of which something is said: commands declare and define nothing.
use Rattle.std.proofs.Common.{◌≡◌, ℕ, ◌+◌, Bool, true, false, List, [], ◌∷◌, ◌++◌, Option, Some, None, refl, ap, ◌∙◌}
use Rattle.std.specs.Option.{option_or}
use Rattle.sbl_ast.specs.declared.tree.DeclarationKind.{DeclarationKind}
use Rattle.sbl_ast.specs.declared.tree.Prefix.{Prefix}
use Rattle.sbl_ast.specs.declared.tree.Prefix.TheVariants as prefixes
use Rattle.sbl_ast.specs.declared.tree.Simple.{Simple}
use Rattle.sbl_ast.specs.declared.tree.Simple.TheVariants as simples
use Rattle.sbl_ast.specs.Tree.{Argument, written_out, by_name, Expression, expression, Sums, no_sums, sum, Product, product, Scales, no_scales, scale, Factor, negated, bracketed, variable, length_of, Entry, entry, Command, bracket, simple_, literal_, name_, non_, prefixed, counted, move_, named, splice_, setlimit_, assign_, compare_, compare_values_, among_, Rows, no_rows, row, Others, no_others, joined, Starter, no_starter, starter, Groups, bare, group, Term, term, routine, grouping}
use Rattle.sbl_resolver.specs.declared.occurrences.Site.{Site}
use Rattle.sbl_resolver.specs.declared.occurrences.Use.TheVariants as use_as
use Rattle.sbl_resolver.specs.Occurrences.{Occurrence, Notice, put, uses, substring, among, string, backwards, region_end, declares, defines_routine, defines_grouping, amongs_in, noted_expression, use_of, noted_entry, noted_entries, is_empty, noted_command, noted_rows, noted_others, noted_groups, noted_plain, noted_name}
use Rattle.sbl_resolver.specs.OccurrenceView.{walked_expression, noted_sums, noted_product, noted_scales, noted_factor, noted_simple, noted_prefix, site_after, noted_condition, has_starter, noted_starter, noted_terms}
use Rattle.sbl_resolver.proofs.Walked.{expression_is, prefixed_is, among_is}
use Rattle.sbl_resolver.specs.Checks.{kind_of, defined_at, definition_of}
use Rattle.sbl_resolver.specs.inside.CheckParts.{declared_as}
use Rattle.sbl_resolver.proofs.Extends.{Extends}

-- ---- the first of some occurrences of which something is said

abbrev pub look : {X : Type 0} → (Occurrence → Option X) → List Occurrence → Option X
look f [] = None
look f (m ∷ ms) = option_or (f m) (look f ms)

or_assoc : {X : Type 0} (a b c : Option X) → option_or a (option_or b c) ≡ option_or (option_or a b) c
or_assoc (Some x) b c = refl
or_assoc None b c = refl

pub or_none : {X : Type 0} (a : Option X) → option_or a None ≡ a
or_none (Some x) = refl
or_none None = refl

look-append : {X : Type 0} (f : Occurrence → Option X) (xs ys : List Occurrence) → look f (xs ++ ys) ≡ option_or (look f xs) (look f ys)
look-append f [] ys = refl
look-append f (x ∷ xs) ys = ap (option_or (f x)) (look-append f xs ys) ∙ or_assoc (f x) (look f xs) (look f ys)

pub look_put : {X : Type 0} (f : Occurrence → Option X) (n : Notice) (p : Site) (s : List Occurrence) → look f (put n p s) ≡ option_or (look f s) (f (record { site = p; notice = n }))
look_put f n p s = look-append f s ((record { site = p; notice = n }) ∷ []) ∙ ap (option_or (look f s)) (or_none (f (record { site = p; notice = n })))

-- what was found before stays
pub look_kept : {X : Type 0} (f : Occurrence → Option X) (s t : List Occurrence) (x : X) → Extends s t → look f s ≡ Some x → look f t ≡ Some x
look_kept f s t x e h = ap (look f) e.is ∙ look-append f s e.more ∙ ap (λ o. option_or o (look f e.more)) h

abbrev pub kinds_at : List ℕ → Occurrence → Option DeclarationKind
kinds_at n m = declared_as n m.notice

pub kind_is : (n : List ℕ) (s : List Occurrence) → kind_of n s ≡ look (kinds_at n) s
kind_is n [] = refl
kind_is n (m ∷ ms) = ap (option_or (declared_as n m.notice)) (kind_is n ms)

pub site_is : (n : List ℕ) (s : List Occurrence) → definition_of n s ≡ look (defined_at n) s
site_is n [] = refl
site_is n (m ∷ ms) = ap (option_or (defined_at n m)) (site_is n ms)

-- ---- commands declare and define nothing

abbrev is_quiet : Notice → Bool
is_quiet (declares k x) = false
is_quiet (defines_routine x) = false
is_quiet (defines_grouping x) = false
is_quiet _ = true

module _ {X : Type 0} (f : Occurrence → Option X) (quiet : (n : Notice) (p : Site) → is_quiet n ≡ true → f (record { site = p; notice = n }) ≡ None) where
  abbrev Still : List Occurrence → List Occurrence → Type 0
  Still s t = look f t ≡ look f s

  put_still : (n : Notice) (p : Site) (s : List Occurrence) → is_quiet n ≡ true → Still s (put n p s)
  put_still n p s q = look_put f n p s ∙ ap (option_or (look f s)) (quiet n p q) ∙ or_none (look f s)

  string_still : (a : Argument) (p : Site) (s : List Occurrence) → Still s (noted_name use_as.String a p s)
  string_still (written_out q) p s = refl
  string_still (by_name n) p s = put_still (uses use_as.String n) p s refl

  mutual
    walked_still : (e : Expression) (p : Site) (s : List Occurrence) → Still s (walked_expression e p s)
    walked_still (expression x ss) p s = sums_still ss p (noted_product x p s) ∙ product_still x p s

    sums_still : (ss : Sums) (p : Site) (s : List Occurrence) → Still s (noted_sums ss p s)
    sums_still no_sums p s = refl
    sums_still (sum o x ss) p s = sums_still ss p (noted_product x p s) ∙ product_still x p s

    product_still : (x : Product) (p : Site) (s : List Occurrence) → Still s (noted_product x p s)
    product_still (product g ss) p s = scales_still ss p (noted_factor g p s) ∙ factor_still g p s

    scales_still : (ss : Scales) (p : Site) (s : List Occurrence) → Still s (noted_scales ss p s)
    scales_still no_scales p s = refl
    scales_still (scale o g ss) p s = scales_still ss p (noted_factor g p s) ∙ factor_still g p s

    factor_still : (g : Factor) (p : Site) (s : List Occurrence) → Still s (noted_factor g p s)
    factor_still (negated g) p s = factor_still g p s
    factor_still (bracketed e) p s = walked_still e p s
    factor_still (variable n) p s = put_still (uses use_as.Integer n) p s refl
    factor_still (length_of a) p s = string_still a p s
    factor_still _ p s = refl

  expression_still : (e : Expression) (p : Site) (s : List Occurrence) → Still s (noted_expression e p s)
  expression_still e p s = ap (look f) (expression_is e p s) ∙ walked_still e p s

  simple_still : (x : Simple) (p : Site) (s : List Occurrence) → Still s (noted_simple x p s)
  simple_still simples.Substring p s = put_still substring p s refl
  simple_still _ p s = refl

  prefix_still : (x : Prefix) (p : Site) (s : List Occurrence) → Still s (noted_prefix x p s)
  prefix_still prefixes.Backwards p s = put_still backwards p s refl
  prefix_still _ p s = refl

  condition_still : (c : Option (List ℕ)) (p : Site) (s : List Occurrence) → Still s (noted_condition c p s)
  condition_still None p s = refl
  condition_still (Some n) p s = put_still (uses use_as.Condition n) p s refl

  entry_still : (e : Entry) (o : ℕ) (p : Site) (s : List Occurrence) → Still s (noted_entry e o p s)
  entry_still (entry q c) o p s = condition_still c p (put (string o q.value) p s) ∙ put_still (string o q.value) p s refl

  entries_still : (es : List Entry) (o : ℕ) (p : Site) (s : List Occurrence) → Still s (noted_entries es o p s)
  entries_still [] o p s = refl
  entries_still (e ∷ es) o p s = entries_still es o p (noted_entry e o p s) ∙ entry_still e o p s

  mutual
    command_still : (t : Command) (p : Site) (s : List Occurrence) → Still s (noted_command t p s)
    command_still (bracket rs) p s = rows_still rs p s
    command_still (simple_ x) p s = simple_still x p s
    command_still (literal_ q) p s = refl
    command_still (name_ n) p s = put_still (uses use_as.Command n) p s refl
    command_still (non_ m n) p s = put_still (uses use_as.Excluded n) p s refl
    command_still (prefixed x c) p s = ap (look f) (prefixed_is x c p s) ∙ command_still c (site_after x p) (noted_prefix x p s) ∙ prefix_still x p s
    command_still (counted n e c) p s = command_still c p (noted_expression e p s) ∙ expression_still e p s
    command_still (move_ m e) p s = expression_still e p s
    command_still (named x n) p s = put_still (uses (use_of x) n) p s refl
    command_still (splice_ x a) p s = string_still a p s
    command_still (setlimit_ b c) p s = command_still c p (noted_command b p s) ∙ command_still b p s
    command_still (assign_ n o e) p s = expression_still e p (put (uses use_as.Integer n) p s) ∙ put_still (uses use_as.Integer n) p s refl
    command_still (compare_ n o e) p s = expression_still e p (put (uses use_as.Integer n) p s) ∙ put_still (uses use_as.Integer n) p s refl
    command_still (compare_values_ e o g) p s = expression_still g p (noted_expression e p s) ∙ expression_still e p s
    command_still (among_ x gs) p s =
        let t = put (among (has_starter x) (is_empty gs)) p s in
        ap (look f) (among_is x gs p s) ∙ groups_still gs (amongs_in s 0 + 1) p (noted_starter x p t) ∙ starter_still x p t ∙ put_still (among (has_starter x) (is_empty gs)) p s refl

    rows_still : (rs : Rows) (p : Site) (s : List Occurrence) → Still s (noted_rows rs p s)
    rows_still no_rows p s = refl
    rows_still (row c os rs) p s = rows_still rs p (noted_others os p (noted_command c p s)) ∙ others_still os p (noted_command c p s) ∙ command_still c p s

    others_still : (os : Others) (p : Site) (s : List Occurrence) → Still s (noted_others os p s)
    others_still no_others p s = refl
    others_still (joined j c os) p s = others_still os p (noted_command c p s) ∙ command_still c p s

    starter_still : (x : Starter) (p : Site) (s : List Occurrence) → Still s (noted_starter x p s)
    starter_still no_starter p s = refl
    starter_still (starter rs) p s = put_still region_end p (noted_rows rs p s) refl ∙ rows_still rs p s

    groups_still : (gs : Groups) (o : ℕ) (p : Site) (s : List Occurrence) → Still s (noted_groups gs o p s)
    groups_still (bare es) o p s = entries_still es o p s
    groups_still (group e es rs gs) o p s =
        let a = noted_entry e o p s in
        let b = noted_entries es o p a in
        let c = noted_rows rs p b in
        groups_still gs o p (put region_end p c) ∙ put_still region_end p c refl ∙ rows_still rs p b ∙ entries_still es o p a ∙ entry_still e o p s

  term_still : (a : Argument) (p : Site) (s : List Occurrence) → Still s (noted_name use_as.Term a p s)
  term_still (written_out q) p s = refl
  term_still (by_name n) p s = put_still (uses use_as.Term n) p s refl

  terms_still : (ts : List Term) (p : Site) (s : List Occurrence) → Still s (noted_terms ts p s)
  terms_still [] p s = refl
  terms_still (term o a ∷ ts) p s = terms_still ts p (noted_name use_as.Term a p s) ∙ term_still a p s

  -- after its first occurrence
  pub routine_still : (n : List ℕ) (c : Command) (os : Others) (p : Site) (s : List Occurrence) → Still (put (defines_routine n) p s) (noted_plain (routine n c os) p s)
  routine_still n c os p s =
      let a = put (defines_routine n) p s in
      put_still region_end p (noted_others os p (noted_command c p a)) refl ∙ others_still os p (noted_command c p a) ∙ command_still c p a

  pub grouping_still : (n : List ℕ) (a : Argument) (ts : List Term) (p : Site) (s : List Occurrence) → Still (put (defines_grouping n) p s) (noted_plain (grouping n a ts) p s)
  grouping_still n a ts p s = let b = put (defines_grouping n) p s in terms_still ts p (noted_name use_as.Term a p b) ∙ term_still a p b

pub kinds_quiet : (n : List ℕ) (x : Notice) (p : Site) → is_quiet x ≡ true → kinds_at n (record { site = p; notice = x }) ≡ None
kinds_quiet n (declares k x) p e = absurd cc
kinds_quiet n (defines_routine x) p e = absurd cc
kinds_quiet n (defines_grouping x) p e = absurd cc
kinds_quiet n _ p e = refl

pub sites_quiet : (n : List ℕ) (x : Notice) (p : Site) → is_quiet x ≡ true → defined_at n (record { site = p; notice = x }) ≡ None
sites_quiet n (declares k x) p e = absurd cc
sites_quiet n (defines_routine x) p e = absurd cc
sites_quiet n (defines_grouping x) p e = absurd cc
sites_quiet n _ p e = refl
