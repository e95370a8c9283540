-- What the checks look at in a tree are, one for one, the subject tokens of its text.
use Rattle.std.proofs.Common.{◌≡◌, ℕ, ◌+◌, Bool, true, false, List, [], ◌∷◌, ◌++◌, map, Option, Some, None, refl, sym, ap, ◌∙◌, append-nil}
use Rattle.sbl_text.specs.Tokens.{PlacedToken}
use Rattle.sbl_ast.specs.declared.mode.Mode.TheVariants.{Forward, Backward}
use Rattle.sbl_ast.specs.declared.tree.DeclarationKind.{DeclarationKind}
use Rattle.sbl_ast.specs.declared.tree.Simple.{Simple}
use Rattle.sbl_ast.specs.declared.tree.Simple.TheVariants as simples
use Rattle.sbl_ast.specs.declared.tree.Prefix.{Prefix}
use Rattle.sbl_ast.specs.declared.tree.Prefix.TheVariants as prefixes
use Rattle.sbl_ast.specs.Terminal.{Terminal, terminal_of}
use Rattle.sbl_ast.specs.Tree.{QuotedText, Argument, written_out, by_name, Expression, expression, Sums, no_sums, sum, Product, product, Scales, no_scales, scale, Factor, negated, bracketed, numeral, variable, fixed, length_of, Entry, entry, Command, bracket, simple_, literal_, name_, non_, prefixed, counted, move_, named, splice_, setlimit_, assign_, compare_, compare_values_, among_, Rows, no_rows, row, Others, no_others, joined, Starter, no_starter, starter, Groups, bare, group, Term, term, Plain, declaration, escapes, macro, routine, grouping, Item, plain, backward}
use Rattle.sbl_ast.specs.Terminal as t
use Rattle.sbl_ast.specs.Spelled.{argument_terminal, spelled_expression, spelled_sums, spelled_product, spelled_scales, spelled_factor, spelled_entry, spelled_entries, spelled_command, spelled_rows, spelled_others, spelled_starter, spelled_groups, spelled_names, spelled_terms, spelled_plain, spelled_plains, spelled_items, script_tokens}
use Rattle.sbl_ast.specs.Order.{ItemInMode, in_order}
use Rattle.sbl_ast.specs.inside.OrderParts.{in_mode}
use Rattle.sbl_resolver.specs.declared.occurrences.Use.TheVariants as use_as
use Rattle.sbl_resolver.specs.declared.occurrences.Site.{Site}
use Rattle.sbl_resolver.specs.Occurrences.{Occurrence, Notice, put, uses, substring, among, string, backwards, region_end, declares, defines_routine, defines_grouping, amongs_in, noted_expression, use_of, noted_entry, noted_entries, is_empty, noted_command, noted_rows, noted_others, noted_groups, noted_plain, noted_items, occurrences_of, noted_name}
use Rattle.sbl_resolver.specs.OccurrenceView.{noted_names, walked_expression, noted_sums, noted_product, noted_scales, noted_factor, noted_simple, noted_prefix, site_after, has_starter, noted_starter, noted_terms}
use Rattle.sbl_resolver.proofs.Walked.{expression_is, prefixed_is, among_is}
use Rattle.sbl_resolver.specs.Subjects.{Subject, subject_of, subjects_of, and_more}
use Rattle.sbl_source_map.specs.SubjectTokens.{SubjectToken, string_if, is_in_among, subject_tokens, subject_tokens_after, subjects}
use Rattle.sbl_source_map.proofs.Roles.{is_among, open_after, subject_in, same}
use Rattle.sbl_source_map.specs.SubjectTokens as tokens

-- ---- tokens without their places

abbrev subjects_from : Bool → List Bool → List Terminal → List Subject
subjects_from f o [] = []
subjects_from f o (x ∷ xs) = and_more (subject_in (is_in_among o) x) (subjects_from (is_among x) (open_after f x o) xs)

abbrev terminals : List PlacedToken → List Terminal
terminals ts = map (λ (u : PlacedToken). terminal_of u.lexeme) ts

same_subjects : (f : Bool) (o : List Bool) (ts : List PlacedToken) → subjects (subject_tokens_after f o ts) ≡ subjects_from f o (terminals ts)
same_subjects f o [] = refl
same_subjects f o (u ∷ ts) =
    let x = terminal_of u.lexeme in
    let found = tokens.subject_in (is_in_among o) u.lexeme in
    let follows = tokens.is_among u.lexeme in
    let brackets = tokens.open_after f u.lexeme o in
    let by_role = same u.lexeme in
    one found u (subject_tokens_after follows brackets ts)
    ∙ ap (and_more found) (same_subjects follows brackets ts)
    ∙ ap (λ (y : Option Subject). and_more y (subjects_from follows brackets (terminals ts))) (by_role.0 (is_in_among o))
    ∙ ap (λ (b : Bool). and_more (subject_in (is_in_among o) x) (subjects_from b brackets (terminals ts))) by_role.1
    ∙ ap (λ (r : List Bool). and_more (subject_in (is_in_among o) x) (subjects_from (is_among x) r (terminals ts))) (by_role.2 f o) where
      one : (s : Option Subject) (v : PlacedToken) (more : List SubjectToken) → subjects (tokens.and_more s v more) ≡ and_more s (subjects more)
      one None v more = refl
      one (Some y) v more = refl

-- what is in these tokens, inside these parentheses
abbrev at : List Bool → List Terminal → List Subject
at o ts = subjects_from false o ts

-- ---- one occurrence more

put_one : (s : List Occurrence) (m : Occurrence) (more : List Subject) → subjects_of (s ++ m ∷ []) ++ more ≡ subjects_of s ++ and_more (subject_of m.notice) more
put_one [] m more = go (subject_of m.notice) where
  go : (x : Option Subject) → and_more x [] ++ more ≡ and_more x more
  go None = refl
  go (Some x) = refl
put_one (y ∷ s) m more = go (subject_of y.notice) (put_one s m more) where
  go : (x : Option Subject) → subjects_of (s ++ m ∷ []) ++ more ≡ subjects_of s ++ and_more (subject_of m.notice) more → and_more x (subjects_of (s ++ m ∷ [])) ++ more ≡ and_more x (subjects_of s) ++ and_more (subject_of m.notice) more
  go None e = e
  go (Some x) e = ap (λ (xs : List Subject). x ∷ xs) e

one : (n : Notice) (p : Site) (s : List Occurrence) (more : List Subject) → subjects_of (put n p s) ++ more ≡ subjects_of s ++ and_more (subject_of n) more
one n p s more = put_one s (record { site = p; notice = n }) more

-- a literal that is not right in the parentheses of an among is nothing to the checks
quiet : (q : QuotedText) (s : List Occurrence) (o : List Bool) (rest : List Terminal) → is_in_among o ≡ false → subjects_of s ++ at o rest ≡ subjects_of s ++ at o (t.literal q ∷ rest)
quiet q s o rest h = ap (λ (b : Bool). subjects_of s ++ and_more (string_if b q.value) (at o rest)) (sym h)

-- ---- arithmetic

string_agree : (a : Argument) (p : Site) (s : List Occurrence) (o : List Bool) (rest : List Terminal) → is_in_among o ≡ false → subjects_of (noted_name use_as.String a p s) ++ at o rest ≡ subjects_of s ++ at o (argument_terminal a ∷ rest)
string_agree (written_out q) p s o rest h = quiet q s o rest h
string_agree (by_name n) p s o rest h = one (uses use_as.String n) p s (at o rest)

mutual
  walked_agree : (e : Expression) (p : Site) (s : List Occurrence) (o : List Bool) (rest : List Terminal) → is_in_among o ≡ false → subjects_of (walked_expression e p s) ++ at o rest ≡ subjects_of s ++ at o (spelled_expression e rest)
  walked_agree (expression x ss) p s o rest h = sums_agree ss p (noted_product x p s) o rest h ∙ product_agree x p s o (spelled_sums ss rest) h

  sums_agree : (ss : Sums) (p : Site) (s : List Occurrence) (o : List Bool) (rest : List Terminal) → is_in_among o ≡ false → subjects_of (noted_sums ss p s) ++ at o rest ≡ subjects_of s ++ at o (spelled_sums ss rest)
  sums_agree no_sums p s o rest h = refl
  sums_agree (sum d x ss) p s o rest h = sums_agree ss p (noted_product x p s) o rest h ∙ product_agree x p s o (spelled_sums ss rest) h

  product_agree : (x : Product) (p : Site) (s : List Occurrence) (o : List Bool) (rest : List Terminal) → is_in_among o ≡ false → subjects_of (noted_product x p s) ++ at o rest ≡ subjects_of s ++ at o (spelled_product x rest)
  product_agree (product f ss) p s o rest h = scales_agree ss p (noted_factor f p s) o rest h ∙ factor_agree f p s o (spelled_scales ss rest) h

  scales_agree : (ss : Scales) (p : Site) (s : List Occurrence) (o : List Bool) (rest : List Terminal) → is_in_among o ≡ false → subjects_of (noted_scales ss p s) ++ at o rest ≡ subjects_of s ++ at o (spelled_scales ss rest)
  scales_agree no_scales p s o rest h = refl
  scales_agree (scale d f ss) p s o rest h = scales_agree ss p (noted_factor f p s) o rest h ∙ factor_agree f p s o (spelled_scales ss rest) h

  factor_agree : (f : Factor) (p : Site) (s : List Occurrence) (o : List Bool) (rest : List Terminal) → is_in_among o ≡ false → subjects_of (noted_factor f p s) ++ at o rest ≡ subjects_of s ++ at o (spelled_factor f rest)
  factor_agree (negated f) p s o rest h = factor_agree f p s o rest h
  factor_agree (bracketed e) p s o rest h = walked_agree e p s (false ∷ o) (t.close_ ∷ rest) refl
  factor_agree (numeral n) p s o rest h = refl
  factor_agree (variable n) p s o rest h = one (uses use_as.Integer n) p s (at o rest)
  factor_agree (fixed c) p s o rest h = refl
  factor_agree (length_of a) p s o rest h = string_agree a p s o rest h

expression_agree : (e : Expression) (p : Site) (s : List Occurrence) (o : List Bool) (rest : List Terminal) → is_in_among o ≡ false → subjects_of (noted_expression e p s) ++ at o rest ≡ subjects_of s ++ at o (spelled_expression e rest)
expression_agree e p s o rest h = ap (λ (l : List Occurrence). subjects_of l ++ at o rest) (expression_is e p s) ∙ walked_agree e p s o rest h

-- ---- commands

simple_agree : (x : Simple) (p : Site) (s : List Occurrence) (o : List Bool) (rest : List Terminal) → subjects_of (noted_simple x p s) ++ at o rest ≡ subjects_of s ++ at o (t.simple x ∷ rest)
simple_agree simples.Substring p s o rest = one substring p s (at o rest)
simple_agree _ p s o rest = refl

prefix_agree : (x : Prefix) (p : Site) (s : List Occurrence) (o : List Bool) (rest : List Terminal) → subjects_of (noted_prefix x p s) ++ at o rest ≡ subjects_of s ++ at o (t.prefix x ∷ rest)
prefix_agree prefixes.Backwards p s o rest = one backwards p s (at o rest)
prefix_agree _ p s o rest = refl

-- a string of an among, and its condition
entry_agree : (e : Entry) (k : ℕ) (p : Site) (s : List Occurrence) (o : List Bool) (rest : List Terminal) → subjects_of (noted_entry e k p s) ++ at (true ∷ o) rest ≡ subjects_of s ++ at (true ∷ o) (spelled_entry e rest)
entry_agree (entry q None) k p s o rest = one (string k q.value) p s (at (true ∷ o) rest)
entry_agree (entry q (Some n)) k p s o rest =
    one (uses use_as.Condition n) p (put (string k q.value) p s) (at (true ∷ o) rest) ∙ one (string k q.value) p s (at (true ∷ o) (t.name n ∷ rest))

entries_agree : (es : List Entry) (k : ℕ) (p : Site) (s : List Occurrence) (o : List Bool) (rest : List Terminal) → subjects_of (noted_entries es k p s) ++ at (true ∷ o) rest ≡ subjects_of s ++ at (true ∷ o) (spelled_entries es rest)
entries_agree [] k p s o rest = refl
entries_agree (e ∷ es) k p s o rest = entries_agree es k p (noted_entry e k p s) o rest ∙ entry_agree e k p s o (spelled_entries es rest)

mutual
  agree : (c : Command) (p : Site) (s : List Occurrence) (o : List Bool) (rest : List Terminal) → is_in_among o ≡ false → subjects_of (noted_command c p s) ++ at o rest ≡ subjects_of s ++ at o (spelled_command c rest)
  agree (bracket rs) p s o rest h = rows_agree rs p s (false ∷ o) (t.close_ ∷ rest) refl
  agree (simple_ x) p s o rest h = simple_agree x p s o rest
  agree (literal_ q) p s o rest h = quiet q s o rest h
  agree (name_ n) p s o rest h = one (uses use_as.Command n) p s (at o rest)
  agree (non_ true n) p s o rest h = one (uses use_as.Excluded n) p s (at o rest)
  agree (non_ false n) p s o rest h = one (uses use_as.Excluded n) p s (at o rest)
  agree (prefixed x c) p s o rest h =
      ap (λ (l : List Occurrence). subjects_of l ++ at o rest) (prefixed_is x c p s)
      ∙ agree c (site_after x p) (noted_prefix x p s) o rest h ∙ prefix_agree x p s o (spelled_command c rest)
  agree (counted n e c) p s o rest h = agree c p (noted_expression e p s) o rest h ∙ expression_agree e p s o (spelled_command c rest) h
  agree (move_ m e) p s o rest h = expression_agree e p s o rest h
  agree (named x n) p s o rest h = one (uses (use_of x) n) p s (at o rest)
  agree (splice_ x a) p s o rest h = string_agree a p s o rest h
  agree (setlimit_ b c) p s o rest h = agree c p (noted_command b p s) o rest h ∙ agree b p s o (t.for_ ∷ spelled_command c rest) h
  agree (assign_ n d e) p s o rest h =
      expression_agree e p (put (uses use_as.Integer n) p s) o rest h ∙ one (uses use_as.Integer n) p s (at o (t.assigns d ∷ spelled_expression e rest))
  agree (compare_ n d e) p s o rest h =
      expression_agree e p (put (uses use_as.Integer n) p s) o rest h ∙ one (uses use_as.Integer n) p s (at o (t.compares d ∷ spelled_expression e rest))
  agree (compare_values_ e d f) p s o rest h =
      expression_agree f p (noted_expression e p s) (false ∷ o) (t.close_ ∷ rest) refl
      ∙ expression_agree e p s (false ∷ o) (t.compares d ∷ spelled_expression f (t.close_ ∷ rest)) refl
  agree (among_ x gs) p s o rest h =
      let n = among (has_starter x) (is_empty gs) in
      ap (λ (l : List Occurrence). subjects_of l ++ at o rest) (among_is x gs p s)
      ∙ groups_agree gs (amongs_in s 0 + 1) p (noted_starter x p (put n p s)) o (t.close_ ∷ rest)
      ∙ starter_agree x p (put n p s) o (spelled_groups gs (t.close_ ∷ rest))
      ∙ one n p s (at (true ∷ o) (spelled_starter x (spelled_groups gs (t.close_ ∷ rest))))

  rows_agree : (rs : Rows) (p : Site) (s : List Occurrence) (o : List Bool) (rest : List Terminal) → is_in_among o ≡ false → subjects_of (noted_rows rs p s) ++ at o rest ≡ subjects_of s ++ at o (spelled_rows rs rest)
  rows_agree no_rows p s o rest h = refl
  rows_agree (row c os rs) p s o rest h =
      rows_agree rs p (noted_others os p (noted_command c p s)) o rest h
      ∙ others_agree os p (noted_command c p s) o (spelled_rows rs rest) h
      ∙ agree c p s o (spelled_others os (spelled_rows rs rest)) h

  others_agree : (os : Others) (p : Site) (s : List Occurrence) (o : List Bool) (rest : List Terminal) → is_in_among o ≡ false → subjects_of (noted_others os p s) ++ at o rest ≡ subjects_of s ++ at o (spelled_others os rest)
  others_agree no_others p s o rest h = refl
  others_agree (joined j c os) p s o rest h = others_agree os p (noted_command c p s) o rest h ∙ agree c p s o (spelled_others os rest) h

  starter_agree : (x : Starter) (p : Site) (s : List Occurrence) (o : List Bool) (rest : List Terminal) → subjects_of (noted_starter x p s) ++ at (true ∷ o) rest ≡ subjects_of s ++ at (true ∷ o) (spelled_starter x rest)
  starter_agree no_starter p s o rest = refl
  starter_agree (starter rs) p s o rest = one region_end p (noted_rows rs p s) (at (true ∷ o) rest) ∙ rows_agree rs p s (false ∷ true ∷ o) (t.close_ ∷ rest) refl

  groups_agree : (gs : Groups) (k : ℕ) (p : Site) (s : List Occurrence) (o : List Bool) (rest : List Terminal) → subjects_of (noted_groups gs k p s) ++ at (true ∷ o) rest ≡ subjects_of s ++ at (true ∷ o) (spelled_groups gs rest)
  groups_agree (bare es) k p s o rest = entries_agree es k p s o rest
  groups_agree (group e es rs gs) k p s o rest =
      let a = noted_entry e k p s in
      let b = noted_entries es k p a in
      let c = noted_rows rs p b in
      groups_agree gs k p (put region_end p c) o rest
      ∙ one region_end p c (at (true ∷ o) (spelled_groups gs rest))
      ∙ rows_agree rs p b (false ∷ true ∷ o) (t.close_ ∷ spelled_groups gs rest) refl
      ∙ entries_agree es k p a o (t.open_ ∷ spelled_rows rs (t.close_ ∷ spelled_groups gs rest))
      ∙ entry_agree e k p s o (spelled_entries es (t.open_ ∷ spelled_rows rs (t.close_ ∷ spelled_groups gs rest)))

-- ---- items

names_agree : (k : DeclarationKind) (ns : List (List ℕ)) (p : Site) (s : List Occurrence) (o : List Bool) (rest : List Terminal) → subjects_of (noted_names k ns p s) ++ at o rest ≡ subjects_of s ++ at o (spelled_names ns rest)
names_agree k [] p s o rest = refl
names_agree k (n ∷ ns) p s o rest = names_agree k ns p (put (declares k n) p s) o rest ∙ one (declares k n) p s (at o (spelled_names ns rest))

term_agree : (a : Argument) (p : Site) (s : List Occurrence) (o : List Bool) (rest : List Terminal) → is_in_among o ≡ false → subjects_of (noted_name use_as.Term a p s) ++ at o rest ≡ subjects_of s ++ at o (argument_terminal a ∷ rest)
term_agree (written_out q) p s o rest h = quiet q s o rest h
term_agree (by_name n) p s o rest h = one (uses use_as.Term n) p s (at o rest)

terms_agree : (ts : List Term) (p : Site) (s : List Occurrence) (o : List Bool) (rest : List Terminal) → is_in_among o ≡ false → subjects_of (noted_terms ts p s) ++ at o rest ≡ subjects_of s ++ at o (spelled_terms ts rest)
terms_agree [] p s o rest h = refl
terms_agree (term d a ∷ ts) p s o rest h = terms_agree ts p (noted_name use_as.Term a p s) o rest h ∙ term_agree a p s o (spelled_terms ts rest) h

plain_agree : (x : Plain) (p : Site) (s : List Occurrence) (o : List Bool) (rest : List Terminal) → is_in_among o ≡ false → subjects_of (noted_plain x p s) ++ at o rest ≡ subjects_of s ++ at o (spelled_plain x rest)
plain_agree (declaration k ns) p s o rest h = names_agree k ns p s (false ∷ o) (t.close_ ∷ rest)
plain_agree (escapes a b) p s o rest h = refl
plain_agree (macro n None q) p s o rest h = quiet q s o rest h
plain_agree (macro n (Some b) q) p s o rest h = quiet q s o rest h
plain_agree (routine n c os) p s o rest h =
    let a = put (defines_routine n) p s in
    one region_end p (noted_others os p (noted_command c p a)) (at o rest)
    ∙ others_agree os p (noted_command c p a) o rest h
    ∙ agree c p a o (spelled_others os rest) h
    ∙ one (defines_routine n) p s (at o (t.as_ ∷ spelled_command c (spelled_others os rest)))
plain_agree (grouping n a ts) p s o rest h =
    let b = put (defines_grouping n) p s in
    terms_agree ts p (noted_name use_as.Term a p b) o rest h
    ∙ term_agree a p b o (spelled_terms ts rest) h
    ∙ one (defines_grouping n) p s (at o (argument_terminal a ∷ spelled_terms ts rest))

-- the items of a backwardmode, and then more
plains_agree : (xs : List Plain) (ys : List ItemInMode) (rest : List Terminal) → ((n : ℕ) (s : List Occurrence) → subjects_of (noted_items ys n s) ≡ subjects_of s ++ at [] rest) → (n : ℕ) (s : List Occurrence)
    → subjects_of (noted_items (in_mode Backward xs ++ ys) n s) ≡ subjects_of s ++ at (false ∷ []) (spelled_plains xs (t.close_ ∷ rest))
plains_agree [] ys rest more n s = more n s
plains_agree (x ∷ xs) ys rest more n s =
    let p : Site = record { item = n; mode = Backward } in
    plains_agree xs ys rest more (n + 1) (noted_plain x p s) ∙ plain_agree x p s (false ∷ []) (spelled_plains xs (t.close_ ∷ rest)) refl

items_agree : (is : List Item) (n : ℕ) (s : List Occurrence) → subjects_of (noted_items (in_order is) n s) ≡ subjects_of s ++ at [] (spelled_items is [])
items_agree [] n s = sym (append-nil (subjects_of s))
items_agree (plain x ∷ is) n s =
    let p : Site = record { item = n; mode = Forward } in
    items_agree is (n + 1) (noted_plain x p s) ∙ plain_agree x p s [] (spelled_items is []) refl
items_agree (backward xs ∷ is) n s = plains_agree xs (in_order is) (spelled_items is []) (items_agree is) n s

pub subjects_agree : (ts : List PlacedToken) (items : List Item) → map (λ (t : PlacedToken). terminal_of t.lexeme) ts ≡ script_tokens items → subjects (subject_tokens ts) ≡ subjects_of (occurrences_of items)
subjects_agree ts items e = same_subjects false [] ts ∙ ap (subjects_from false []) e ∙ sym (items_agree items 1 [])
