-- Marks are only added.
use Rattle.std.proofs.Common.{◌≡◌, ℕ, List, [], ◌∷◌, ◌++◌, Option, Some, None, refl, sym, ap, subst, ◌∙◌, append_assoc, append-nil, ◌+◌}
use Rattle.sbl_ast.specs.declared.tree.DeclarationKind.{DeclarationKind}
use Rattle.sbl_ast.specs.declared.tree.Simple.{Simple}
use Rattle.sbl_ast.specs.declared.tree.Simple.TheVariants as simples
use Rattle.sbl_ast.specs.declared.tree.Prefix.{Prefix}
use Rattle.sbl_ast.specs.declared.tree.Prefix.TheVariants as prefixes
use Rattle.sbl_ast.specs.Tree.{Argument, written_out, by_name, Expression, expression, Sums, no_sums, sum, Product, product, Scales, no_scales, scale, Factor, negated, bracketed, numeral, variable, fixed, length_of, Entry, entry, Command, bracket, simple_, literal_, name_, non_, prefixed, counted, move_, named, splice_, setlimit_, assign_, compare_, compare_values_, among_, Rows, no_rows, row, Others, no_others, joined, Starter, no_starter, starter, Groups, bare, group, Term, term, Plain, declaration, escapes, macro, routine, grouping}
use Rattle.sbl_resolver.specs.declared.occurrences.Use.TheVariants as use_as
use Rattle.sbl_resolver.specs.declared.occurrences.Site.{Site}
use Rattle.sbl_resolver.specs.Occurrences.{Occurrence, Notice, put, uses, substring, among, string, backwards, region_end, declares, defines_routine, defines_grouping, amongs_in, noted_expression, use_of, noted_entry, noted_entries, is_empty, noted_command, noted_rows, noted_others, noted_groups, noted_plain, noted_items, noted_name}
use Rattle.sbl_resolver.specs.OccurrenceView.{noted_names, walked_expression, noted_sums, noted_product, noted_scales, noted_factor, noted_simple, noted_prefix, site_after, noted_condition, has_starter, noted_starter, noted_terms}
use Rattle.sbl_resolver.proofs.Walked.{expression_is, prefixed_is, among_is}
use Rattle.sbl_ast.specs.Order.{ItemInMode}

-- the second list is the first, and then more
pub record Extends (a b : List Occurrence) : Type 0 where
  pub more : List Occurrence
  pub is : b ≡ a ++ more

pub same : (a : List Occurrence) → Extends a a
same a = record { more = []; is = sym (append-nil a) }

pub then_ : {a b c : List Occurrence} → Extends a b → Extends b c → Extends a c
then_ {a} {b} {c} h k = record { more = h.more ++ k.more; is = k.is ∙ ap (λ (x : List Occurrence). x ++ k.more) h.is ∙ append_assoc a h.more k.more }

pub put_more : (n : Notice) (p : Site) (s : List Occurrence) → Extends s (put n p s)
put_more n p s = record { more = (record { site = p; notice = n }) ∷ []; is = refl }

string_more : (a : Argument) (p : Site) (s : List Occurrence) → Extends s (noted_name use_as.String a p s)
string_more (written_out q) p s = same s
string_more (by_name n) p s = put_more (uses use_as.String n) p s

mutual
  walked_more : (e : Expression) (p : Site) (s : List Occurrence) → Extends s (walked_expression e p s)
  walked_more (expression x ss) p s = then_ (product_more x p s) (sums_more ss p (noted_product x p s))

  sums_more : (ss : Sums) (p : Site) (s : List Occurrence) → Extends s (noted_sums ss p s)
  sums_more no_sums p s = same s
  sums_more (sum o x ss) p s = then_ (product_more x p s) (sums_more ss p (noted_product x p s))

  product_more : (x : Product) (p : Site) (s : List Occurrence) → Extends s (noted_product x p s)
  product_more (product f ss) p s = then_ (factor_more f p s) (scales_more ss p (noted_factor f p s))

  scales_more : (ss : Scales) (p : Site) (s : List Occurrence) → Extends s (noted_scales ss p s)
  scales_more no_scales p s = same s
  scales_more (scale o f ss) p s = then_ (factor_more f p s) (scales_more ss p (noted_factor f p s))

  factor_more : (f : Factor) (p : Site) (s : List Occurrence) → Extends s (noted_factor f p s)
  factor_more (negated f) p s = factor_more f p s
  factor_more (bracketed e) p s = walked_more e p s
  factor_more (numeral n) p s = same s
  factor_more (variable n) p s = put_more (uses use_as.Integer n) p s
  factor_more (fixed c) p s = same s
  factor_more (length_of a) p s = string_more a p s

pub expression_more : (e : Expression) (p : Site) (s : List Occurrence) → Extends s (noted_expression e p s)
expression_more e p s = subst (Extends s) (sym (expression_is e p s)) (walked_more e p s)

simple_more : (x : Simple) (p : Site) (s : List Occurrence) → Extends s (noted_simple x p s)
simple_more simples.Substring p s = put_more substring p s
simple_more _ p s = same s

pub prefix_more : (x : Prefix) (p : Site) (s : List Occurrence) → Extends s (noted_prefix x p s)
prefix_more prefixes.Backwards p s = put_more backwards p s
prefix_more _ p s = same s

pub condition_more : (c : Option (List ℕ)) (p : Site) (s : List Occurrence) → Extends s (noted_condition c p s)
condition_more None p s = same s
condition_more (Some n) p s = put_more (uses use_as.Condition n) p s

pub entry_more : (e : Entry) (o : ℕ) (p : Site) (s : List Occurrence) → Extends s (noted_entry e o p s)
entry_more (entry q c) o p s = then_ (put_more (string o q.value) p s) (condition_more c p (put (string o q.value) p s))

pub entries_more : (es : List Entry) (o : ℕ) (p : Site) (s : List Occurrence) → Extends s (noted_entries es o p s)
entries_more [] o p s = same s
entries_more (e ∷ es) o p s = then_ (entry_more e o p s) (entries_more es o p (noted_entry e o p s))

mutual
  pub command_more : (t : Command) (p : Site) (s : List Occurrence) → Extends s (noted_command t p s)
  command_more (bracket rs) p s = rows_more rs p s
  command_more (simple_ x) p s = simple_more x p s
  command_more (literal_ q) p s = same s
  command_more (name_ n) p s = put_more (uses use_as.Command n) p s
  command_more (non_ m n) p s = put_more (uses use_as.Excluded n) p s
  command_more (prefixed x c) p s = subst (Extends s) (sym (prefixed_is x c p s)) (then_ (prefix_more x p s) (command_more c (site_after x p) (noted_prefix x p s)))
  command_more (counted n e c) p s = then_ (expression_more e p s) (command_more c p (noted_expression e p s))
  command_more (move_ m e) p s = expression_more e p s
  command_more (named x n) p s = put_more (uses (use_of x) n) p s
  command_more (splice_ x a) p s = string_more a p s
  command_more (setlimit_ b c) p s = then_ (command_more b p s) (command_more c p (noted_command b p s))
  command_more (assign_ n o e) p s = then_ (put_more (uses use_as.Integer n) p s) (expression_more e p (put (uses use_as.Integer n) p s))
  command_more (compare_ n o e) p s = then_ (put_more (uses use_as.Integer n) p s) (expression_more e p (put (uses use_as.Integer n) p s))
  command_more (compare_values_ e o f) p s = then_ (expression_more e p s) (expression_more f p (noted_expression e p s))
  command_more (among_ x gs) p s =
      let occurrence = among (has_starter x) (is_empty gs) in
      subst (Extends s) (sym (among_is x gs p s)) (then_ (put_more occurrence p s) (then_ (starter_more x p (put occurrence p s)) (groups_more gs (amongs_in s 0 + 1) p (noted_starter x p (put occurrence p s)))))

  pub rows_more : (rs : Rows) (p : Site) (s : List Occurrence) → Extends s (noted_rows rs p s)
  rows_more no_rows p s = same s
  rows_more (row c os rs) p s = then_ (command_more c p s) (then_ (others_more os p (noted_command c p s)) (rows_more rs p (noted_others os p (noted_command c p s))))

  pub others_more : (os : Others) (p : Site) (s : List Occurrence) → Extends s (noted_others os p s)
  others_more no_others p s = same s
  others_more (joined j c os) p s = then_ (command_more c p s) (others_more os p (noted_command c p s))

  pub starter_more : (x : Starter) (p : Site) (s : List Occurrence) → Extends s (noted_starter x p s)
  starter_more no_starter p s = same s
  starter_more (starter rs) p s = then_ (rows_more rs p s) (put_more region_end p (noted_rows rs p s))

  pub groups_more : (gs : Groups) (o : ℕ) (p : Site) (s : List Occurrence) → Extends s (noted_groups gs o p s)
  groups_more (bare es) o p s = entries_more es o p s
  groups_more (group e es rs gs) o p s =
      let a = noted_entry e o p s in
      let b = noted_entries es o p a in
      let c = noted_rows rs p b in
      then_ (entry_more e o p s) (then_ (entries_more es o p a) (then_ (rows_more rs p b) (then_ (put_more region_end p c) (groups_more gs o p (put region_end p c)))))

names_more : (k : DeclarationKind) (ns : List (List ℕ)) (p : Site) (s : List Occurrence) → Extends s (noted_names k ns p s)
names_more k [] p s = same s
names_more k (n ∷ ns) p s = then_ (put_more (declares k n) p s) (names_more k ns p (put (declares k n) p s))

term_more : (a : Argument) (p : Site) (s : List Occurrence) → Extends s (noted_name use_as.Term a p s)
term_more (written_out q) p s = same s
term_more (by_name n) p s = put_more (uses use_as.Term n) p s

terms_more : (ts : List Term) (p : Site) (s : List Occurrence) → Extends s (noted_terms ts p s)
terms_more [] p s = same s
terms_more (term o a ∷ ts) p s = then_ (term_more a p s) (terms_more ts p (noted_name use_as.Term a p s))

pub plain_more : (x : Plain) (p : Site) (s : List Occurrence) → Extends s (noted_plain x p s)
plain_more (declaration k ns) p s = names_more k ns p s
plain_more (escapes a b) p s = same s
plain_more (macro n b q) p s = same s
plain_more (routine n c os) p s =
    let a = put (defines_routine n) p s in
    let b = noted_command c p a in
    then_ (put_more (defines_routine n) p s) (then_ (command_more c p a) (then_ (others_more os p b) (put_more region_end p (noted_others os p b))))
plain_more (grouping n a ts) p s =
    let b = put (defines_grouping n) p s in
    then_ (put_more (defines_grouping n) p s) (then_ (term_more a p b) (terms_more ts p (noted_name use_as.Term a p b)))

pub items_more : (xs : List ItemInMode) (n : ℕ) (s : List Occurrence) → Extends s (noted_items xs n s)
items_more [] n s = same s
items_more (x ∷ xs) n s =
    let p : Site = record { item = n; mode = x.mode } in
    then_ (plain_more x.plain p s) (items_more xs (n + 1) (noted_plain x.plain p s))
