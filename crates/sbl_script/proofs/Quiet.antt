-- A token of a routine's body sets nothing where the next token is to come; nor does one of a declaration or of a grouping's definition.
use Rattle.std.proofs.Common.{◌≡◌, ℕ, ◌+◌, true, false, List, [], ◌∷◌, Some, None, refl}
use Rattle.sbl_text.specs.Escapes.{InForce}
use Rattle.sbl_text.specs.Directives.{after}
use Rattle.sbl_text.specs.inside.DirectiveParts.{no_directive}
use Rattle.sbl_ast.specs.declared.tree.DeclarationKind.{DeclarationKind}
use Rattle.sbl_ast.specs.declared.tree.DeclarationKind.TheVariants as declarations
use Rattle.sbl_ast.specs.declared.tree.Joiner.{Joiner}
use Rattle.sbl_ast.specs.declared.tree.Joiner.TheVariants as joiners
use Rattle.sbl_ast.specs.declared.tree.Simple.{Simple}
use Rattle.sbl_ast.specs.declared.tree.Simple.TheVariants as simples
use Rattle.sbl_ast.specs.declared.tree.Prefix.{Prefix}
use Rattle.sbl_ast.specs.declared.tree.Prefix.TheVariants as prefixes
use Rattle.sbl_ast.specs.declared.tree.Count.{Count}
use Rattle.sbl_ast.specs.declared.tree.Count.TheVariants as counts
use Rattle.sbl_ast.specs.declared.tree.Move.{Move}
use Rattle.sbl_ast.specs.declared.tree.Move.TheVariants as moves
use Rattle.sbl_ast.specs.declared.tree.Naming.{Naming}
use Rattle.sbl_ast.specs.declared.tree.Naming.TheVariants as namings
use Rattle.sbl_ast.specs.declared.tree.Splice.{Splice}
use Rattle.sbl_ast.specs.declared.tree.Splice.TheVariants as splices
use Rattle.sbl_ast.specs.declared.tree.Additive.{Additive}
use Rattle.sbl_ast.specs.declared.tree.Additive.TheVariants as additives
use Rattle.sbl_ast.specs.declared.tree.Multiplicative.{Multiplicative}
use Rattle.sbl_ast.specs.declared.tree.Multiplicative.TheVariants as multiplicatives
use Rattle.sbl_ast.specs.declared.tree.Assignment.{Assignment}
use Rattle.sbl_ast.specs.declared.tree.Assignment.TheVariants as assignments
use Rattle.sbl_ast.specs.declared.tree.Comparison.{Comparison}
use Rattle.sbl_ast.specs.declared.tree.Comparison.TheVariants as comparisons
use Rattle.sbl_ast.specs.declared.tree.Constant.{Constant}
use Rattle.sbl_ast.specs.declared.tree.Constant.TheVariants as constants
use Rattle.sbl_token.specs.Lexemes.{Lexeme}
use Rattle.sbl_token.specs.Lexemes as lex
use Rattle.sbl_token.specs.declared.words.Word.TheVariants as words
use Rattle.sbl_token.specs.declared.signs.Sign.TheVariants as signs
use Rattle.sbl_ast.specs.Symbols as t
use Rattle.sbl_ast.specs.Tree.{Argument, written_out, by_name, Expression, expression, Sums, no_sums, sum, Product, product, Scales, no_scales, scale, Factor, negated, bracketed, numeral, variable, fixed, length_of, Entry, entry, Command, bracket, simple_, literal_, name_, non_, prefixed, counted, move_, named, splice_, setlimit_, assign_, compare_, compare_values_, among_, Rows, no_rows, row, Others, no_others, joined, Starter, no_starter, starter, Groups, bare, group, Term, term}
use Rattle.sbl_ast.specs.Places.{AtDepth, placed_command, placed_rows, placed_others, placed_starter, placed_groups, placed_entry, placed_entries, placed_expression, placed_sums, placed_product, placed_scales, placed_factor, placed_terms}
use Rattle.sbl_ast.specs.inside.PlaceParts.{placed_names}
use Rattle.sbl_ast.specs.Texts.{body, places_in}
use Rattle.sbl_script.proofs.Putting.{Each}

abbrev Ps : Type 0
Ps = List AtDepth

abbrev Keeps : Lexeme → Type 0
Keeps x = (e : InForce) → after (no_directive e) x ≡ no_directive e

-- such a token, at any depth
abbrev pub IsQuiet : AtDepth → Type 0
IsQuiet p = Keeps p.0

declares_keeps : (x : DeclarationKind) → Keeps (t.declares x)
declares_keeps declarations.Booleans e = refl
declares_keeps _ e = refl

joiner_keeps : (x : Joiner) → Keeps (t.joiner x)
joiner_keeps joiners.And e = refl
joiner_keeps _ e = refl

simple_keeps : (x : Simple) → Keeps (t.simple x)
simple_keeps simples.AtLimit e = refl
simple_keeps _ e = refl

prefix_keeps : (x : Prefix) → Keeps (t.prefix x)
prefix_keeps prefixes.Backwards e = refl
prefix_keeps _ e = refl

count_keeps : (x : Count) → Keeps (t.count x)
count_keeps counts.AtLeast e = refl
count_keeps _ e = refl

move_keeps : (x : Move) → Keeps (t.move x)
move_keeps moves.AtMark e = refl
move_keeps _ e = refl

naming_keeps : (x : Naming) → Keeps (t.naming x)
naming_keeps namings.Set e = refl
naming_keeps _ e = refl

splice_keeps : (x : Splice) → Keeps (t.splice x)
splice_keeps splices.Attach e = refl
splice_keeps _ e = refl

additive_keeps : (x : Additive) → Keeps (t.additive x)
additive_keeps additives.Plus e = refl
additive_keeps _ e = refl

multiplicative_keeps : (x : Multiplicative) → Keeps (t.multiplicative x)
multiplicative_keeps multiplicatives.Times e = refl
multiplicative_keeps _ e = refl

assigns_keeps : (x : Assignment) → Keeps (t.assigns x)
assigns_keeps assignments.Equals e = refl
assigns_keeps _ e = refl

compares_keeps : (x : Comparison) → Keeps (t.compares x)
compares_keeps comparisons.Less e = refl
compares_keeps _ e = refl

constant_keeps : (x : Constant) → Keeps (t.constant x)
constant_keeps constants.Cursor e = refl
constant_keeps _ e = refl

argument_keeps : (a : Argument) → Keeps (t.argument a)
argument_keeps (written_out q) e = refl
argument_keeps (by_name n) e = refl

-- ---- a row

mutual
  expression_quiet : (x : Expression) (d : ℕ) (r : Ps) → Each IsQuiet r → Each IsQuiet (placed_expression x d r)
  expression_quiet (expression p ss) d r h = product_quiet p d (placed_sums ss d r) (sums_quiet ss d r h)

  sums_quiet : (ss : Sums) (d : ℕ) (r : Ps) → Each IsQuiet r → Each IsQuiet (placed_sums ss d r)
  sums_quiet no_sums d r h = h
  sums_quiet (sum o p ss) d r h = (additive_keeps o, product_quiet p d (placed_sums ss d r) (sums_quiet ss d r h))

  product_quiet : (p : Product) (d : ℕ) (r : Ps) → Each IsQuiet r → Each IsQuiet (placed_product p d r)
  product_quiet (product f ss) d r h = factor_quiet f d (placed_scales ss d r) (scales_quiet ss d r h)

  scales_quiet : (ss : Scales) (d : ℕ) (r : Ps) → Each IsQuiet r → Each IsQuiet (placed_scales ss d r)
  scales_quiet no_scales d r h = h
  scales_quiet (scale o f ss) d r h = (multiplicative_keeps o, factor_quiet f d (placed_scales ss d r) (scales_quiet ss d r h))

  factor_quiet : (f : Factor) (d : ℕ) (r : Ps) → Each IsQuiet r → Each IsQuiet (placed_factor f d r)
  factor_quiet (negated f) d r h = ((λ e. refl), factor_quiet f (d + 1) r h)
  factor_quiet (bracketed x) d r h = ((λ e. refl), expression_quiet x (d + 1) ((lex.sign signs.Close, d + 1) ∷ r) ((λ e. refl), h))
  factor_quiet (numeral n) d r h = ((λ e. refl), h)
  factor_quiet (variable n) d r h = ((λ e. refl), h)
  factor_quiet (fixed c) d r h = (constant_keeps c, h)
  factor_quiet (length_of a) d r h = ((λ e. refl), (argument_keeps a, h))

entry_quiet : (x : Entry) (d : ℕ) (r : Ps) → Each IsQuiet r → Each IsQuiet (placed_entry x d r)
entry_quiet (entry q None) d r h = ((λ e. refl), h)
entry_quiet (entry q (Some n)) d r h = ((λ e. refl), ((λ e. refl), h))

entries_quiet : (es : List Entry) (d : ℕ) (r : Ps) → Each IsQuiet r → Each IsQuiet (placed_entries es d r)
entries_quiet [] d r h = h
entries_quiet (x ∷ es) d r h = entry_quiet x d (placed_entries es d r) (entries_quiet es d r h)

mutual
  tree_quiet : (c : Command) (d : ℕ) (r : Ps) → Each IsQuiet r → Each IsQuiet (placed_command c d r)
  tree_quiet (bracket rs) d r h = ((λ e. refl), rows_quiet rs (d + 1) ((lex.sign signs.Close, d) ∷ r) ((λ e. refl), h))
  tree_quiet (simple_ s) d r h = (simple_keeps s, h)
  tree_quiet (literal_ q) d r h = ((λ e. refl), h)
  tree_quiet (name_ n) d r h = ((λ e. refl), h)
  tree_quiet (non_ true n) d r h = ((λ e. refl), ((λ e. refl), ((λ e. refl), h)))
  tree_quiet (non_ false n) d r h = ((λ e. refl), ((λ e. refl), h))
  tree_quiet (prefixed p c) d r h = (prefix_keeps p, tree_quiet c (d + 1) r h)
  tree_quiet (counted n x c) d r h = (count_keeps n, expression_quiet x d (placed_command c (d + 1) r) (tree_quiet c (d + 1) r h))
  tree_quiet (move_ m x) d r h = (move_keeps m, expression_quiet x d r h)
  tree_quiet (named x n) d r h = (naming_keeps x, ((λ e. refl), h))
  tree_quiet (splice_ x a) d r h = (splice_keeps x, (argument_keeps a, h))
  tree_quiet (setlimit_ b c) d r h = ((λ e. refl), tree_quiet b (d + 1) ((lex.word words.For, d) ∷ placed_command c (d + 1) r) ((λ e. refl), tree_quiet c (d + 1) r h))
  tree_quiet (assign_ n o x) d r h = ((λ e. refl), ((λ e. refl), (assigns_keeps o, expression_quiet x d r h)))
  tree_quiet (compare_ n o x) d r h = ((λ e. refl), ((λ e. refl), (compares_keeps o, expression_quiet x d r h)))
  tree_quiet (compare_values_ x o y) d r h =
      let close = (lex.sign signs.Close, d) ∷ r in
      ((λ e. refl), ((λ e. refl), expression_quiet x d ((t.compares o, d) ∷ placed_expression y d close) (compares_keeps o, expression_quiet y d close ((λ e. refl), h))))
  tree_quiet (among_ s gs) d r h =
      let close = (lex.sign signs.Close, d) ∷ r in
      ((λ e. refl), ((λ e. refl), starter_quiet s d (placed_groups gs d close) (groups_quiet gs d close ((λ e. refl), h))))

  rows_quiet : (rs : Rows) (d : ℕ) (r : Ps) → Each IsQuiet r → Each IsQuiet (placed_rows rs d r)
  rows_quiet no_rows d r h = h
  rows_quiet (row c os rs) d r h = tree_quiet c d (placed_others os d (placed_rows rs d r)) (others_quiet os d (placed_rows rs d r) (rows_quiet rs d r h))

  others_quiet : (os : Others) (d : ℕ) (r : Ps) → Each IsQuiet r → Each IsQuiet (placed_others os d r)
  others_quiet no_others d r h = h
  others_quiet (joined j c os) d r h = (joiner_keeps j, tree_quiet c d (placed_others os d r) (others_quiet os d r h))

  starter_quiet : (s : Starter) (d : ℕ) (r : Ps) → Each IsQuiet r → Each IsQuiet (placed_starter s d r)
  starter_quiet no_starter d r h = h
  starter_quiet (starter rs) d r h = ((λ e. refl), rows_quiet rs (d + 1 + 1) ((lex.sign signs.Close, d + 1) ∷ r) ((λ e. refl), h))

  groups_quiet : (gs : Groups) (d : ℕ) (r : Ps) → Each IsQuiet r → Each IsQuiet (placed_groups gs d r)
  groups_quiet (bare es) d r h = entries_quiet es d r h
  groups_quiet (group x es rs gs) d r h =
      let close = (lex.sign signs.Close, d + 1) ∷ placed_groups gs d r in
      let inner = (lex.sign signs.Open, d + 1) ∷ placed_rows rs (d + 1 + 1) close in
      entry_quiet x d (placed_entries es d inner) (entries_quiet es d inner ((λ e. refl), rows_quiet rs (d + 1 + 1) close ((λ e. refl), groups_quiet gs d r h)))

pub among_quiet : (s : Starter) (gs : Groups) (d : ℕ) → Each IsQuiet (placed_command (among_ s gs) d [])
among_quiet s gs d = tree_quiet (among_ s gs) d [] tt

pub body_quiet : (b : Command × Others) → Each IsQuiet (places_in body b)
body_quiet b = tree_quiet b.0 1 (placed_others b.1 1 []) (others_quiet b.1 1 [] tt)

-- ---- names and terms

pub names_quiet : (k : DeclarationKind) (ns : List (List ℕ)) → Each IsQuiet ((t.declares k, 0) ∷ (lex.sign signs.Open, 0) ∷ placed_names ns ((lex.sign signs.Close, 0) ∷ []))
names_quiet k ns = (declares_keeps k, ((λ e. refl), go ns)) where
  go : (ms : List (List ℕ)) → Each IsQuiet (placed_names ms ((lex.sign signs.Close, 0) ∷ []))
  go [] = ((λ e. refl), tt)
  go (m ∷ ms) = ((λ e. refl), go ms)

pub terms_quiet : (a : Argument) (xs : List Term) → Each IsQuiet ((t.argument a, 0) ∷ placed_terms xs [])
terms_quiet a xs = (argument_keeps a, go xs) where
  go : (ys : List Term) → Each IsQuiet (placed_terms ys [])
  go [] = tt
  go (term o b ∷ ys) = (additive_keeps o, (argument_keeps b, go ys))
