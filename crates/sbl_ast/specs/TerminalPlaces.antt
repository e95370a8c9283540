-- The tokens of a tree by their roles, each with its nesting depth.
use Rattle.std.specs.Prelude.{ℕ, true, false, ◌+◌, ◌≤◌, List, [], ◌∷◌, map, Option, option_map}
use Rattle.std.specs.List.{AllByRecursion, cons_option}
use Rattle.sbl_ast.specs.Folds.{foldr}
use Rattle.sbl_ast.specs.declared.tree.Base.{Base}
use Rattle.sbl_ast.specs.declared.tree.Additive.TheVariants as additives
use Rattle.sbl_ast.specs.Terminal.{Terminal}
use Rattle.sbl_ast.specs.Terminal as t
use Rattle.sbl_ast.specs.Places.{max_depth}
use Rattle.sbl_ast.specs.Spelled.{argument_terminal}
use Rattle.sbl_ast.specs.Texts.{Text, TreeOf, script, body, terms, among}
use Rattle.sbl_ast.specs.Tree.{Expression, expression, Sums, no_sums, sum, Product, product, Scales, no_scales, scale, Factor, negated}
use Rattle.sbl_ast.specs.Tree.{bracketed, numeral, variable, fixed, length_of, Entry, entry, Command, bracket, simple_, literal_, name_}
use Rattle.sbl_ast.specs.Tree.{non_, prefixed, counted, move_, named, splice_, setlimit_, assign_, compare_, compare_values_, among_}
use Rattle.sbl_ast.specs.Tree.{Rows, no_rows, row, Others, no_others, joined, Starter, no_starter, starter, Groups, bare, group, Term}
use Rattle.sbl_ast.specs.Tree.{term, Plain, declaration, escapes, macro, routine, grouping, Item, plain, backward}

-- a token with its nesting depth
abbrev pub AtDepth : Type 0
AtDepth = Terminal × ℕ

-- no token is nested too deep
abbrev pub AreShallow : List AtDepth → Type 0
AreShallow ps = AllByRecursion (λ p. p.1 ≤ max_depth) ps

-- parentheses or a minus in an arithmetic expression are one level deeper than what contains them
abbrev mutual
  pub placed_expression : Expression → ℕ → List AtDepth → List AtDepth
  placed_expression (expression p ss) d rest = placed_product p d (placed_sums ss d rest)

  pub placed_sums : Sums → ℕ → List AtDepth → List AtDepth
  placed_sums no_sums d rest = rest
  placed_sums (sum o p ss) d rest = (t.additive o, d) ∷ placed_product p d (placed_sums ss d rest)

  pub placed_product : Product → ℕ → List AtDepth → List AtDepth
  placed_product (product f ss) d rest = placed_factor f d (placed_scales ss d rest)

  pub placed_scales : Scales → ℕ → List AtDepth → List AtDepth
  placed_scales no_scales d rest = rest
  placed_scales (scale o f ss) d rest = (t.multiplicative o, d) ∷ placed_factor f d (placed_scales ss d rest)

  pub placed_factor : Factor → ℕ → List AtDepth → List AtDepth
  placed_factor (negated f) d rest = (t.additive additives.Minus, d + 1) ∷ placed_factor f (d + 1) rest
  placed_factor (bracketed e) d rest = (t.open_, d + 1) ∷ placed_expression e (d + 1) ((t.close_, d + 1) ∷ rest)
  placed_factor (numeral n) d rest = (t.number n, d) ∷ rest
  placed_factor (variable n) d rest = (t.name n, d) ∷ rest
  placed_factor (fixed c) d rest = (t.constant c, d) ∷ rest
  placed_factor (length_of a) d rest = (t.len_of, d) ∷ (argument_terminal a, d) ∷ rest

abbrev pub placed_entry : Entry → ℕ → List AtDepth → List AtDepth
placed_entry (entry q condition) d rest = (t.literal q, d) ∷ cons_option (option_map (λ n. (t.name n, d)) condition) rest

abbrev pub placed_entries : List Entry → ℕ → List AtDepth → List AtDepth
placed_entries es d rest = foldr (λ e r. placed_entry e d r) rest es

-- a command inside a command is one level deeper, and so are the parentheses of a group or a starter; a row adds no
-- level
abbrev mutual
  pub placed_command : Command → ℕ → List AtDepth → List AtDepth
  placed_command (bracket rs) d rest = (t.open_, d) ∷ placed_rows rs (d + 1) ((t.close_, d) ∷ rest)
  placed_command (simple_ s) d rest = (t.simple s, d) ∷ rest
  placed_command (literal_ q) d rest = (t.literal q, d) ∷ rest
  placed_command (name_ n) d rest = (t.name n, d) ∷ rest
  placed_command (non_ true n) d rest = (t.non, d) ∷ (t.additive additives.Minus, d) ∷ (t.name n, d) ∷ rest
  placed_command (non_ false n) d rest = (t.non, d) ∷ (t.name n, d) ∷ rest
  placed_command (prefixed p c) d rest = (t.prefix p, d) ∷ placed_command c (d + 1) rest
  placed_command (counted n e c) d rest = (t.count n, d) ∷ placed_expression e d (placed_command c (d + 1) rest)
  placed_command (move_ m e) d rest = (t.move m, d) ∷ placed_expression e d rest
  placed_command (named x n) d rest = (t.naming x, d) ∷ (t.name n, d) ∷ rest
  placed_command (splice_ x a) d rest = (t.edit x, d) ∷ (argument_terminal a, d) ∷ rest
  placed_command (setlimit_ b c) d rest = (t.set_limit, d) ∷ placed_command b (d + 1) ((t.for_, d) ∷ placed_command c (d + 1) rest)
  placed_command (assign_ n o e) d rest = (t.dollar, d) ∷ (t.name n, d) ∷ (t.assigns o, d) ∷ placed_expression e d rest
  placed_command (compare_ n o e) d rest = (t.dollar, d) ∷ (t.name n, d) ∷ (t.compares o, d) ∷ placed_expression e d rest
  placed_command (compare_values_ e o f) d rest =
      (t.dollar, d) ∷ (t.open_, d) ∷ placed_expression e d ((t.compares o, d) ∷ placed_expression f d ((t.close_, d) ∷ rest))
  placed_command (among_ s gs) d rest = (t.among, d) ∷ (t.open_, d) ∷ placed_starter s d (placed_groups gs d ((t.close_, d) ∷ rest))

  pub placed_rows : Rows → ℕ → List AtDepth → List AtDepth
  placed_rows no_rows d rest = rest
  placed_rows (row c os rs) d rest = placed_command c d (placed_others os d (placed_rows rs d rest))

  pub placed_others : Others → ℕ → List AtDepth → List AtDepth
  placed_others no_others d rest = rest
  placed_others (joined j c os) d rest = (t.joiner j, d) ∷ placed_command c d (placed_others os d rest)

  pub placed_starter : Starter → ℕ → List AtDepth → List AtDepth
  placed_starter no_starter d rest = rest
  placed_starter (starter rs) d rest = (t.open_, d + 1) ∷ placed_rows rs (d + 1 + 1) ((t.close_, d + 1) ∷ rest)

  pub placed_groups : Groups → ℕ → List AtDepth → List AtDepth
  placed_groups (bare es) d rest = placed_entries es d rest
  placed_groups (group e es rs gs) d rest =
      placed_entry e d (placed_entries es d ((t.open_, d + 1) ∷ placed_rows rs (d + 1 + 1) ((t.close_, d + 1) ∷ placed_groups gs d rest)))

abbrev pub placed_terms : List Term → List AtDepth → List AtDepth
placed_terms [] rest = rest
placed_terms (term o a ∷ ts) rest = (t.additive o, 0) ∷ (argument_terminal a, 0) ∷ placed_terms ts rest

-- the body of a routine is at depth 1, everything else in an item at depth 0
abbrev pub placed_plain : Plain → List AtDepth → List AtDepth
placed_plain (declaration k ns) rest = (t.declares k, 0) ∷ (t.open_, 0) ∷ foldr (λ n r. (t.name n, 0) ∷ r) ((t.close_, 0) ∷ rest) ns
placed_plain (escapes a b) rest = (t.string_escapes, 0) ∷ (t.inserts a b, 0) ∷ rest
placed_plain (macro n b q) rest = (t.string_def, 0) ∷ (t.macro_name n, 0) ∷ cons_option (option_map (λ x. (t.base x, 0)) b) ((t.literal q, 0) ∷ rest)
placed_plain (routine n c os) rest = (t.define, 0) ∷ (t.name n, 0) ∷ (t.as_, 0) ∷ placed_command c 1 (placed_others os 1 rest)
placed_plain (grouping n a ts) rest = (t.define, 0) ∷ (t.name n, 0) ∷ (argument_terminal a, 0) ∷ placed_terms ts rest

abbrev pub placed_item : Item → List AtDepth → List AtDepth
placed_item (plain p) rest = placed_plain p rest
placed_item (backward ps) rest = (t.backward_mode, 0) ∷ (t.open_, 0) ∷ foldr placed_plain ((t.close_, 0) ∷ rest) ps

abbrev pub places : List Item → List AtDepth
places items = foldr placed_item [] items

abbrev pub tokens : List AtDepth → List Terminal
tokens ps = map (λ p. p.0) ps

-- ---- names for parts of these definitions, which only proofs use

abbrev pub placed_names : List (List ℕ) → List AtDepth → List AtDepth
placed_names ns rest = foldr (λ n r. (t.name n, 0) ∷ r) rest ns

abbrev pub placed_base : Option Base → List AtDepth → List AtDepth
placed_base b rest = cons_option (option_map (λ x. (t.base x, 0)) b) rest

abbrev pub placed_plains : List Plain → List AtDepth → List AtDepth
placed_plains ps rest = foldr placed_plain rest ps

abbrev pub placed_items : List Item → List AtDepth → List AtDepth
placed_items is rest = foldr placed_item rest is

-- ---- of each text

abbrev pub places_in : (t : Text) → TreeOf t → List AtDepth
places_in script is = places is
places_in body b = placed_command b.0 1 (placed_others b.1 1 [])
places_in terms x = (argument_terminal x.0, 0) ∷ placed_terms x.1 []
places_in (among d) a = placed_command (among_ a.0 a.1) d []

abbrev pub tokens_of : (t : Text) → TreeOf t → List Terminal
tokens_of t x = tokens (places_in t x)
