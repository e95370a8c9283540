-- The tokens of a tree, each with its nesting depth, followed by the rest.
use Rattle.std.specs.Prelude.{ℕ, true, false, ◌+◌, ◌≤◌, List, [], ◌∷◌, map, option_map}
use Rattle.std.specs.List.{AllByRecursion, cons_option}
use Rattle.sbl_token.specs.Lexemes.{Lexeme, word, sign, name, number, inserts, macro_name}
use Rattle.sbl_token.specs.declared.words.Word.TheVariants as words
use Rattle.sbl_token.specs.declared.signs.Sign.TheVariants as signs
use Rattle.sbl_ast.specs.Folds.{foldr}
use Rattle.sbl_ast.specs.Symbols as t
use Rattle.sbl_ast.specs.Tree.{Expression, expression, Sums, no_sums, sum, Product, product, Scales, no_scales, scale, Factor, negated}
use Rattle.sbl_ast.specs.Tree.{bracketed, numeral, variable, fixed, length_of, Entry, entry, Command, bracket, simple_, literal_, name_}
use Rattle.sbl_ast.specs.Tree.{non_, prefixed, counted, move_, named, splice_, setlimit_, assign_, compare_, compare_values_, among_}
use Rattle.sbl_ast.specs.Tree.{Rows, no_rows, row, Others, no_others, joined, Starter, no_starter, starter, Groups, bare, group, Term}
use Rattle.sbl_ast.specs.Tree.{term, Plain, declaration, escapes, macro, routine, grouping, Item, plain, backward}

-- the greatest nesting depth of a token
abbrev pub max_depth : ℕ
max_depth = 64

-- a token with its nesting depth
abbrev pub AtDepth : Type 0
AtDepth = Lexeme × ℕ

-- no token is nested too deep
abbrev pub AreShallow : List AtDepth → Type 0
AreShallow ps = AllByRecursion (λ p. p.1 ≤ max_depth) ps

-- parentheses or a minus in an arithmetic expression are one level deeper than what contains them
abbrev mutual
  pub placed_expression : Expression → ℕ → List AtDepth → List AtDepth
  placed_expression (expression p ss) d rest = placed_product p d (placed_sums ss d rest)

  pub placed_sums : Sums → ℕ → List AtDepth → List AtDepth
  placed_sums no_sums d rest = rest
  placed_sums (sum o p ss) d rest = (t.additive o, d) ∷ placed_product p d (placed_sums ss d rest)

  pub placed_product : Product → ℕ → List AtDepth → List AtDepth
  placed_product (product f ss) d rest = placed_factor f d (placed_scales ss d rest)

  pub placed_scales : Scales → ℕ → List AtDepth → List AtDepth
  placed_scales no_scales d rest = rest
  placed_scales (scale o f ss) d rest = (t.multiplicative o, d) ∷ placed_factor f d (placed_scales ss d rest)

  pub placed_factor : Factor → ℕ → List AtDepth → List AtDepth
  placed_factor (negated f) d rest = (sign signs.Minus, d + 1) ∷ placed_factor f (d + 1) rest
  placed_factor (bracketed e) d rest = (sign signs.Open, d + 1) ∷ placed_expression e (d + 1) ((sign signs.Close, d + 1) ∷ rest)
  placed_factor (numeral n) d rest = (number n, d) ∷ rest
  placed_factor (variable n) d rest = (name n, d) ∷ rest
  placed_factor (fixed c) d rest = (t.constant c, d) ∷ rest
  placed_factor (length_of a) d rest = (word words.LenOf, d) ∷ (t.argument a, d) ∷ rest

abbrev pub placed_entry : Entry → ℕ → List AtDepth → List AtDepth
placed_entry (entry q condition) d rest = (t.quoted_text q, d) ∷ cons_option (option_map (λ n. (name n, d)) condition) rest

abbrev pub placed_entries : List Entry → ℕ → List AtDepth → List AtDepth
placed_entries es d rest = foldr (λ e r. placed_entry e d r) rest es

-- a command inside a command is one level deeper, and so are the parentheses of a group or a starter; a row adds no
-- level
abbrev mutual
  pub placed_command : Command → ℕ → List AtDepth → List AtDepth
  placed_command (bracket rs) d rest = (sign signs.Open, d) ∷ placed_rows rs (d + 1) ((sign signs.Close, d) ∷ rest)
  placed_command (simple_ s) d rest = (t.simple s, d) ∷ rest
  placed_command (literal_ q) d rest = (t.quoted_text q, d) ∷ rest
  placed_command (name_ n) d rest = (name n, d) ∷ rest
  placed_command (non_ true n) d rest = (word words.Non, d) ∷ (sign signs.Minus, d) ∷ (name n, d) ∷ rest
  placed_command (non_ false n) d rest = (word words.Non, d) ∷ (name n, d) ∷ rest
  placed_command (prefixed p c) d rest = (t.prefix p, d) ∷ placed_command c (d + 1) rest
  placed_command (counted n e c) d rest = (t.count n, d) ∷ placed_expression e d (placed_command c (d + 1) rest)
  placed_command (move_ m e) d rest = (t.move m, d) ∷ placed_expression e d rest
  placed_command (named x n) d rest = (t.naming x, d) ∷ (name n, d) ∷ rest
  placed_command (splice_ x a) d rest = (t.splice x, d) ∷ (t.argument a, d) ∷ rest
  placed_command (setlimit_ b c) d rest = (word words.SetLimit, d) ∷ placed_command b (d + 1) ((word words.For, d) ∷ placed_command c (d + 1) rest)
  placed_command (assign_ n o e) d rest = (sign signs.Dollar, d) ∷ (name n, d) ∷ (t.assigns o, d) ∷ placed_expression e d rest
  placed_command (compare_ n o e) d rest = (sign signs.Dollar, d) ∷ (name n, d) ∷ (t.compares o, d) ∷ placed_expression e d rest
  placed_command (compare_values_ e o f) d rest =
      (sign signs.Dollar, d) ∷ (sign signs.Open, d) ∷ placed_expression e d
      ((t.compares o, d) ∷ placed_expression f d ((sign signs.Close, d) ∷ rest))
  placed_command (among_ s gs) d rest =
      (word words.Among, d) ∷ (sign signs.Open, d) ∷ placed_starter s d (placed_groups gs d ((sign signs.Close, d) ∷ rest))

  pub placed_rows : Rows → ℕ → List AtDepth → List AtDepth
  placed_rows no_rows d rest = rest
  placed_rows (row c os rs) d rest = placed_command c d (placed_others os d (placed_rows rs d rest))

  pub placed_others : Others → ℕ → List AtDepth → List AtDepth
  placed_others no_others d rest = rest
  placed_others (joined j c os) d rest = (t.joiner j, d) ∷ placed_command c d (placed_others os d rest)

  pub placed_starter : Starter → ℕ → List AtDepth → List AtDepth
  placed_starter no_starter d rest = rest
  placed_starter (starter rs) d rest = (sign signs.Open, d + 1) ∷ placed_rows rs (d + 1 + 1) ((sign signs.Close, d + 1) ∷ rest)

  pub placed_groups : Groups → ℕ → List AtDepth → List AtDepth
  placed_groups (bare es) d rest = placed_entries es d rest
  placed_groups (group e es rs gs) d rest =
      placed_entry e d (placed_entries es d
      ((sign signs.Open, d + 1) ∷ placed_rows rs (d + 1 + 1) ((sign signs.Close, d + 1) ∷ placed_groups gs d rest)))

abbrev pub placed_terms : List Term → List AtDepth → List AtDepth
placed_terms [] rest = rest
placed_terms (term o a ∷ ts) rest = (t.additive o, 0) ∷ (t.argument a, 0) ∷ placed_terms ts rest

-- the body of a routine is at depth 1, everything else in an item at depth 0
abbrev pub placed_plain : Plain → List AtDepth → List AtDepth
placed_plain (declaration k ns) rest = (t.declares k, 0) ∷ (sign signs.Open, 0) ∷ foldr (λ n r. (name n, 0) ∷ r) ((sign signs.Close, 0) ∷ rest) ns
placed_plain (escapes a b) rest = (word words.StringEscapes, 0) ∷ (inserts a b, 0) ∷ rest
placed_plain (macro n b q) rest =
    (word words.StringDef, 0) ∷ (macro_name n, 0) ∷ cons_option (option_map (λ x. (t.base x, 0)) b) ((t.quoted_text q, 0) ∷ rest)
placed_plain (routine n c os) rest = (word words.Define, 0) ∷ (name n, 0) ∷ (word words.As, 0) ∷ placed_command c 1 (placed_others os 1 rest)
placed_plain (grouping n a ts) rest = (word words.Define, 0) ∷ (name n, 0) ∷ (t.argument a, 0) ∷ placed_terms ts rest

abbrev pub placed_item : Item → List AtDepth → List AtDepth
placed_item (plain p) rest = placed_plain p rest
placed_item (backward ps) rest = (word words.BackwardMode, 0) ∷ (sign signs.Open, 0) ∷ foldr placed_plain ((sign signs.Close, 0) ∷ rest) ps

abbrev pub places : List Item → List AtDepth
places items = foldr placed_item [] items

abbrev pub tokens : List AtDepth → List Lexeme
tokens ps = map (λ p. p.0) ps

-- the tokens of a script
abbrev pub lexemes_of : List Item → List Lexeme
lexemes_of items = tokens (places items)
