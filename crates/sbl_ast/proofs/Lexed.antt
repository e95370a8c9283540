-- The tokens of a tree are those of its roles.
use Rattle.std.proofs.Common.{◌≡◌, ℕ, ◌+◌, true, false, List, [], ◌∷◌, map, Option, Some, None, refl, ap, ◌∙◌}
use Rattle.sbl_token.specs.Lexemes as l
use Rattle.sbl_token.specs.declared.words.Word.TheVariants as words
use Rattle.sbl_token.specs.declared.signs.Sign.TheVariants as signs
use Rattle.sbl_ast.specs.Symbols as t
use Rattle.sbl_ast.specs.Terminal.{lexeme_as}
use Rattle.sbl_ast.specs.Tree.{Expression, expression, Sums, no_sums, sum, Product, product, Scales, no_scales, scale, Factor, negated, bracketed, numeral, variable, fixed, length_of, Argument, written_out, by_name, Entry, entry, Command, bracket, simple_, literal_, name_, non_, prefixed, counted, move_, named, splice_, setlimit_, assign_, compare_, compare_values_, among_, Rows, no_rows, row, Others, no_others, joined, Starter, no_starter, starter, Groups, bare, group, Term, term, Plain, declaration, escapes, macro, routine, grouping, Item, plain, backward}
use Rattle.sbl_ast.specs.Spelled.{argument_terminal}
use Rattle.sbl_ast.specs.Places.{AtDepth, placed_expression, placed_sums, placed_product, placed_scales, placed_factor, placed_entry, placed_entries, placed_command, placed_rows, placed_others, placed_starter, placed_groups, placed_terms, placed_plain, tokens}
use Rattle.sbl_ast.specs.inside.PlaceParts.{placed_names, placed_plains, placed_items}
use Rattle.sbl_ast.specs.TerminalPlaces as roles
use Rattle.sbl_ast.specs.Texts.{Text, TreeOf, script, body, terms, among, places_in, tokens_of}

abbrev Ps : Type 0
Ps = List AtDepth

abbrev Rs : Type 0
Rs = List roles.AtDepth

abbrev pub with_lexeme : roles.AtDepth → AtDepth
with_lexeme r = (lexeme_as r.0, r.1)

-- the tokens with these roles, at their depths
abbrev pub lexemes_at_depth : Rs → Ps
lexemes_at_depth rs = map with_lexeme rs

cons : {a b : Ps} (x : AtDepth) → a ≡ b → x ∷ a ≡ x ∷ b
cons x e = ap (λ (z : Ps). x ∷ z) e

-- an argument and what follows it
with_argument : (a : Argument) (d : ℕ) {ps : Ps} (rs : Rs) → ps ≡ lexemes_at_depth rs → (t.argument a, d) ∷ ps ≡ lexemes_at_depth ((argument_terminal a, d) ∷ rs)
with_argument (written_out q) d rs e = cons (t.quoted_text q, d) e
with_argument (by_name n) d rs e = cons (l.name n, d) e

mutual
  expression_lexed : (x : Expression) (d : ℕ) {ps : Ps} (rs : Rs) → ps ≡ lexemes_at_depth rs → placed_expression x d ps ≡ lexemes_at_depth (roles.placed_expression x d rs)
  expression_lexed (expression p ss) d rs e = product_lexed p d _ (sums_lexed ss d rs e)

  sums_lexed : (ss : Sums) (d : ℕ) {ps : Ps} (rs : Rs) → ps ≡ lexemes_at_depth rs → placed_sums ss d ps ≡ lexemes_at_depth (roles.placed_sums ss d rs)
  sums_lexed no_sums d rs e = e
  sums_lexed (sum o p ss) d rs e = cons (t.additive o, d) (product_lexed p d _ (sums_lexed ss d rs e))

  product_lexed : (p : Product) (d : ℕ) {ps : Ps} (rs : Rs) → ps ≡ lexemes_at_depth rs → placed_product p d ps ≡ lexemes_at_depth (roles.placed_product p d rs)
  product_lexed (product f ss) d rs e = factor_lexed f d _ (scales_lexed ss d rs e)

  scales_lexed : (ss : Scales) (d : ℕ) {ps : Ps} (rs : Rs) → ps ≡ lexemes_at_depth rs → placed_scales ss d ps ≡ lexemes_at_depth (roles.placed_scales ss d rs)
  scales_lexed no_scales d rs e = e
  scales_lexed (scale o f ss) d rs e = cons (t.multiplicative o, d) (factor_lexed f d _ (scales_lexed ss d rs e))

  factor_lexed : (f : Factor) (d : ℕ) {ps : Ps} (rs : Rs) → ps ≡ lexemes_at_depth rs → placed_factor f d ps ≡ lexemes_at_depth (roles.placed_factor f d rs)
  factor_lexed (negated f) d rs e = cons (l.sign signs.Minus, d + 1) (factor_lexed f (d + 1) rs e)
  factor_lexed (bracketed x) d rs e = cons (l.sign signs.Open, d + 1) (expression_lexed x (d + 1) _ (cons (l.sign signs.Close, d + 1) e))
  factor_lexed (numeral n) d rs e = cons (l.number n, d) e
  factor_lexed (variable n) d rs e = cons (l.name n, d) e
  factor_lexed (fixed c) d rs e = cons (t.constant c, d) e
  factor_lexed (length_of a) d rs e = cons (l.word words.LenOf, d) (with_argument a d rs e)

entry_lexed : (x : Entry) (d : ℕ) {ps : Ps} (rs : Rs) → ps ≡ lexemes_at_depth rs → placed_entry x d ps ≡ lexemes_at_depth (roles.placed_entry x d rs)
entry_lexed (entry q None) d rs e = cons (t.quoted_text q, d) e
entry_lexed (entry q (Some n)) d rs e = cons (t.quoted_text q, d) (cons (l.name n, d) e)

entries_lexed : (xs : List Entry) (d : ℕ) {ps : Ps} (rs : Rs) → ps ≡ lexemes_at_depth rs → placed_entries xs d ps ≡ lexemes_at_depth (roles.placed_entries xs d rs)
entries_lexed [] d rs e = e
entries_lexed (x ∷ xs) d rs e = entry_lexed x d _ (entries_lexed xs d rs e)

mutual
  command_lexed : (c : Command) (d : ℕ) {ps : Ps} (rs : Rs) → ps ≡ lexemes_at_depth rs → placed_command c d ps ≡ lexemes_at_depth (roles.placed_command c d rs)
  command_lexed (bracket xs) d rs e = cons (l.sign signs.Open, d) (rows_lexed xs (d + 1) _ (cons (l.sign signs.Close, d) e))
  command_lexed (simple_ x) d rs e = cons (t.simple x, d) e
  command_lexed (literal_ q) d rs e = cons (t.quoted_text q, d) e
  command_lexed (name_ n) d rs e = cons (l.name n, d) e
  command_lexed (non_ true n) d rs e = cons (l.word words.Non, d) (cons (l.sign signs.Minus, d) (cons (l.name n, d) e))
  command_lexed (non_ false n) d rs e = cons (l.word words.Non, d) (cons (l.name n, d) e)
  command_lexed (prefixed p c) d rs e = cons (t.prefix p, d) (command_lexed c (d + 1) rs e)
  command_lexed (counted n x c) d rs e = cons (t.count n, d) (expression_lexed x d _ (command_lexed c (d + 1) rs e))
  command_lexed (move_ m x) d rs e = cons (t.move m, d) (expression_lexed x d rs e)
  command_lexed (named x n) d rs e = cons (t.naming x, d) (cons (l.name n, d) e)
  command_lexed (splice_ x a) d rs e = cons (t.splice x, d) (with_argument a d rs e)
  command_lexed (setlimit_ b c) d rs e = cons (l.word words.SetLimit, d) (command_lexed b (d + 1) _ (cons (l.word words.For, d) (command_lexed c (d + 1) rs e)))
  command_lexed (assign_ n o x) d rs e = cons (l.sign signs.Dollar, d) (cons (l.name n, d) (cons (t.assigns o, d) (expression_lexed x d rs e)))
  command_lexed (compare_ n o x) d rs e = cons (l.sign signs.Dollar, d) (cons (l.name n, d) (cons (t.compares o, d) (expression_lexed x d rs e)))
  command_lexed (compare_values_ x o y) d rs e = cons (l.sign signs.Dollar, d) (cons (l.sign signs.Open, d) (expression_lexed x d _ (cons (t.compares o, d) (expression_lexed y d _ (cons (l.sign signs.Close, d) e)))))
  command_lexed (among_ x gs) d rs e = cons (l.word words.Among, d) (cons (l.sign signs.Open, d) (starter_lexed x d _ (groups_lexed gs d _ (cons (l.sign signs.Close, d) e))))

  rows_lexed : (xs : Rows) (d : ℕ) {ps : Ps} (rs : Rs) → ps ≡ lexemes_at_depth rs → placed_rows xs d ps ≡ lexemes_at_depth (roles.placed_rows xs d rs)
  rows_lexed no_rows d rs e = e
  rows_lexed (row c os xs) d rs e = command_lexed c d _ (others_lexed os d _ (rows_lexed xs d rs e))

  others_lexed : (os : Others) (d : ℕ) {ps : Ps} (rs : Rs) → ps ≡ lexemes_at_depth rs → placed_others os d ps ≡ lexemes_at_depth (roles.placed_others os d rs)
  others_lexed no_others d rs e = e
  others_lexed (joined j c os) d rs e = cons (t.joiner j, d) (command_lexed c d _ (others_lexed os d rs e))

  starter_lexed : (x : Starter) (d : ℕ) {ps : Ps} (rs : Rs) → ps ≡ lexemes_at_depth rs → placed_starter x d ps ≡ lexemes_at_depth (roles.placed_starter x d rs)
  starter_lexed no_starter d rs e = e
  starter_lexed (starter xs) d rs e = cons (l.sign signs.Open, d + 1) (rows_lexed xs (d + 1 + 1) _ (cons (l.sign signs.Close, d + 1) e))

  groups_lexed : (gs : Groups) (d : ℕ) {ps : Ps} (rs : Rs) → ps ≡ lexemes_at_depth rs → placed_groups gs d ps ≡ lexemes_at_depth (roles.placed_groups gs d rs)
  groups_lexed (bare xs) d rs e = entries_lexed xs d rs e
  groups_lexed (group x xs ys gs) d rs e =
      entry_lexed x d _ (entries_lexed xs d _ (cons (l.sign signs.Open, d + 1) (rows_lexed ys (d + 1 + 1) _ (cons (l.sign signs.Close, d + 1) (groups_lexed gs d rs e)))))

names_lexed : (ns : List (List ℕ)) {ps : Ps} (rs : Rs) → ps ≡ lexemes_at_depth rs → placed_names ns ps ≡ lexemes_at_depth (roles.placed_names ns rs)
names_lexed [] rs e = e
names_lexed (n ∷ ns) rs e = cons (l.name n, 0) (names_lexed ns rs e)

terms_lexed : (xs : List Term) {ps : Ps} (rs : Rs) → ps ≡ lexemes_at_depth rs → placed_terms xs ps ≡ lexemes_at_depth (roles.placed_terms xs rs)
terms_lexed [] rs e = e
terms_lexed (term o a ∷ xs) rs e = cons (t.additive o, 0) (with_argument a 0 _ (terms_lexed xs rs e))

pub plain_lexed : (x : Plain) {ps : Ps} (rs : Rs) → ps ≡ lexemes_at_depth rs → placed_plain x ps ≡ lexemes_at_depth (roles.placed_plain x rs)
plain_lexed (declaration k ns) rs e = cons (t.declares k, 0) (cons (l.sign signs.Open, 0) (names_lexed ns _ (cons (l.sign signs.Close, 0) e)))
plain_lexed (escapes a b) rs e = cons (l.word words.StringEscapes, 0) (cons (l.inserts a b, 0) e)
plain_lexed (macro n None q) rs e = cons (l.word words.StringDef, 0) (cons (l.macro_name n, 0) (cons (t.quoted_text q, 0) e))
plain_lexed (macro n (Some b) q) rs e = cons (l.word words.StringDef, 0) (cons (l.macro_name n, 0) (cons (t.base b, 0) (cons (t.quoted_text q, 0) e)))
plain_lexed (routine n c os) rs e = cons (l.word words.Define, 0) (cons (l.name n, 0) (cons (l.word words.As, 0) (command_lexed c 1 _ (others_lexed os 1 rs e))))
plain_lexed (grouping n a xs) rs e = cons (l.word words.Define, 0) (cons (l.name n, 0) (with_argument a 0 _ (terms_lexed xs rs e)))

plains_lexed : (xs : List Plain) {ps : Ps} (rs : Rs) → ps ≡ lexemes_at_depth rs → placed_plains xs ps ≡ lexemes_at_depth (roles.placed_plains xs rs)
plains_lexed [] rs e = e
plains_lexed (x ∷ xs) rs e = plain_lexed x _ (plains_lexed xs rs e)

items_lexed : (is : List Item) {ps : Ps} (rs : Rs) → ps ≡ lexemes_at_depth rs → placed_items is ps ≡ lexemes_at_depth (roles.placed_items is rs)
items_lexed [] rs e = e
items_lexed (plain x ∷ is) rs e = plain_lexed x _ (items_lexed is rs e)
items_lexed (backward xs ∷ is) rs e = cons (l.word words.BackwardMode, 0) (cons (l.sign signs.Open, 0) (plains_lexed xs _ (cons (l.sign signs.Close, 0) (items_lexed is rs e))))

-- ---- of each text

pub places_lexed : (w : Text) (x : TreeOf w) → places_in w x ≡ lexemes_at_depth (roles.places_in w x)
places_lexed script is = items_lexed is [] refl
places_lexed body (c, os) = command_lexed c 1 _ (others_lexed os 1 [] refl)
places_lexed terms (a, xs) = with_argument a 0 _ (terms_lexed xs [] refl)
places_lexed (among d) (x, gs) = command_lexed (among_ x gs) d [] refl

pub tokens_lexed : (rs : Rs) → tokens (lexemes_at_depth rs) ≡ map lexeme_as (roles.tokens rs)
tokens_lexed [] = refl
tokens_lexed (r ∷ rs) = ap (λ (ls : List l.Lexeme). lexeme_as r.0 ∷ ls) (tokens_lexed rs)

pub text_lexed : (w : Text) (x : TreeOf w) → tokens_of w x ≡ map lexeme_as (roles.tokens_of w x)
text_lexed w x = ap tokens (places_lexed w x) ∙ tokens_lexed (roles.places_in w x)
