-- The tokens of a tree at their depths are its tokens as they are written one after another.
use Rattle.std.proofs.Common.{◌≡◌, ℕ, ◌+◌, true, List, [], ◌∷◌, Option, Some, None, refl, ap, ◌∙◌}
use Rattle.sbl_ast.specs.declared.tree.Base.{Base}
use Rattle.sbl_ast.specs.declared.tree.Additive.TheVariants as additives
use Rattle.sbl_ast.specs.Terminal.{Terminal}
use Rattle.sbl_ast.specs.Terminal as t
use Rattle.sbl_ast.specs.Tree.{Expression, expression, Sums, no_sums, sum, Product, product, Scales, no_scales, scale, Factor, negated, bracketed, Entry, entry, Command, bracket, non_, prefixed, counted, move_, setlimit_, assign_, compare_, compare_values_, among_, Rows, no_rows, row, Others, no_others, joined, Starter, no_starter, starter, Groups, bare, group, Term, term, Plain, declaration, escapes, macro, routine, grouping, Item, plain, backward}
use Rattle.sbl_ast.specs.Spelled.{argument_terminal, spelled_expression, spelled_sums, spelled_product, spelled_scales, spelled_factor, spelled_entry, spelled_entries, spelled_command, spelled_rows, spelled_others, spelled_starter, spelled_groups, spelled_names, spelled_base, spelled_terms, spelled_plain, spelled_plains, spelled_item, spelled_items, script_tokens}
use Rattle.sbl_ast.specs.TerminalPlaces.{AtDepth, placed_expression, placed_sums, placed_product, placed_scales, placed_factor, placed_entry, placed_entries, placed_command, placed_rows, placed_others, placed_starter, placed_groups, placed_names, placed_base, placed_terms, placed_plain, placed_plains, placed_item, placed_items, places, tokens}

abbrev Ts : Type 0
Ts = List Terminal

pub cons : {a b : List Terminal} (x : Terminal) → a ≡ b → x ∷ a ≡ x ∷ b
cons x e = ap (λ (r : List Terminal). x ∷ r) e

mutual
  expression_tokens : (x : Expression) (d : ℕ) (ps : List AtDepth) → tokens (placed_expression x d ps) ≡ spelled_expression x (tokens ps)
  expression_tokens (expression p ss) d ps = product_tokens p d _ ∙ ap (λ (r : Ts). spelled_product p r) (sums_tokens ss d ps)

  sums_tokens : (ss : Sums) (d : ℕ) (ps : List AtDepth) → tokens (placed_sums ss d ps) ≡ spelled_sums ss (tokens ps)
  sums_tokens no_sums d ps = refl
  sums_tokens (sum o p ss) d ps = cons (t.additive o) (product_tokens p d _ ∙ ap (λ (r : Ts). spelled_product p r) (sums_tokens ss d ps))

  product_tokens : (p : Product) (d : ℕ) (ps : List AtDepth) → tokens (placed_product p d ps) ≡ spelled_product p (tokens ps)
  product_tokens (product f ss) d ps = factor_tokens f d _ ∙ ap (λ (r : Ts). spelled_factor f r) (scales_tokens ss d ps)

  scales_tokens : (ss : Scales) (d : ℕ) (ps : List AtDepth) → tokens (placed_scales ss d ps) ≡ spelled_scales ss (tokens ps)
  scales_tokens no_scales d ps = refl
  scales_tokens (scale o f ss) d ps = cons (t.multiplicative o) (factor_tokens f d _ ∙ ap (λ (r : Ts). spelled_factor f r) (scales_tokens ss d ps))

  factor_tokens : (f : Factor) (d : ℕ) (ps : List AtDepth) → tokens (placed_factor f d ps) ≡ spelled_factor f (tokens ps)
  factor_tokens (negated f) d ps = cons (t.additive additives.Minus) (factor_tokens f (d + 1) ps)
  factor_tokens (bracketed x) d ps = cons t.open_ (expression_tokens x (d + 1) _)
  factor_tokens _ d ps = refl

entry_tokens : (x : Entry) (d : ℕ) (ps : List AtDepth) → tokens (placed_entry x d ps) ≡ spelled_entry x (tokens ps)
entry_tokens (entry q None) d ps = refl
entry_tokens (entry q (Some n)) d ps = refl

entries_tokens : (xs : List Entry) (d : ℕ) (ps : List AtDepth) → tokens (placed_entries xs d ps) ≡ spelled_entries xs (tokens ps)
entries_tokens [] d ps = refl
entries_tokens (x ∷ xs) d ps = entry_tokens x d _ ∙ ap (λ (r : Ts). spelled_entry x r) (entries_tokens xs d ps)

mutual
  pub tree_tokens : (c : Command) (d : ℕ) (ps : List AtDepth) → tokens (placed_command c d ps) ≡ spelled_command c (tokens ps)
  tree_tokens (bracket rs) d ps = cons t.open_ (rows_tokens rs (d + 1) _)
  tree_tokens (prefixed p c) d ps = cons (t.prefix p) (tree_tokens c (d + 1) ps)
  tree_tokens (counted n e c) d ps = cons (t.count n) (expression_tokens e d _ ∙ ap (λ (r : Ts). spelled_expression e r) (tree_tokens c (d + 1) ps))
  tree_tokens (move_ m e) d ps = cons (t.move m) (expression_tokens e d ps)
  tree_tokens (setlimit_ b c) d ps = cons t.set_limit (tree_tokens b (d + 1) _ ∙ ap (λ (r : Ts). spelled_command b r) (cons t.for_ (tree_tokens c (d + 1) ps)))
  tree_tokens (assign_ n o e) d ps = cons t.dollar (cons (t.name n) (cons (t.assigns o) (expression_tokens e d ps)))
  tree_tokens (compare_ n o e) d ps = cons t.dollar (cons (t.name n) (cons (t.compares o) (expression_tokens e d ps)))
  tree_tokens (compare_values_ e o f) d ps = cons t.dollar (cons t.open_ (expression_tokens e d _ ∙ ap (λ (r : Ts). spelled_expression e r) (cons (t.compares o) (expression_tokens f d _))))
  tree_tokens (among_ x gs) d ps = cons t.among (cons t.open_ (starter_tokens x d _ ∙ ap (λ (r : Ts). spelled_starter x r) (groups_tokens gs d _)))
  tree_tokens (non_ true n) d ps = refl
  tree_tokens _ d ps = refl

  rows_tokens : (rs : Rows) (d : ℕ) (ps : List AtDepth) → tokens (placed_rows rs d ps) ≡ spelled_rows rs (tokens ps)
  rows_tokens no_rows d ps = refl
  rows_tokens (row c os rs) d ps = tree_tokens c d _ ∙ ap (λ (r : Ts). spelled_command c r) (others_tokens os d _ ∙ ap (λ (r : Ts). spelled_others os r) (rows_tokens rs d ps))

  others_tokens : (os : Others) (d : ℕ) (ps : List AtDepth) → tokens (placed_others os d ps) ≡ spelled_others os (tokens ps)
  others_tokens no_others d ps = refl
  others_tokens (joined j c os) d ps = cons (t.joiner j) (tree_tokens c d _ ∙ ap (λ (r : Ts). spelled_command c r) (others_tokens os d ps))

  starter_tokens : (x : Starter) (d : ℕ) (ps : List AtDepth) → tokens (placed_starter x d ps) ≡ spelled_starter x (tokens ps)
  starter_tokens no_starter d ps = refl
  starter_tokens (starter rs) d ps = cons t.open_ (rows_tokens rs (d + 1 + 1) _)

  groups_tokens : (gs : Groups) (d : ℕ) (ps : List AtDepth) → tokens (placed_groups gs d ps) ≡ spelled_groups gs (tokens ps)
  groups_tokens (bare xs) d ps = entries_tokens xs d ps
  groups_tokens (group x xs rs gs) d ps = entry_tokens x d _ ∙ ap (λ (r : Ts). spelled_entry x r) (entries_tokens xs d _ ∙ ap (λ (r : Ts). spelled_entries xs r)
      (cons t.open_ (rows_tokens rs (d + 1 + 1) _ ∙ ap (λ (r : Ts). spelled_rows rs r) (cons t.close_ (groups_tokens gs d ps)))))

names_tokens : (ns : List (List ℕ)) (ps : List AtDepth) → tokens (placed_names ns ps) ≡ spelled_names ns (tokens ps)
names_tokens [] ps = refl
names_tokens (n ∷ ns) ps = cons (t.name n) (names_tokens ns ps)

base_tokens : (b : Option Base) (ps : List AtDepth) → tokens (placed_base b ps) ≡ spelled_base b (tokens ps)
base_tokens None ps = refl
base_tokens (Some b) ps = refl

pub terms_tokens : (xs : List Term) (ps : List AtDepth) → tokens (placed_terms xs ps) ≡ spelled_terms xs (tokens ps)
terms_tokens [] ps = refl
terms_tokens (term o a ∷ xs) ps = cons (t.additive o) (cons (argument_terminal a) (terms_tokens xs ps))

pub plain_tokens : (p : Plain) (ps : List AtDepth) → tokens (placed_plain p ps) ≡ spelled_plain p (tokens ps)
plain_tokens (declaration k ns) ps = cons (t.declares k) (cons t.open_ (names_tokens ns _))
plain_tokens (escapes a b) ps = refl
plain_tokens (macro n b q) ps = cons t.string_def (cons (t.macro_name n) (base_tokens b _))
plain_tokens (routine n c os) ps = cons t.define (cons (t.name n) (cons t.as_ (tree_tokens c 1 _ ∙ ap (λ (r : Ts). spelled_command c r) (others_tokens os 1 ps))))
plain_tokens (grouping n a xs) ps = cons t.define (cons (t.name n) (cons (argument_terminal a) (terms_tokens xs ps)))

plains_tokens : (xs : List Plain) (ps : List AtDepth) → tokens (placed_plains xs ps) ≡ spelled_plains xs (tokens ps)
plains_tokens [] ps = refl
plains_tokens (x ∷ xs) ps = plain_tokens x _ ∙ ap (λ (r : Ts). spelled_plain x r) (plains_tokens xs ps)

item_tokens : (x : Item) (ps : List AtDepth) → tokens (placed_item x ps) ≡ spelled_item x (tokens ps)
item_tokens (plain p) ps = plain_tokens p ps
item_tokens (backward xs) ps = cons t.backward_mode (cons t.open_ (plains_tokens xs _))

items_tokens : (xs : List Item) (ps : List AtDepth) → tokens (placed_items xs ps) ≡ spelled_items xs (tokens ps)
items_tokens [] ps = refl
items_tokens (x ∷ xs) ps = item_tokens x _ ∙ ap (λ (r : Ts). spelled_item x r) (items_tokens xs ps)

pub places_tokens : (tree : List Item) → tokens (places tree) ≡ script_tokens tree
places_tokens tree = items_tokens tree []

pub body_tokens : (c : Command) (os : Others) → tokens (placed_command c 1 (placed_others os 1 [])) ≡ spelled_command c (spelled_others os [])
body_tokens c os = tree_tokens c 1 _ ∙ ap (λ (r : Ts). spelled_command c r) (others_tokens os 1 [])
