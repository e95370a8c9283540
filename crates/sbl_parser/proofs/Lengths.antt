-- What is read has a token at least.
use Rattle.std.proofs.Common.{◌≡◌, ℕ, ◌<◌, ◌≤◌, true, List, [], ◌∷◌, length, drop, Option, Some, None, ap, arith, length-drop}
use Rattle.sbl_ast.specs.declared.tree.Base.{Base}
use Rattle.sbl_ast.specs.Terminal.{Terminal, tokens_left}
use Rattle.sbl_ast.specs.Terminal as t
use Rattle.sbl_ast.specs.Tree.{Expression, expression, Sums, no_sums, sum, Product, product, Scales, no_scales, scale, Factor, negated, bracketed, Entry, entry, Command, bracket, non_, prefixed, counted, move_, setlimit_, assign_, compare_, compare_values_, among_, Rows, no_rows, row, Others, no_others, joined, Starter, no_starter, starter, Groups, bare, group, Term, term, Plain, declaration, escapes, macro, routine, grouping, Item, plain, backward}
use Rattle.sbl_ast.specs.Spelled.{spelled_expression, spelled_sums, spelled_product, spelled_scales, spelled_factor, spelled_entry, spelled_entries, spelled_command, spelled_rows, spelled_others, spelled_starter, spelled_groups, spelled_names, spelled_base, spelled_terms, spelled_plain, spelled_plains, spelled_item}

abbrev Ts : Type 0
Ts = List Terminal

mutual
  pub expression_length : (x : Expression) (rest : Ts) → length rest < length (spelled_expression x rest)
  expression_length (expression p ss) rest = omega (arith, product_length p (spelled_sums ss rest), sums_length ss rest)

  pub sums_length : (ss : Sums) (rest : Ts) → length rest ≤ length (spelled_sums ss rest)
  sums_length no_sums rest = omega arith
  sums_length (sum o p ss) rest = omega (arith, product_length p (spelled_sums ss rest), sums_length ss rest)

  pub product_length : (p : Product) (rest : Ts) → length rest < length (spelled_product p rest)
  product_length (product f ss) rest = omega (arith, factor_length f (spelled_scales ss rest), scales_length ss rest)

  pub scales_length : (ss : Scales) (rest : Ts) → length rest ≤ length (spelled_scales ss rest)
  scales_length no_scales rest = omega arith
  scales_length (scale o f ss) rest = omega (arith, factor_length f (spelled_scales ss rest), scales_length ss rest)

  pub factor_length : (f : Factor) (rest : Ts) → length rest < length (spelled_factor f rest)
  factor_length (negated f) rest = omega (arith, factor_length f rest)
  factor_length (bracketed x) rest = omega (arith, expression_length x (t.close_ ∷ rest))
  factor_length _ rest = omega arith

pub entry_length : (x : Entry) (rest : Ts) → length rest < length (spelled_entry x rest)
entry_length (entry q None) rest = omega arith
entry_length (entry q (Some n)) rest = omega arith

pub entries_length : (xs : List Entry) (rest : Ts) → length rest ≤ length (spelled_entries xs rest)
entries_length [] rest = omega arith
entries_length (x ∷ xs) rest = omega (arith, entry_length x (spelled_entries xs rest), entries_length xs rest)

mutual
  pub tree_length : (c : Command) (rest : Ts) → length rest < length (spelled_command c rest)
  tree_length (bracket rs) rest = omega (arith, rows_length rs (t.close_ ∷ rest))
  tree_length (non_ true n) rest = omega arith
  tree_length (prefixed p c) rest = omega (arith, tree_length c rest)
  tree_length (counted n e c) rest = omega (arith, expression_length e (spelled_command c rest), tree_length c rest)
  tree_length (move_ m e) rest = omega (arith, expression_length e rest)
  tree_length (setlimit_ b c) rest = omega (arith, tree_length b (t.for_ ∷ spelled_command c rest), tree_length c rest)
  tree_length (assign_ n o e) rest = omega (arith, expression_length e rest)
  tree_length (compare_ n o e) rest = omega (arith, expression_length e rest)
  tree_length (compare_values_ e o f) rest = omega (arith, expression_length e (t.compares o ∷ spelled_expression f (t.close_ ∷ rest)), expression_length f (t.close_ ∷ rest))
  tree_length (among_ x gs) rest = omega (arith, starter_length x (spelled_groups gs (t.close_ ∷ rest)), groups_length gs (t.close_ ∷ rest))
  tree_length _ rest = omega arith

  pub rows_length : (rs : Rows) (rest : Ts) → length rest ≤ length (spelled_rows rs rest)
  rows_length no_rows rest = omega arith
  rows_length (row c os rs) rest = omega (arith, tree_length c (spelled_others os (spelled_rows rs rest)), others_length os (spelled_rows rs rest), rows_length rs rest)

  pub others_length : (os : Others) (rest : Ts) → length rest ≤ length (spelled_others os rest)
  others_length no_others rest = omega arith
  others_length (joined j c os) rest = omega (arith, tree_length c (spelled_others os rest), others_length os rest)

  pub starter_length : (x : Starter) (rest : Ts) → length rest ≤ length (spelled_starter x rest)
  starter_length no_starter rest = omega arith
  starter_length (starter rs) rest = omega (arith, rows_length rs (t.close_ ∷ rest))

  pub groups_length : (gs : Groups) (rest : Ts) → length rest ≤ length (spelled_groups gs rest)
  groups_length (bare xs) rest = omega (arith, entries_length xs rest)
  groups_length (group x xs rs gs) rest = omega (
    arith,
    entry_length x (spelled_entries xs (t.open_ ∷ spelled_rows rs (t.close_ ∷ spelled_groups gs rest))),
    entries_length xs (t.open_ ∷ spelled_rows rs (t.close_ ∷ spelled_groups gs rest)),
    rows_length rs (t.close_ ∷ spelled_groups gs rest),
    groups_length gs rest,
  )

pub names_length : (ns : List (List ℕ)) (rest : Ts) → length rest ≤ length (spelled_names ns rest)
names_length [] rest = omega arith
names_length (n ∷ ns) rest = omega (arith, names_length ns rest)

pub base_length : (b : Option Base) (rest : Ts) → length rest ≤ length (spelled_base b rest)
base_length None rest = omega arith
base_length (Some b) rest = omega arith

pub terms_length : (xs : List Term) (rest : Ts) → length rest ≤ length (spelled_terms xs rest)
terms_length [] rest = omega arith
terms_length (term o a ∷ xs) rest = omega (arith, terms_length xs rest)

pub plain_length : (p : Plain) (rest : Ts) → length rest < length (spelled_plain p rest)
plain_length (declaration k ns) rest = omega (arith, names_length ns (t.close_ ∷ rest))
plain_length (escapes a b) rest = omega arith
plain_length (macro n b q) rest = omega (arith, base_length b (t.literal q ∷ rest))
plain_length (routine n c os) rest = omega (arith, tree_length c (spelled_others os rest), others_length os rest)
plain_length (grouping n a xs) rest = omega (arith, terms_length xs rest)

pub plains_length : (xs : List Plain) (rest : Ts) → length rest ≤ length (spelled_plains xs rest)
plains_length [] rest = omega arith
plains_length (x ∷ xs) rest = omega (arith, plain_length x (spelled_plains xs rest), plains_length xs rest)

pub item_length : (x : Item) (rest : Ts) → length rest < length (spelled_item x rest)
item_length (plain p) rest = plain_length p rest
item_length (backward xs) rest = omega (arith, plains_length xs (t.close_ ∷ rest))

pub left_shorter : (a b : Ts) → a ≡ drop 1 b → length a ≤ length b
left_shorter a b e = omega (arith, ap length e, length-drop 1 b)
