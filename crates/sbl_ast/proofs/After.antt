-- What follows a part of a tree follows its tokens: so a part is shallow by itself, and another may stand in its place.
use Rattle.std.proofs.Common.{◌≡◌, ℕ, ◌+◌, true, List, [], ◌∷◌, ◌++◌, Some, None, refl, sym, ap, subst, ◌∙◌}
use Rattle.sbl_token.specs.Lexemes as l
use Rattle.sbl_token.specs.declared.words.Word.TheVariants as words
use Rattle.sbl_token.specs.declared.signs.Sign.TheVariants as signs
use Rattle.sbl_ast.specs.Symbols as t
use Rattle.sbl_ast.specs.Tree.{Expression, expression, Sums, no_sums, sum, Product, product, Scales, no_scales, scale, Factor, negated, bracketed, Entry, entry, Command, bracket, non_, prefixed, counted, move_, setlimit_, assign_, compare_, compare_values_, among_, Rows, no_rows, row, Others, no_others, joined, Starter, no_starter, starter, Groups, bare, group, Term, term, Plain, declaration, escapes, macro, routine, grouping}
use Rattle.sbl_ast.specs.Places.{AtDepth, placed_expression, placed_sums, placed_product, placed_scales, placed_factor, placed_entry, placed_entries, placed_command, placed_rows, placed_others, placed_starter, placed_groups, placed_terms, placed_plain, AreShallow}
use Rattle.sbl_ast.specs.inside.PlaceParts.{placed_names}

abbrev Ps : Type 0
Ps = List AtDepth

-- tokens are put before those that follow, whatever those are
abbrev pub IsBefore : (Ps → Ps) → Type 0
IsBefore part = (r q : Ps) → part (r ++ q) ≡ part r ++ q

cons : {r q : Ps} (x : AtDepth) → r ≡ q → x ∷ r ≡ x ∷ q
cons x e = ap (λ (z : Ps). x ∷ z) e

mutual
  pub expression_before : (x : Expression) (d : ℕ) → IsBefore (placed_expression x d)
  expression_before (expression p ss) d r q = ap (placed_product p d) (sums_before ss d r q) ∙ product_before p d (placed_sums ss d r) q

  pub sums_before : (ss : Sums) (d : ℕ) → IsBefore (placed_sums ss d)
  sums_before no_sums d r q = refl
  sums_before (sum o p ss) d r q = cons (t.additive o, d) (ap (placed_product p d) (sums_before ss d r q) ∙ product_before p d (placed_sums ss d r) q)

  pub product_before : (p : Product) (d : ℕ) → IsBefore (placed_product p d)
  product_before (product f ss) d r q = ap (placed_factor f d) (scales_before ss d r q) ∙ factor_before f d (placed_scales ss d r) q

  pub scales_before : (ss : Scales) (d : ℕ) → IsBefore (placed_scales ss d)
  scales_before no_scales d r q = refl
  scales_before (scale o f ss) d r q = cons (t.multiplicative o, d) (ap (placed_factor f d) (scales_before ss d r q) ∙ factor_before f d (placed_scales ss d r) q)

  pub factor_before : (f : Factor) (d : ℕ) → IsBefore (placed_factor f d)
  factor_before (negated f) d r q = cons (l.sign signs.Minus, d + 1) (factor_before f (d + 1) r q)
  factor_before (bracketed x) d r q = cons (l.sign signs.Open, d + 1) (expression_before x (d + 1) ((l.sign signs.Close, d + 1) ∷ r) q)
  factor_before _ d r q = refl

pub entry_before : (x : Entry) (d : ℕ) → IsBefore (placed_entry x d)
entry_before (entry s None) d r q = refl
entry_before (entry s (Some n)) d r q = refl

pub entries_before : (xs : List Entry) (d : ℕ) → IsBefore (placed_entries xs d)
entries_before [] d r q = refl
entries_before (x ∷ xs) d r q = ap (placed_entry x d) (entries_before xs d r q) ∙ entry_before x d (placed_entries xs d r) q

mutual
  pub tree_before : (c : Command) (d : ℕ) → IsBefore (placed_command c d)
  tree_before (bracket rs) d r q = cons (l.sign signs.Open, d) (rows_before rs (d + 1) ((l.sign signs.Close, d) ∷ r) q)
  tree_before (non_ true n) d r q = refl
  tree_before (prefixed p c) d r q = cons (t.prefix p, d) (tree_before c (d + 1) r q)
  tree_before (counted n e c) d r q = cons (t.count n, d) (ap (placed_expression e d) (tree_before c (d + 1) r q) ∙ expression_before e d (placed_command c (d + 1) r) q)
  tree_before (move_ m e) d r q = cons (t.move m, d) (expression_before e d r q)
  tree_before (setlimit_ b c) d r q = cons (l.word words.SetLimit, d) (ap (λ (z : Ps). placed_command b (d + 1) ((l.word words.For, d) ∷ z)) (tree_before c (d + 1) r q) ∙ tree_before b (d + 1) ((l.word words.For, d) ∷ placed_command c (d + 1) r) q)
  tree_before (assign_ n o e) d r q = cons (l.sign signs.Dollar, d) (cons (l.name n, d) (cons (t.assigns o, d) (expression_before e d r q)))
  tree_before (compare_ n o e) d r q = cons (l.sign signs.Dollar, d) (cons (l.name n, d) (cons (t.compares o, d) (expression_before e d r q)))
  tree_before (compare_values_ e o f) d r q = cons (l.sign signs.Dollar, d) (cons (l.sign signs.Open, d) (ap (λ (z : Ps). placed_expression e d ((t.compares o, d) ∷ z)) (expression_before f d ((l.sign signs.Close, d) ∷ r) q) ∙ expression_before e d ((t.compares o, d) ∷ placed_expression f d ((l.sign signs.Close, d) ∷ r)) q))
  tree_before (among_ s gs) d r q = cons (l.word words.Among, d) (cons (l.sign signs.Open, d) (ap (placed_starter s d) (groups_before gs d ((l.sign signs.Close, d) ∷ r) q) ∙ starter_before s d (placed_groups gs d ((l.sign signs.Close, d) ∷ r)) q))
  tree_before _ d r q = refl

  pub rows_before : (rs : Rows) (d : ℕ) → IsBefore (placed_rows rs d)
  rows_before no_rows d r q = refl
  rows_before (row c os rs) d r q = ap (λ (z : Ps). placed_command c d (placed_others os d z)) (rows_before rs d r q) ∙ ap (placed_command c d) (others_before os d (placed_rows rs d r) q) ∙ tree_before c d (placed_others os d (placed_rows rs d r)) q

  pub others_before : (os : Others) (d : ℕ) → IsBefore (placed_others os d)
  others_before no_others d r q = refl
  others_before (joined j c os) d r q = cons (t.joiner j, d) (ap (placed_command c d) (others_before os d r q) ∙ tree_before c d (placed_others os d r) q)

  pub starter_before : (s : Starter) (d : ℕ) → IsBefore (placed_starter s d)
  starter_before no_starter d r q = refl
  starter_before (starter rs) d r q = cons (l.sign signs.Open, d + 1) (rows_before rs (d + 1 + 1) ((l.sign signs.Close, d + 1) ∷ r) q)

  pub groups_before : (gs : Groups) (d : ℕ) → IsBefore (placed_groups gs d)
  groups_before (bare es) d r q = entries_before es d r q
  groups_before (group e es rs gs) d r q =
      let inner = cons (l.sign signs.Open, d + 1) (ap (λ (z : Ps). placed_rows rs (d + 1 + 1) ((l.sign signs.Close, d + 1) ∷ z)) (groups_before gs d r q) ∙ rows_before rs (d + 1 + 1) ((l.sign signs.Close, d + 1) ∷ placed_groups gs d r) q) in
      let left = (l.sign signs.Open, d + 1) ∷ placed_rows rs (d + 1 + 1) ((l.sign signs.Close, d + 1) ∷ placed_groups gs d r) in
      ap (λ (z : Ps). placed_entry e d (placed_entries es d z)) inner ∙ ap (placed_entry e d) (entries_before es d left q) ∙ entry_before e d (placed_entries es d left) q

names_before : (ns : List (List ℕ)) → IsBefore (placed_names ns)
names_before [] r q = refl
names_before (n ∷ ns) r q = cons (l.name n, 0) (names_before ns r q)

terms_before : (xs : List Term) → IsBefore (placed_terms xs)
terms_before [] r q = refl
terms_before (term o a ∷ xs) r q = cons (t.additive o, 0) (cons (t.argument a, 0) (terms_before xs r q))

pub plain_before : (p : Plain) → IsBefore (placed_plain p)
plain_before (declaration k ns) r q = cons (t.declares k, 0) (cons (l.sign signs.Open, 0) (names_before ns ((l.sign signs.Close, 0) ∷ r) q))
plain_before (escapes a b) r q = refl
plain_before (macro n None s) r q = refl
plain_before (macro n (Some b) s) r q = refl
plain_before (routine n c os) r q = cons (l.word words.Define, 0) (cons (l.name n, 0) (cons (l.word words.As, 0) (ap (placed_command c 1) (others_before os 1 r q) ∙ tree_before c 1 (placed_others os 1 r) q)))
plain_before (grouping n a xs) r q = cons (l.word words.Define, 0) (cons (l.name n, 0) (cons (t.argument a, 0) (terms_before xs r q)))

-- ---- shallow parts

pub shallow_prefix : (ps qs : Ps) → AreShallow (ps ++ qs) → AreShallow ps
shallow_prefix [] qs h = tt
shallow_prefix (p ∷ ps) qs h = (h.0, shallow_prefix ps qs h.1)

pub shallow_rest : (ps qs : Ps) → AreShallow (ps ++ qs) → AreShallow qs
shallow_rest [] qs h = h
shallow_rest (p ∷ ps) qs h = shallow_rest ps qs h.1

pub shallow_both : (ps qs : Ps) → AreShallow ps → AreShallow qs → AreShallow (ps ++ qs)
shallow_both [] qs h g = g
shallow_both (p ∷ ps) qs h g = (h.0, shallow_both ps qs h.1 g)

-- the part by itself, what follows it, and the part with something else after it
pub by_itself : (part : Ps → Ps) → IsBefore part → (r : Ps) → AreShallow (part r) → AreShallow (part [])
by_itself part before r h = shallow_prefix (part []) r (subst AreShallow (before [] r) h)

pub after_it : (part : Ps → Ps) → IsBefore part → (r : Ps) → AreShallow (part r) → AreShallow r
after_it part before r h = shallow_rest (part []) r (subst AreShallow (before [] r) h)

pub with_after : (part : Ps → Ps) → IsBefore part → (r : Ps) → AreShallow (part []) → AreShallow r → AreShallow (part r)
with_after part before r h g = subst AreShallow (sym (before [] r)) (shallow_both (part []) r h g)
