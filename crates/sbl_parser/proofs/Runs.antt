-- Steps over the tokens of a tree, from its symbol to what is wanted after it.
use Rattle.std.proofs.Common.{◌≡◌, ℕ, ◌+◌, true, false, List, [], ◌∷◌, Option, Some, None, refl}
use Rattle.sbl_ast.specs.declared.tree.Base.{Base}
use Rattle.sbl_ast.specs.Terminal as t
use Rattle.sbl_ast.specs.Tree.{QuotedText, Argument, written_out, by_name, Expression, expression, Sums, no_sums, sum, Product, product, Scales, no_scales, scale, Factor, negated, bracketed, length_of, Entry, entry, Command, bracket, simple_, literal_, name_, non_, prefixed, counted, move_, named, splice_, setlimit_, assign_, compare_, compare_values_, among_, Rows, no_rows, row, Others, no_others, joined, Starter, no_starter, starter, Groups, bare, group, Term, term, Plain, declaration, escapes, macro, routine, grouping, Item, plain, backward}
use Rattle.sbl_ast.specs.Spelled.{argument_terminal}
use Rattle.sbl_ast.specs.TerminalPlaces.{AtDepth, placed_expression, placed_sums, placed_product, placed_scales, placed_factor, placed_entry, placed_entries, placed_command, placed_rows, placed_others, placed_starter, placed_groups, placed_names, placed_base, placed_terms, placed_plain, placed_plains, placed_item, placed_items, places, places_in}
use Rattle.sbl_parser.specs.Steps.{Stack}
use Rattle.sbl_parser.specs.Steps as s
use Rattle.sbl_ast.specs.Texts.{Text, TreeOf}
use Rattle.sbl_parser.specs.FirstStack.{first_stack}
use Rattle.sbl_ast.specs.Texts as texts
use Rattle.sbl_parser.proofs.Followers.{Passes, no_times, no_or, first_is, Calm, Refuses, skip, as_row, as_plains, as_items, as_item, skip_sums, skip_scales, skip_others, skip_terms}

-- ---- arithmetic

argument_runs : (a : Argument) (d : ℕ) (ps : List AtDepth) (k : Stack) → Passes ps k → Passes ((argument_terminal a, d) ∷ ps) (s.argument d ∷ k)
argument_runs (written_out q) d ps k h = (k, refl, h)
argument_runs (by_name n) d ps k h = (k, refl, h)

sums_first : (ss : Sums) (d : ℕ) (ps : List AtDepth) → first_is no_times ps ≡ true → first_is no_times (placed_sums ss d ps) ≡ true
sums_first no_sums d ps e = e
sums_first (sum o p ss) d ps e = refl

mutual
  pub expression_runs : (x : Expression) (d : ℕ) (ps : List AtDepth) (k : Stack) → Calm ps → Passes ps k → Passes (placed_expression x d ps) (s.expression d k)
  expression_runs (expression p ss) d ps k c h = product_runs p d (placed_sums ss d ps) (s.sums d ∷ k) (sums_first ss d ps c.times) (sums_runs ss d ps k c h)

  sums_runs : (ss : Sums) (d : ℕ) (ps : List AtDepth) (k : Stack) → Calm ps → Passes ps k → Passes (placed_sums ss d ps) (s.sums d ∷ k)
  sums_runs no_sums d ps k c h = skip_sums d ps k c.plus h
  sums_runs (sum o p ss) d ps k c h = (s.expression d k, refl, product_runs p d (placed_sums ss d ps) (s.sums d ∷ k) (sums_first ss d ps c.times) (sums_runs ss d ps k c h))

  product_runs : (p : Product) (d : ℕ) (ps : List AtDepth) (k : Stack) → first_is no_times ps ≡ true → Passes ps k → Passes (placed_product p d ps) (s.factor d ∷ s.scales d ∷ k)
  product_runs (product f ss) d ps k e h = factor_runs f d (placed_scales ss d ps) (s.scales d ∷ k) (scales_runs ss d ps k e h)

  scales_runs : (ss : Scales) (d : ℕ) (ps : List AtDepth) (k : Stack) → first_is no_times ps ≡ true → Passes ps k → Passes (placed_scales ss d ps) (s.scales d ∷ k)
  scales_runs no_scales d ps k e h = skip_scales d ps k e h
  scales_runs (scale o f ss) d ps k e h = (s.factor d ∷ s.scales d ∷ k, refl, factor_runs f d (placed_scales ss d ps) (s.scales d ∷ k) (scales_runs ss d ps k e h))

  factor_runs : (f : Factor) (d : ℕ) (ps : List AtDepth) (k : Stack) → Passes ps k → Passes (placed_factor f d ps) (s.factor d ∷ k)
  factor_runs (negated f) d ps k h = (s.factor (d + 1) ∷ k, refl, factor_runs f (d + 1) ps k h)
  factor_runs (bracketed x) d ps k h = (
    s.expression (d + 1) (s.closing (d + 1) ∷ k),
    refl,
    expression_runs x (d + 1) ((t.close_, d + 1) ∷ ps) (s.closing (d + 1) ∷ k) (record { plus = refl; times = refl }) (k, refl, h),
  )
  factor_runs (length_of a) d ps k h = (s.argument d ∷ k, refl, argument_runs a d ps k h)
  factor_runs _ d ps k h = (k, refl, h)

-- ---- the strings of an among

-- what follows some entries
abbrev Ends : List AtDepth → ℕ → Stack → Type 0
Ends ps d k = Passes ps (s.entries d ∷ k) × Passes ps (s.condition d ∷ s.entries d ∷ k)

entry_runs : (x : Entry) (d : ℕ) (ps : List AtDepth) (k : Stack) → Ends ps d k → Passes (placed_entry x d ps) (s.groups d ∷ k) × Ends (placed_entry x d ps) d k
entry_runs (entry q None) d ps k h =
    ((s.condition d ∷ s.entries d ∷ k, refl, h.1), ((s.condition d ∷ s.entries d ∷ k, refl, h.1), (s.condition d ∷ s.entries d ∷ k, refl, h.1)))
entry_runs (entry q (Some n)) d ps k h =
    let rest : Passes ((t.name n, d) ∷ ps) (s.condition d ∷ s.entries d ∷ k) = (s.entries d ∷ k, refl, h.0) in
    ((s.condition d ∷ s.entries d ∷ k, refl, rest), ((s.condition d ∷ s.entries d ∷ k, refl, rest), (s.condition d ∷ s.entries d ∷ k, refl, rest)))

entries_runs : (xs : List Entry) (d : ℕ) (ps : List AtDepth) (k : Stack) → Ends ps d k → Ends (placed_entries xs d ps) d k
entries_runs [] d ps k h = h
entries_runs (x ∷ xs) d ps k h = (entry_runs x d (placed_entries xs d ps) k (entries_runs xs d ps k h)).1

-- the last strings, which have no bracket, before the closing of the among
bare_runs : (xs : List Entry) (d : ℕ) (ps : List AtDepth) (k : Stack) → Passes ps k → Passes (placed_entries xs d ((t.close_, d) ∷ ps)) (s.groups d ∷ s.closing d ∷ k)
bare_runs [] d ps k h = (k, refl, h)
bare_runs (x ∷ xs) d ps k h = (entry_runs x d (placed_entries xs d ((t.close_, d) ∷ ps)) (s.closing d ∷ k)
    (entries_runs xs d ((t.close_, d) ∷ ps) (s.closing d ∷ k) ((k, refl, h), (k, refl, h)))).0

-- ---- commands

tree_calm : (c : Command) (d : ℕ) (ps : List AtDepth) → Calm (placed_command c d ps)
tree_calm (bracket rs) d ps = record { plus = refl; times = refl }
tree_calm (non_ true n) d ps = record { plus = refl; times = refl }
tree_calm _ d ps = record { plus = refl; times = refl }

tree_no_or : (c : Command) (d : ℕ) (ps : List AtDepth) → first_is no_or (placed_command c d ps) ≡ true
tree_no_or (bracket rs) d ps = refl
tree_no_or (non_ true n) d ps = refl
tree_no_or _ d ps = refl

rows_calm : (rs : Rows) (d : ℕ) (ps : List AtDepth) → Calm ps → Calm (placed_rows rs d ps)
rows_calm no_rows d ps c = c
rows_calm (row x os rs) d ps c = tree_calm x d _

rows_no_or : (rs : Rows) (d : ℕ) (ps : List AtDepth) → first_is no_or ps ≡ true → first_is no_or (placed_rows rs d ps) ≡ true
rows_no_or no_rows d ps c = c
rows_no_or (row x os rs) d ps c = tree_no_or x d _

others_calm : (os : Others) (d : ℕ) (ps : List AtDepth) → Calm ps → Calm (placed_others os d ps)
others_calm no_others d ps c = c
others_calm (joined j x os) d ps c = record { plus = refl; times = refl }

mutual
  pub tree_runs : (c : Command) (d : ℕ) (ps : List AtDepth) (k : Stack) → Calm ps → Passes ps k → Passes (placed_command c d ps) (s.command d ∷ k)
  tree_runs (bracket rs) d ps k c h = (
    s.rows (d + 1) ∷ s.closing d ∷ k,
    refl,
    rows_runs rs (d + 1) ((t.close_, d) ∷ ps) (s.closing d ∷ k) (record { plus = refl; times = refl }) refl (k, refl, h) (k, refl, h),
  )
  tree_runs (simple_ x) d ps k c h = (k, refl, h)
  tree_runs (literal_ q) d ps k c h = (k, refl, h)
  tree_runs (name_ n) d ps k c h = (k, refl, h)
  tree_runs (non_ true n) d ps k c h = (s.excluded d ∷ k, refl, (s.name d ∷ k, refl, (k, refl, h)))
  tree_runs (non_ false n) d ps k c h = (s.excluded d ∷ k, refl, (k, refl, h))
  tree_runs (prefixed p x) d ps k c h = (s.command (d + 1) ∷ k, refl, tree_runs x (d + 1) ps k c h)
  tree_runs (counted n e x) d ps k c h = (
    s.expression d (s.command (d + 1) ∷ k),
    refl,
    expression_runs e d (placed_command x (d + 1) ps) (s.command (d + 1) ∷ k) (tree_calm x (d + 1) ps) (tree_runs x (d + 1) ps k c h),
  )
  tree_runs (move_ m e) d ps k c h = (s.expression d k, refl, expression_runs e d ps k c h)
  tree_runs (named x n) d ps k c h = (s.name d ∷ k, refl, (k, refl, h))
  tree_runs (splice_ x a) d ps k c h = (s.argument d ∷ k, refl, argument_runs a d ps k h)
  tree_runs (setlimit_ b x) d ps k c h = (
    s.command (d + 1) ∷ s.for_ d ∷ s.command (d + 1) ∷ k,
    refl,
    tree_runs b (d + 1) ((t.for_, d) ∷ placed_command x (d + 1) ps) (s.for_ d ∷ s.command (d + 1) ∷ k) (record { plus = refl; times = refl })
        (s.command (d + 1) ∷ k, refl, tree_runs x (d + 1) ps k c h),
  )
  tree_runs (assign_ n o e) d ps k c h = (s.subject d ∷ k, refl, (s.operator d ∷ k, refl, (s.expression d k, refl, expression_runs e d ps k c h)))
  tree_runs (compare_ n o e) d ps k c h = (s.subject d ∷ k, refl, (s.operator d ∷ k, refl, (s.expression d k, refl, expression_runs e d ps k c h)))
  tree_runs (compare_values_ e o f) d ps k c h =
      let after_f : Passes ((t.close_, d) ∷ ps) (s.closing d ∷ k) = (k, refl, h) in
      let after_o = expression_runs f d ((t.close_, d) ∷ ps) (s.closing d ∷ k) (record { plus = refl; times = refl }) after_f in
      let after_e : Passes ((t.compares o, d) ∷ placed_expression f d ((t.close_, d) ∷ ps)) (s.comparison d ∷ s.expression d (s.closing d ∷ k)) = (s.expression d (s.closing d ∷ k), refl, after_o) in (
        s.subject d ∷ k,
        refl,
        (
          s.expression d (s.comparison d ∷ s.expression d (s.closing d ∷ k)),
          refl,
          expression_runs e d ((t.compares o, d) ∷ placed_expression f d ((t.close_, d) ∷ ps)) (s.comparison d ∷ s.expression d (s.closing d ∷ k)) (record { plus = refl; times = refl }) after_e,
        ),
      )
  tree_runs (among_ x gs) d ps k c h = (
    s.opening d ∷ s.starter d ∷ s.groups d ∷ s.closing d ∷ k,
    refl,
    (
      s.starter d ∷ s.groups d ∷ s.closing d ∷ k,
      refl,
      starter_runs x d (placed_groups gs d ((t.close_, d) ∷ ps)) (s.groups d ∷ s.closing d ∷ k) (groups_refuse gs d ps (s.groups d ∷ s.closing d ∷ k)) (groups_runs gs d ps k h),
    ),
  )

  groups_refuse : (gs : Groups) (d : ℕ) (ps : List AtDepth) (k : Stack) → Refuses (s.starter d) (placed_groups gs d ((t.close_, d) ∷ ps)) k
  groups_refuse (bare []) d ps k = refl
  groups_refuse (bare (entry q None ∷ xs)) d ps k = refl
  groups_refuse (bare (entry q (Some n) ∷ xs)) d ps k = refl
  groups_refuse (group (entry q None) xs rs gs) d ps k = refl
  groups_refuse (group (entry q (Some n)) xs rs gs) d ps k = refl

  rows_runs : (rs : Rows) (d : ℕ) (ps : List AtDepth) (k : Stack) → Calm ps → first_is no_or ps ≡ true → Passes ps (s.rows d ∷ k) → Passes ps k → Passes (placed_rows rs d ps) (s.rows d ∷ k)
  rows_runs no_rows d ps k c j h g = h
  rows_runs (row x os rs) d ps k c j h g =
      let more = rows_runs rs d ps k c j h g in
      as_row d (placed_command x d (placed_others os d (placed_rows rs d ps))) k
      (tree_runs x d (placed_others os d (placed_rows rs d ps)) (s.others d ∷ s.rows d ∷ k) (others_calm os d (placed_rows rs d ps) (rows_calm rs d ps c))
      (others_runs os d (placed_rows rs d ps) (s.rows d ∷ k) (rows_calm rs d ps c) (rows_no_or rs d ps j) more))

  pub others_runs : (os : Others) (d : ℕ) (ps : List AtDepth) (k : Stack) → Calm ps → first_is no_or ps ≡ true → Passes ps k → Passes (placed_others os d ps) (s.others d ∷ k)
  others_runs no_others d ps k c j h = skip_others d ps k j h
  others_runs (joined o x os) d ps k c j h = (
    s.command d ∷ s.others d ∷ k,
    refl,
    tree_runs x d (placed_others os d ps) (s.others d ∷ k) (others_calm os d ps c) (others_runs os d ps k c j h),
  )

  starter_runs : (x : Starter) (d : ℕ) (ps : List AtDepth) (k : Stack) → Refuses (s.starter d) ps k → Passes ps k → Passes (placed_starter x d ps) (s.starter d ∷ k)
  starter_runs no_starter d ps k r h = skip (s.starter d) ps k refl r h
  starter_runs (starter rs) d ps k r h = (
    s.rows (d + 1 + 1) ∷ s.closing (d + 1) ∷ k,
    refl,
    rows_runs rs (d + 1 + 1) ((t.close_, d + 1) ∷ ps) (s.closing (d + 1) ∷ k) (record { plus = refl; times = refl }) refl (k, refl, h) (k, refl, h),
  )

  groups_runs : (gs : Groups) (d : ℕ) (ps : List AtDepth) (k : Stack) → Passes ps k → Passes (placed_groups gs d ((t.close_, d) ∷ ps)) (s.groups d ∷ s.closing d ∷ k)
  groups_runs (bare xs) d ps k h = bare_runs xs d ps k h
  groups_runs (group x xs rs gs) d ps k h =
      let after = groups_runs gs d ps k h in
      let inside = rows_runs rs (d + 1 + 1) ((t.close_, d + 1) ∷ placed_groups gs d ((t.close_, d) ∷ ps)) (s.closing (d + 1) ∷ s.groups d ∷ s.closing d ∷ k) (record { plus = refl; times = refl }) refl
      (s.groups d ∷ s.closing d ∷ k, refl, after) (s.groups d ∷ s.closing d ∷ k, refl, after) in
      let block = (t.open_, d + 1) ∷ placed_rows rs (d + 1 + 1) ((t.close_, d + 1) ∷ placed_groups gs d ((t.close_, d) ∷ ps)) in
      let opened : Ends block d (s.closing d ∷ k) = ((s.rows (d + 1 + 1) ∷ s.closing (d + 1) ∷ s.groups d ∷ s.closing d ∷ k, refl, inside), (s.rows (d + 1 + 1) ∷ s.closing (d + 1) ∷ s.groups d ∷ s.closing d ∷ k, refl, inside)) in
      (entry_runs x d (placed_entries xs d block) (s.closing d ∷ k) (entries_runs xs d block (s.closing d ∷ k) opened)).0

-- ---- items

names_runs : (ns : List (List ℕ)) (ps : List AtDepth) (k : Stack) → Passes ps k → Passes (placed_names ns ((t.close_, 0) ∷ ps)) (s.names ∷ s.closing 0 ∷ k)
names_runs [] ps k h = (k, refl, h)
names_runs (n ∷ ns) ps k h = (s.names ∷ s.closing 0 ∷ k, refl, names_runs ns ps k h)

terms_runs : (xs : List Term) (ps : List AtDepth) (k : Stack) → Calm ps → Passes ps k → Passes (placed_terms xs ps) (s.terms ∷ k)
terms_runs [] ps k c h = skip_terms ps k c.plus h
terms_runs (term o a ∷ xs) ps k c h = (s.argument 0 ∷ s.terms ∷ k, refl, argument_runs a 0 (placed_terms xs ps) (s.terms ∷ k) (terms_runs xs ps k c h))

base_runs : (b : Option Base) (q : QuotedText) (ps : List AtDepth) (k : Stack) → Passes ps k → Passes (placed_base b ((t.literal q, 0) ∷ ps)) (s.base ∷ s.literal ∷ k)
base_runs None q ps k h = (k, refl, h)
base_runs (Some b) q ps k h = (s.literal ∷ k, refl, (k, refl, h))

definition_runs : (a : Argument) (ps : List AtDepth) (k : Stack) → Passes ps (s.terms ∷ k) → Passes ((argument_terminal a, 0) ∷ ps) (s.definition ∷ k)
definition_runs (written_out q) ps k h = (s.terms ∷ k, refl, h)
definition_runs (by_name n) ps k h = (s.terms ∷ k, refl, h)

plain_runs : (p : Plain) (ps : List AtDepth) (k : Stack) → Calm ps → first_is no_or ps ≡ true → Passes ps k → Passes (placed_plain p ps) (s.plain ∷ k)
plain_runs (declaration x ns) ps k c j h = (s.opening 0 ∷ s.names ∷ s.closing 0 ∷ k, refl, (s.names ∷ s.closing 0 ∷ k, refl, names_runs ns ps k h))
plain_runs (escapes a b) ps k c j h = (s.inserts ∷ k, refl, (k, refl, h))
plain_runs (macro n b q) ps k c j h = (s.macro ∷ s.base ∷ s.literal ∷ k, refl, (s.base ∷ s.literal ∷ k, refl, base_runs b q ps k h))
plain_runs (routine n x os) ps k c j h = (
  s.name 0 ∷ s.definition ∷ k,
  refl,
  (
    s.definition ∷ k,
    refl,
    (
      s.command 1 ∷ s.others 1 ∷ k,
      refl,
      tree_runs x 1 (placed_others os 1 ps) (s.others 1 ∷ k) (others_calm os 1 ps c) (others_runs os 1 ps k c j h),
    ),
  ),
)
plain_runs (grouping n a xs) ps k c j h = (s.name 0 ∷ s.definition ∷ k, refl, (s.definition ∷ k, refl, definition_runs a (placed_terms xs ps) k (terms_runs xs ps k c h)))

plain_calm : (p : Plain) (ps : List AtDepth) → Calm (placed_plain p ps) × (first_is no_or (placed_plain p ps) ≡ true)
plain_calm (declaration x ns) ps = (record { plus = refl; times = refl }, refl)
plain_calm _ ps = (record { plus = refl; times = refl }, refl)

plains_calm : (xs : List Plain) (ps : List AtDepth) → Calm (placed_plains xs ((t.close_, 0) ∷ ps)) × (first_is no_or (placed_plains xs ((t.close_, 0) ∷ ps)) ≡ true)
plains_calm [] ps = (record { plus = refl; times = refl }, refl)
plains_calm (x ∷ xs) ps = plain_calm x _

plains_runs : (xs : List Plain) (ps : List AtDepth) (k : Stack) → Passes ps k → Passes (placed_plains xs ((t.close_, 0) ∷ ps)) (s.plains ∷ s.closing 0 ∷ k)
plains_runs [] ps k h = (k, refl, h)
plains_runs (x ∷ xs) ps k h =
    let calm = plains_calm xs ps in
    as_plains (placed_plain x (placed_plains xs ((t.close_, 0) ∷ ps))) (s.closing 0 ∷ k)
    (plain_runs x (placed_plains xs ((t.close_, 0) ∷ ps)) (s.plains ∷ s.closing 0 ∷ k) calm.0 calm.1 (plains_runs xs ps k h))

item_runs : (x : Item) (ps : List AtDepth) (k : Stack) → Calm ps → first_is no_or ps ≡ true → Passes ps k → Passes (placed_item x ps) (s.item ∷ k)
item_runs (plain p) ps k c j h = as_item (placed_plain p ps) k (plain_runs p ps k c j h)
item_runs (backward xs) ps k c j h = (s.opening 0 ∷ s.plains ∷ s.closing 0 ∷ k, refl, (s.plains ∷ s.closing 0 ∷ k, refl, plains_runs xs ps k h))

items_calm : (xs : List Item) → Calm (placed_items xs []) × (first_is no_or (placed_items xs []) ≡ true)
items_calm [] = (record { plus = refl; times = refl }, refl)
items_calm (plain p ∷ xs) = plain_calm p _
items_calm (backward ps ∷ xs) = (record { plus = refl; times = refl }, refl)

pub items_run : (xs : List Item) → Passes (places xs) (s.items ∷ [])
items_run [] = refl
items_run (x ∷ xs) =
    let calm = items_calm xs in
    as_items (placed_item x (places xs)) [] (item_runs x (places xs) (s.items ∷ []) calm.0 calm.1 (items_run xs))

-- ---- each text, from its first stack

nothing_calm : Calm []
nothing_calm = record { plus = refl; times = refl }

pub text_runs : (w : Text) (x : TreeOf w) → Passes (places_in w x) (first_stack w)
text_runs texts.script xs = items_run xs
text_runs texts.body b = tree_runs b.0 1 (placed_others b.1 1 []) (s.others 1 ∷ []) (others_calm b.1 1 [] nothing_calm) (others_runs b.1 1 [] [] nothing_calm refl refl)
text_runs texts.terms x = argument_runs x.0 0 (placed_terms x.1 []) (s.terms ∷ []) (terms_runs x.1 [] [] nothing_calm refl)
text_runs (texts.among d) a = (
  s.opening d ∷ s.starter d ∷ s.groups d ∷ s.closing d ∷ [],
  refl,
  (
    s.starter d ∷ s.groups d ∷ s.closing d ∷ [],
    refl,
    starter_runs a.0 d (placed_groups a.1 d ((t.close_, d) ∷ [])) (s.groups d ∷ s.closing d ∷ []) (groups_refuse a.1 d [] (s.groups d ∷ s.closing d ∷ [])) (groups_runs a.1 d [] [] refl),
  ),
)
