-- The tokens of a tree by their roles, without depths.
use Rattle.std.specs.Prelude.{true, false, List, [], ◌∷◌, Option, Some, None, ℕ}
use Rattle.sbl_ast.specs.declared.tree.Base.{Base}
use Rattle.sbl_ast.specs.declared.tree.Additive.TheVariants as additives
use Rattle.sbl_ast.specs.Terminal.{Terminal}
use Rattle.sbl_ast.specs.Terminal as t
use Rattle.sbl_ast.specs.Tree.{Argument, written_out, by_name, Expression, expression, Sums, no_sums, sum, Product, product, Scales, no_scales}
use Rattle.sbl_ast.specs.Tree.{scale, Factor, negated, bracketed, numeral, variable, fixed, length_of, Entry, entry, Command, bracket, simple_}
use Rattle.sbl_ast.specs.Tree.{literal_, name_, non_, prefixed, counted, move_, named, splice_, setlimit_, assign_, compare_, compare_values_}
use Rattle.sbl_ast.specs.Tree.{among_, Rows, no_rows, row, Others, no_others, joined, Starter, no_starter, starter, Groups, bare, group, Term}
use Rattle.sbl_ast.specs.Tree.{term, Plain, declaration, escapes, macro, routine, grouping, Item, plain, backward}

abbrev pub argument_terminal : Argument → Terminal
argument_terminal (written_out q) = t.literal q
argument_terminal (by_name n) = t.name n

abbrev mutual
  pub spelled_expression : Expression → List Terminal → List Terminal
  spelled_expression (expression p ss) rest = spelled_product p (spelled_sums ss rest)

  pub spelled_sums : Sums → List Terminal → List Terminal
  spelled_sums no_sums rest = rest
  spelled_sums (sum o p ss) rest = t.additive o ∷ spelled_product p (spelled_sums ss rest)

  pub spelled_product : Product → List Terminal → List Terminal
  spelled_product (product f ss) rest = spelled_factor f (spelled_scales ss rest)

  pub spelled_scales : Scales → List Terminal → List Terminal
  spelled_scales no_scales rest = rest
  spelled_scales (scale o f ss) rest = t.multiplicative o ∷ spelled_factor f (spelled_scales ss rest)

  pub spelled_factor : Factor → List Terminal → List Terminal
  spelled_factor (negated f) rest = t.additive additives.Minus ∷ spelled_factor f rest
  spelled_factor (bracketed e) rest = t.open_ ∷ spelled_expression e (t.close_ ∷ rest)
  spelled_factor (numeral n) rest = t.number n ∷ rest
  spelled_factor (variable n) rest = t.name n ∷ rest
  spelled_factor (fixed c) rest = t.constant c ∷ rest
  spelled_factor (length_of a) rest = t.len_of ∷ argument_terminal a ∷ rest

abbrev pub spelled_condition : Option (List ℕ) → List Terminal → List Terminal
spelled_condition None rest = rest
spelled_condition (Some n) rest = t.name n ∷ rest

abbrev pub spelled_entry : Entry → List Terminal → List Terminal
spelled_entry (entry q None) rest = t.literal q ∷ rest
spelled_entry (entry q (Some n)) rest = t.literal q ∷ t.name n ∷ rest

abbrev pub spelled_entries : List Entry → List Terminal → List Terminal
spelled_entries [] rest = rest
spelled_entries (e ∷ es) rest = spelled_entry e (spelled_entries es rest)

abbrev mutual
  pub spelled_command : Command → List Terminal → List Terminal
  spelled_command (bracket rs) rest = t.open_ ∷ spelled_rows rs (t.close_ ∷ rest)
  spelled_command (simple_ s) rest = t.simple s ∷ rest
  spelled_command (literal_ q) rest = t.literal q ∷ rest
  spelled_command (name_ n) rest = t.name n ∷ rest
  spelled_command (non_ true n) rest = t.non ∷ t.additive additives.Minus ∷ t.name n ∷ rest
  spelled_command (non_ false n) rest = t.non ∷ t.name n ∷ rest
  spelled_command (prefixed p c) rest = t.prefix p ∷ spelled_command c rest
  spelled_command (counted n e c) rest = t.count n ∷ spelled_expression e (spelled_command c rest)
  spelled_command (move_ m e) rest = t.move m ∷ spelled_expression e rest
  spelled_command (named x n) rest = t.naming x ∷ t.name n ∷ rest
  spelled_command (splice_ x a) rest = t.edit x ∷ argument_terminal a ∷ rest
  spelled_command (setlimit_ b c) rest = t.set_limit ∷ spelled_command b (t.for_ ∷ spelled_command c rest)
  spelled_command (assign_ n o e) rest = t.dollar ∷ t.name n ∷ t.assigns o ∷ spelled_expression e rest
  spelled_command (compare_ n o e) rest = t.dollar ∷ t.name n ∷ t.compares o ∷ spelled_expression e rest
  spelled_command (compare_values_ e o f) rest = t.dollar ∷ t.open_ ∷ spelled_expression e (t.compares o ∷ spelled_expression f (t.close_ ∷ rest))
  spelled_command (among_ s gs) rest = t.among ∷ t.open_ ∷ spelled_starter s (spelled_groups gs (t.close_ ∷ rest))

  pub spelled_rows : Rows → List Terminal → List Terminal
  spelled_rows no_rows rest = rest
  spelled_rows (row c os rs) rest = spelled_command c (spelled_others os (spelled_rows rs rest))

  pub spelled_others : Others → List Terminal → List Terminal
  spelled_others no_others rest = rest
  spelled_others (joined j c os) rest = t.joiner j ∷ spelled_command c (spelled_others os rest)

  pub spelled_starter : Starter → List Terminal → List Terminal
  spelled_starter no_starter rest = rest
  spelled_starter (starter rs) rest = t.open_ ∷ spelled_rows rs (t.close_ ∷ rest)

  pub spelled_groups : Groups → List Terminal → List Terminal
  spelled_groups (bare es) rest = spelled_entries es rest
  spelled_groups (group e es rs gs) rest = spelled_entry e (spelled_entries es (t.open_ ∷ spelled_rows rs (t.close_ ∷ spelled_groups gs rest)))

abbrev pub spelled_names : List (List ℕ) → List Terminal → List Terminal
spelled_names [] rest = rest
spelled_names (n ∷ ns) rest = t.name n ∷ spelled_names ns rest

abbrev pub spelled_base : Option Base → List Terminal → List Terminal
spelled_base None rest = rest
spelled_base (Some b) rest = t.base b ∷ rest

abbrev pub spelled_terms : List Term → List Terminal → List Terminal
spelled_terms [] rest = rest
spelled_terms (term o a ∷ ts) rest = t.additive o ∷ argument_terminal a ∷ spelled_terms ts rest

abbrev pub spelled_plain : Plain → List Terminal → List Terminal
spelled_plain (declaration k ns) rest = t.declares k ∷ t.open_ ∷ spelled_names ns (t.close_ ∷ rest)
spelled_plain (escapes a b) rest = t.string_escapes ∷ t.inserts a b ∷ rest
spelled_plain (macro n b q) rest = t.string_def ∷ t.macro_name n ∷ spelled_base b (t.literal q ∷ rest)
spelled_plain (routine n c os) rest = t.define ∷ t.name n ∷ t.as_ ∷ spelled_command c (spelled_others os rest)
spelled_plain (grouping n a ts) rest = t.define ∷ t.name n ∷ argument_terminal a ∷ spelled_terms ts rest

abbrev pub spelled_plains : List Plain → List Terminal → List Terminal
spelled_plains [] rest = rest
spelled_plains (p ∷ ps) rest = spelled_plain p (spelled_plains ps rest)

abbrev pub spelled_item : Item → List Terminal → List Terminal
spelled_item (plain p) rest = spelled_plain p rest
spelled_item (backward ps) rest = t.backward_mode ∷ t.open_ ∷ spelled_plains ps (t.close_ ∷ rest)

abbrev pub spelled_items : List Item → List Terminal → List Terminal
spelled_items [] rest = rest
spelled_items (i ∷ is) rest = spelled_item i (spelled_items is rest)

-- the tokens of a script
abbrev pub script_tokens : List Item → List Terminal
script_tokens items = spelled_items items []
