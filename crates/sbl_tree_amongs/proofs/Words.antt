-- Parts of a tree in which the word `among` does not stand.
use Rattle.std.proofs.Common.{◌≡◌, ℕ, ◌+◌, Bool, false, List, [], ◌∷◌, Some, None, if◌then◌else◌, refl, ap, ◌∙◌}
use Rattle.sbl_token.specs.Lexemes as lex
use Rattle.sbl_token.specs.Lexemes.{Lexeme}
use Rattle.sbl_token.specs.declared.signs.Sign.TheVariants as signs
use Rattle.sbl_ast.specs.Symbols as t
use Rattle.sbl_ast.specs.declared.tree.Additive.{Additive}
use Rattle.sbl_ast.specs.declared.tree.Additive.TheVariants as additives
use Rattle.sbl_ast.specs.declared.tree.Multiplicative.{Multiplicative}
use Rattle.sbl_ast.specs.declared.tree.Multiplicative.TheVariants as multiplicatives
use Rattle.sbl_ast.specs.declared.tree.Constant.{Constant}
use Rattle.sbl_ast.specs.declared.tree.Constant.TheVariants as constants
use Rattle.sbl_ast.specs.declared.tree.Simple.{Simple}
use Rattle.sbl_ast.specs.declared.tree.Simple.TheVariants as simples
use Rattle.sbl_ast.specs.declared.tree.Prefix.{Prefix}
use Rattle.sbl_ast.specs.declared.tree.Prefix.TheVariants as prefixes
use Rattle.sbl_ast.specs.declared.tree.Count.{Count}
use Rattle.sbl_ast.specs.declared.tree.Count.TheVariants as counts
use Rattle.sbl_ast.specs.declared.tree.Move.{Move}
use Rattle.sbl_ast.specs.declared.tree.Move.TheVariants as moves
use Rattle.sbl_ast.specs.declared.tree.Naming.{Naming}
use Rattle.sbl_ast.specs.declared.tree.Naming.TheVariants as namings
use Rattle.sbl_ast.specs.declared.tree.Splice.{Splice}
use Rattle.sbl_ast.specs.declared.tree.Splice.TheVariants as splices
use Rattle.sbl_ast.specs.declared.tree.Assignment.{Assignment}
use Rattle.sbl_ast.specs.declared.tree.Assignment.TheVariants as assignments
use Rattle.sbl_ast.specs.declared.tree.Comparison.{Comparison}
use Rattle.sbl_ast.specs.declared.tree.Comparison.TheVariants as comparisons
use Rattle.sbl_ast.specs.declared.tree.Joiner.{Joiner}
use Rattle.sbl_ast.specs.declared.tree.Joiner.TheVariants as joiners
use Rattle.sbl_ast.specs.Tree.{Expression, expression, Sums, no_sums, sum, Product, product, Scales, no_scales, scale, Factor, negated, bracketed, fixed, length_of, Argument, written_out, by_name, Entry, entry}
use Rattle.sbl_ast.specs.Places.{AtDepth, placed_expression, placed_sums, placed_product, placed_scales, placed_factor, placed_entry, placed_entries}
use Rattle.sbl_tree_amongs.specs.Replacement.{count_words, is_among}

abbrev Ps : Type 0
Ps = List AtDepth

-- ---- the lexemes of constants

abbrev IsOther : Lexeme → Type 0
IsOther x = is_among x ≡ false

pub additive_other : (x : Additive) → IsOther (t.additive x)
additive_other additives.Plus = refl
additive_other _ = refl

pub multiplicative_other : (x : Multiplicative) → IsOther (t.multiplicative x)
multiplicative_other multiplicatives.Times = refl
multiplicative_other _ = refl

pub constant_other : (x : Constant) → IsOther (t.constant x)
constant_other constants.Cursor = refl
constant_other _ = refl

pub simple_other : (x : Simple) → IsOther (t.simple x)
simple_other simples.AtLimit = refl
simple_other _ = refl

pub prefix_other : (x : Prefix) → IsOther (t.prefix x)
prefix_other prefixes.Backwards = refl
prefix_other _ = refl

pub count_other : (x : Count) → IsOther (t.count x)
count_other counts.AtLeast = refl
count_other _ = refl

pub move_other : (x : Move) → IsOther (t.move x)
move_other moves.AtMark = refl
move_other _ = refl

pub naming_other : (x : Naming) → IsOther (t.naming x)
naming_other namings.Set = refl
naming_other _ = refl

pub splice_other : (x : Splice) → IsOther (t.splice x)
splice_other splices.Attach = refl
splice_other _ = refl

pub assigns_other : (x : Assignment) → IsOther (t.assigns x)
assigns_other assignments.Equals = refl
assigns_other _ = refl

pub compares_other : (x : Comparison) → IsOther (t.compares x)
compares_other comparisons.Less = refl
compares_other _ = refl

pub joiner_other : (x : Joiner) → IsOther (t.joiner x)
joiner_other joiners.And = refl
joiner_other _ = refl

-- a token that is not the word
pub count_after_other : (x : Lexeme) (d : ℕ) (r : Ps) → IsOther x → count_words ((x, d) ∷ r) ≡ count_words r
count_after_other x d r h = ap (λ (b : Bool). if b then count_words r + 1 else count_words r) h

-- with the part there are as many words `among` as without it
abbrev pub IsWithout : (Ps → Ps) → Type 0
IsWithout part = (r : Ps) → count_words (part r) ≡ count_words r

pub argument_without : (x : Argument) (d : ℕ) → IsWithout (λ r. (t.argument x, d) ∷ r)
argument_without (written_out q) d r = refl
argument_without (by_name n) d r = refl

mutual
  pub expression_without : (x : Expression) (d : ℕ) → IsWithout (placed_expression x d)
  expression_without (expression p ss) d r = product_without p d (placed_sums ss d r) ∙ sums_without ss d r

  sums_without : (ss : Sums) (d : ℕ) → IsWithout (placed_sums ss d)
  sums_without no_sums d r = refl
  sums_without (sum o p ss) d r = count_after_other (t.additive o) d (placed_product p d (placed_sums ss d r)) (additive_other o) ∙ product_without p d (placed_sums ss d r) ∙ sums_without ss d r

  product_without : (p : Product) (d : ℕ) → IsWithout (placed_product p d)
  product_without (product f ss) d r = factor_without f d (placed_scales ss d r) ∙ scales_without ss d r

  scales_without : (ss : Scales) (d : ℕ) → IsWithout (placed_scales ss d)
  scales_without no_scales d r = refl
  scales_without (scale o f ss) d r = count_after_other (t.multiplicative o) d (placed_factor f d (placed_scales ss d r)) (multiplicative_other o) ∙ factor_without f d (placed_scales ss d r) ∙ scales_without ss d r

  factor_without : (f : Factor) (d : ℕ) → IsWithout (placed_factor f d)
  factor_without (negated f) d r = factor_without f (d + 1) r
  factor_without (bracketed x) d r = expression_without x (d + 1) ((lex.sign signs.Close, d + 1) ∷ r)
  factor_without (fixed c) d r = count_after_other (t.constant c) d r (constant_other c)
  factor_without (length_of x) d r = argument_without x d r
  factor_without _ d r = refl

pub entry_without : (x : Entry) (d : ℕ) → IsWithout (placed_entry x d)
entry_without (entry q None) d r = refl
entry_without (entry q (Some n)) d r = refl

pub entries_without : (xs : List Entry) (d : ℕ) → IsWithout (placed_entries xs d)
entries_without [] d r = refl
entries_without (x ∷ xs) d r = entry_without x d (placed_entries xs d r) ∙ entries_without xs d r
