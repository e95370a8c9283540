-- Each part of a tree is the same as itself.
use Rattle.std.proofs.Common.{◌≡◌, ℕ, Bool, true, false, ◌&&◌, List, [], ◌∷◌, Option, Some, None, refl, sym}
use Rattle.std.specs.Bool.{beq}
use Rattle.std.specs.Cmp.Lexicographic.{pointwise}
use Rattle.std.specs.Option.{option_eq}
use Rattle.std.specs.Str.{bytes_eq}
use Rattle.std.proofs.lemmas.Bool.{eq-eqb, true≢false}
use Rattle.std.proofs.lemmas.Slice.Eq.{bytes_eq-Decides}
use denote.Enum.Bare.{sameb, true_same}
use Rattle.sbl_ast.specs.contracts.tree.Additive as additive
use Rattle.sbl_ast.specs.contracts.tree.Multiplicative as multiplicative
use Rattle.sbl_ast.specs.contracts.tree.Constant as constant
use Rattle.sbl_ast.specs.contracts.tree.Base as base
use Rattle.sbl_ast.specs.declared.tree.Base.{Base}
use Rattle.sbl_ast.specs.Tree.{QuotedText, Argument, written_out, by_name, Expression, expression, Sums, no_sums, sum, Product, product, Scales, no_scales, scale, Factor, negated, bracketed, numeral, variable, fixed, length_of, Entry, entry, Term, term}
use Rattle.sbl_semantics.specs.Same.{same_argument, same_entry, same_expression, same_factor, same_product, same_quoted, same_scales, same_sums, same_term}

pub also : (a b : Bool) → a ≡ true → b ≡ true → (a && b) ≡ true
also true b p q = q
also false b p q = absurd (true≢false (sym p))

pub name_self : (n : List ℕ) → bytes_eq n n ≡ true
name_self n = (bytes_eq-Decides n n).1 refl

pub flag_self : (b : Bool) → beq b b ≡ true
flag_self true = refl
flag_self false = refl

pub quoted_self : (q : QuotedText) → same_quoted q q ≡ true
quoted_self q = also _ _ (name_self q.spelling) (name_self q.value)

pub argument_self : (a : Argument) → same_argument a a ≡ true
argument_self (written_out q) = quoted_self q
argument_self (by_name n) = name_self n

mutual
  pub expression_self : (e : Expression) → same_expression e e ≡ true
  expression_self (expression p ss) = also _ _ (product_self p) (sums_self ss)

  sums_self : (ss : Sums) → same_sums ss ss ≡ true
  sums_self no_sums = refl
  sums_self (sum o p ss) = also _ _ (true_same additive.the_type o o refl) (also _ _ (product_self p) (sums_self ss))

  product_self : (p : Product) → same_product p p ≡ true
  product_self (product f ss) = also _ _ (factor_self f) (scales_self ss)

  scales_self : (ss : Scales) → same_scales ss ss ≡ true
  scales_self no_scales = refl
  scales_self (scale o f ss) = also _ _ (true_same multiplicative.the_type o o refl) (also _ _ (factor_self f) (scales_self ss))

  factor_self : (f : Factor) → same_factor f f ≡ true
  factor_self (negated f) = factor_self f
  factor_self (bracketed e) = expression_self e
  factor_self (numeral n) = eq-eqb n n refl
  factor_self (variable n) = name_self n
  factor_self (fixed c) = true_same constant.the_type c c refl
  factor_self (length_of a) = argument_self a

condition_self : (c : Option (List ℕ)) → option_eq bytes_eq c c ≡ true
condition_self None = refl
condition_self (Some n) = name_self n

pub entry_self : (e : Entry) → same_entry e e ≡ true
entry_self (entry q c) = also _ _ (quoted_self q) (condition_self c)

pub entries_self : (es : List Entry) → pointwise same_entry es es ≡ true
entries_self [] = refl
entries_self (e ∷ es) = also _ _ (entry_self e) (entries_self es)

pub names_self : (ns : List (List ℕ)) → pointwise bytes_eq ns ns ≡ true
names_self [] = refl
names_self (n ∷ ns) = also _ _ (name_self n) (names_self ns)

pub base_self : (b : Option Base) → option_eq (sameb base.the_type) b b ≡ true
base_self None = refl
base_self (Some b) = true_same base.the_type b b refl

pub terms_self : (ts : List Term) → pointwise same_term ts ts ≡ true
terms_self [] = refl
terms_self (term o a ∷ ts) = also _ _ (also _ _ (true_same additive.the_type o o refl) (argument_self a)) (terms_self ts)
