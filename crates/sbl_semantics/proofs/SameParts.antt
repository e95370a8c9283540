-- Parts of trees that are the same are equal.
use Rattle.std.proofs.Common.{◌≡◌, ℕ, Bool, true, false, ◌&&◌, List, [], ◌∷◌, Option, Some, None, refl, sym, ap}
use Rattle.std.specs.Bool.{beq}
use Rattle.std.specs.Cmp.Lexicographic.{pointwise}
use Rattle.std.specs.Option.{option_eq}
use Rattle.std.specs.Str.{bytes_eq}
use Rattle.std.proofs.lemmas.Bool.{eqb-true, true≢false}
use Rattle.std.proofs.lemmas.Slice.Eq.{bytes_eq-Decides}
use denote.Enum.Bare.{same_true, sameb}
use Rattle.sbl_ast.specs.contracts.tree.Simple as simple
use Rattle.sbl_ast.specs.contracts.tree.Prefix as prefix
use Rattle.sbl_ast.specs.contracts.tree.Count as times
use Rattle.sbl_ast.specs.contracts.tree.Move as move
use Rattle.sbl_ast.specs.contracts.tree.Naming as naming
use Rattle.sbl_ast.specs.contracts.tree.Splice as splicing
use Rattle.sbl_ast.specs.contracts.tree.Additive as additive
use Rattle.sbl_ast.specs.contracts.tree.Multiplicative as multiplicative
use Rattle.sbl_ast.specs.contracts.tree.Assignment as assignment
use Rattle.sbl_ast.specs.contracts.tree.Comparison as comparison
use Rattle.sbl_ast.specs.contracts.tree.Constant as constant
use Rattle.sbl_ast.specs.contracts.tree.Joiner as joiner
use Rattle.sbl_ast.specs.contracts.tree.DeclarationKind as kind
use Rattle.sbl_ast.specs.contracts.tree.Base as base
use Rattle.sbl_ast.specs.declared.tree.Simple.{Simple}
use Rattle.sbl_ast.specs.declared.tree.Prefix.{Prefix}
use Rattle.sbl_ast.specs.declared.tree.Count.{Count}
use Rattle.sbl_ast.specs.declared.tree.Move.{Move}
use Rattle.sbl_ast.specs.declared.tree.Naming.{Naming}
use Rattle.sbl_ast.specs.declared.tree.Splice.{Splice}
use Rattle.sbl_ast.specs.declared.tree.Additive.{Additive}
use Rattle.sbl_ast.specs.declared.tree.Multiplicative.{Multiplicative}
use Rattle.sbl_ast.specs.declared.tree.Assignment.{Assignment}
use Rattle.sbl_ast.specs.declared.tree.Comparison.{Comparison}
use Rattle.sbl_ast.specs.declared.tree.Constant.{Constant}
use Rattle.sbl_ast.specs.declared.tree.Joiner.{Joiner}
use Rattle.sbl_ast.specs.declared.tree.DeclarationKind.{DeclarationKind}
use Rattle.sbl_ast.specs.declared.tree.Base.{Base}
use Rattle.sbl_ast.specs.Tree.{QuotedText, Argument, written_out, by_name, Expression, expression, Sums, no_sums, sum, Product, product, Scales, no_scales, scale, Factor, negated, bracketed, numeral, variable, fixed, length_of, Entry, entry, Term, term}
use Rattle.sbl_semantics.specs.Same.{same_argument, same_entry, same_expression, same_factor, same_product, same_quoted, same_scales, same_sums, same_term}

pub both : (a b : Bool) → (a && b) ≡ true → (a ≡ true) × (b ≡ true)
both true b e = (refl, e)
both false b e = absurd (true≢false (sym e))

pub never : {X : Type 0} → false ≡ true → X
never e = absurd (true≢false (sym e))

-- two or three parts of one thing
pub pair_is : {A B C : Type 0} (f : A → B → C) {a c : A} {b d : B} (u v : Bool) → (u && v) ≡ true → (u ≡ true → a ≡ c) → (v ≡ true → b ≡ d) → f a b ≡ f c d
pair_is f u v e p q =
    let h = both u v e in
    let a = p h.0 in
    let b = q h.1 in
    (λ i. f (a i) (b i))

triple_is : {A B C D : Type 0} (f : A → B → C → D) {a x : A} {b y : B} {c z : C} (u v w : Bool) → (u && (v && w)) ≡ true → (u ≡ true → a ≡ x) → (v ≡ true → b ≡ y) → (w ≡ true → c ≡ z) → f a b c ≡ f x y z
triple_is f u v w e p q r =
    let h = both u (v && w) e in
    let j = both v w h.1 in
    let a = p h.0 in
    let b = q j.0 in
    let c = r j.1 in
    (λ i. f (a i) (b i) (c i))

-- lists of things
pub all_are : (A : Type 0) (same : A → A → Bool) → ((x y : A) → same x y ≡ true → x ≡ y) → (xs ys : List A) → pointwise same xs ys ≡ true → xs ≡ ys
all_are A same is [] [] e = refl
all_are A same is (x ∷ xs) (y ∷ ys) e = pair_is (λ (a : A) (l : List A). a ∷ l) (same x y) (pointwise same xs ys) e (is x y) (all_are A same is xs ys)
all_are A same is _ _ e = never e

pub name_is : (m n : List ℕ) → bytes_eq m n ≡ true → m ≡ n
name_is m n e = (bytes_eq-Decides m n).0 e

pub simple_is : (x y : Simple) → sameb simple.the_type x y ≡ true → x ≡ y
simple_is x y e = same_true simple.the_type tt x y e

pub prefix_is : (x y : Prefix) → sameb prefix.the_type x y ≡ true → x ≡ y
prefix_is x y e = same_true prefix.the_type tt x y e

pub times_is : (x y : Count) → sameb times.the_type x y ≡ true → x ≡ y
times_is x y e = same_true times.the_type tt x y e

pub move_is : (x y : Move) → sameb move.the_type x y ≡ true → x ≡ y
move_is x y e = same_true move.the_type tt x y e

pub naming_is : (x y : Naming) → sameb naming.the_type x y ≡ true → x ≡ y
naming_is x y e = same_true naming.the_type tt x y e

pub splicing_is : (x y : Splice) → sameb splicing.the_type x y ≡ true → x ≡ y
splicing_is x y e = same_true splicing.the_type tt x y e

pub additive_is : (x y : Additive) → sameb additive.the_type x y ≡ true → x ≡ y
additive_is x y e = same_true additive.the_type tt x y e

pub multiplicative_is : (x y : Multiplicative) → sameb multiplicative.the_type x y ≡ true → x ≡ y
multiplicative_is x y e = same_true multiplicative.the_type tt x y e

pub assignment_is : (x y : Assignment) → sameb assignment.the_type x y ≡ true → x ≡ y
assignment_is x y e = same_true assignment.the_type tt x y e

pub comparison_is : (x y : Comparison) → sameb comparison.the_type x y ≡ true → x ≡ y
comparison_is x y e = same_true comparison.the_type tt x y e

pub constant_is : (x y : Constant) → sameb constant.the_type x y ≡ true → x ≡ y
constant_is x y e = same_true constant.the_type tt x y e

pub joiner_is : (x y : Joiner) → sameb joiner.the_type x y ≡ true → x ≡ y
joiner_is x y e = same_true joiner.the_type tt x y e

pub kind_is : (x y : DeclarationKind) → sameb kind.the_type x y ≡ true → x ≡ y
kind_is x y e = same_true kind.the_type tt x y e

pub flag_is : (x y : Bool) → beq x y ≡ true → x ≡ y
flag_is true true e = refl
flag_is true false e = never e
flag_is false true e = never e
flag_is false false e = refl

pub quoted_is : (x y : QuotedText) → same_quoted x y ≡ true → x ≡ y
quoted_is x y e =
    let h = both _ _ e in
    let p = name_is x.spelling y.spelling h.0 in
    let q = name_is x.value y.value h.1 in
    (λ i. record { spelling = p i; value = q i })

pub argument_is : (x y : Argument) → same_argument x y ≡ true → x ≡ y
argument_is (written_out q) (written_out r) e = ap written_out (quoted_is q r e)
argument_is (by_name m) (by_name n) e = ap by_name (name_is m n e)
argument_is (written_out q) (by_name n) e = never e
argument_is (by_name m) (written_out r) e = never e

mutual
  pub expression_is : (x y : Expression) → same_expression x y ≡ true → x ≡ y
  expression_is (expression p ss) (expression q ts) e = pair_is expression (same_product p q) (same_sums ss ts) e (product_is p q) (sums_is ss ts)

  sums_is : (x y : Sums) → same_sums x y ≡ true → x ≡ y
  sums_is no_sums no_sums e = refl
  sums_is (sum o p ss) (sum u q ts) e = triple_is sum (sameb additive.the_type o u) (same_product p q) (same_sums ss ts) e (additive_is o u) (product_is p q) (sums_is ss ts)
  sums_is _ _ e = never e

  product_is : (x y : Product) → same_product x y ≡ true → x ≡ y
  product_is (product f ss) (product g ts) e = pair_is product (same_factor f g) (same_scales ss ts) e (factor_is f g) (scales_is ss ts)

  scales_is : (x y : Scales) → same_scales x y ≡ true → x ≡ y
  scales_is no_scales no_scales e = refl
  scales_is (scale o f ss) (scale u g ts) e =
      triple_is scale (sameb multiplicative.the_type o u) (same_factor f g) (same_scales ss ts) e (multiplicative_is o u) (factor_is f g) (scales_is ss ts)
  scales_is _ _ e = never e

  factor_is : (x y : Factor) → same_factor x y ≡ true → x ≡ y
  factor_is (negated f) (negated g) e = ap negated (factor_is f g e)
  factor_is (bracketed a) (bracketed b) e = ap bracketed (expression_is a b e)
  factor_is (numeral m) (numeral n) e = ap numeral (eqb-true m n e)
  factor_is (variable m) (variable n) e = ap variable (name_is m n e)
  factor_is (fixed c) (fixed d) e = ap fixed (constant_is c d e)
  factor_is (length_of a) (length_of b) e = ap length_of (argument_is a b e)
  factor_is _ _ e = never e

condition_is : (x y : Option (List ℕ)) → option_eq bytes_eq x y ≡ true → x ≡ y
condition_is None None e = refl
condition_is (Some m) (Some n) e = ap Some (name_is m n e)
condition_is None (Some n) e = never e
condition_is (Some m) None e = never e

pub entry_is : (x y : Entry) → same_entry x y ≡ true → x ≡ y
entry_is (entry q m) (entry r n) e = pair_is entry (same_quoted q r) (option_eq bytes_eq m n) e (quoted_is q r) (condition_is m n)

pub entries_are : (x y : List Entry) → pointwise same_entry x y ≡ true → x ≡ y
entries_are = all_are Entry same_entry entry_is

pub names_are : (x y : List (List ℕ)) → pointwise bytes_eq x y ≡ true → x ≡ y
names_are = all_are (List ℕ) bytes_eq name_is

pub base_is : (x y : Option Base) → option_eq (sameb base.the_type) x y ≡ true → x ≡ y
base_is None None e = refl
base_is (Some m) (Some n) e = ap Some (same_true base.the_type tt m n e)
base_is None (Some n) e = never e
base_is (Some m) None e = never e

term_is : (x y : Term) → same_term x y ≡ true → x ≡ y
term_is (term o a) (term u b) e = pair_is term (sameb additive.the_type o u) (same_argument a b) e (additive_is o u) (argument_is a b)

pub terms_are : (x y : List Term) → pointwise same_term x y ≡ true → x ≡ y
terms_are = all_are Term same_term term_is
