-- A term whose grouping is named again after it changes nothing.
use Rattle.std.proofs.Common.{◌≡◌, ◌∙◌, ◌<◌, ℕ, zero, suc, Bool, true, false, List, [], ◌∷◌, Option, Some, refl, sym, ap, arith, if◌then◌else◌}
use Rattle.std.specs.Prelude.{slice_get}
use Rattle.std.specs.Option.{unwrap_or}
use Rattle.std.proofs.lemmas.Option.{slice_get_within}
use Rattle.std.proofs.Math.Path.{fun_ext}
use Rattle.std.proofs.lemmas.Bool.{eqb-true, true≢false}
use Rattle.sbl_ast.specs.declared.tree.Additive.{Additive}
use Rattle.sbl_ast.specs.Tree.{Argument, written_out, by_name, Term, term}
use Rattle.sbl_program.specs.Terms.{class_after, class_at, is_added}
use Rattle.sbl_compiler.specs.NumberedClasses.{term_class, with_terms}
use Rattle.sbl_compiler.specs.NumberedNames.{Names, number_of}
use Rattle.sbl_compiler.specs.NamedAgain.{is_name_of, is_named, is_named_again}

module _ (ns : Names) (classes : List (ℕ → Bool)) where
  -- from the same answer for a character the same comes out
  same_on : (ts : List Term) (a b : ℕ → Bool) (c : ℕ) → a c ≡ b c → with_terms ns classes ts a c ≡ with_terms ns classes ts b c
  same_on [] a b c h = h
  same_on (term o x ∷ ts) a b c h =
      same_on ts (class_after o (term_class ns classes x) a) (class_after o (term_class ns classes x) b) c (ap (λ (y : Bool). if term_class ns classes x c then is_added o else y) h)

  -- a term that names the grouping of a number has its characters
  has_it : (x : Argument) (k c : ℕ) → is_name_of ns x k ≡ true → term_class ns classes x c ≡ class_at classes k c
  has_it (written_out q) k c h = absurd (true≢false (sym h))
  has_it (by_name n) k c h = ap (λ (i : ℕ). class_at classes i c) (eqb-true (number_of ns.groupings n) k h)

  -- what a character of a grouping that is named later was before does not matter
  terms_forget : (ts : List Term) (k : ℕ) (a b : ℕ → Bool) (c : ℕ) → is_named ns ts k ≡ true → class_at classes k c ≡ true → with_terms ns classes ts a c ≡ with_terms ns classes ts b c
  terms_forget [] k a b c n h = absurd (true≢false (sym n))
  terms_forget (term o x ∷ ts) k a b c n h = by (is_name_of ns x k) refl n (terms_forget ts k (class_after o (term_class ns classes x) a) (class_after o (term_class ns classes x) b) c)
    where
      by : (t : Bool) → is_name_of ns x k ≡ t → (if t then true else is_named ns ts k) ≡ true
          → (is_named ns ts k ≡ true → class_at classes k c ≡ true → with_terms ns classes ts (class_after o (term_class ns classes x) a) c ≡ with_terms ns classes ts (class_after o (term_class ns classes x) b) c)
          → with_terms ns classes (term o x ∷ ts) a c ≡ with_terms ns classes (term o x ∷ ts) b c
      by true e m more =
          let there : term_class ns classes x c ≡ true = has_it x k c e ∙ h in
          same_on ts (class_after o (term_class ns classes x) a) (class_after o (term_class ns classes x) b) c
          (ap (λ (y : Bool). if y then is_added o else a c) there ∙ sym (ap (λ (y : Bool). if y then is_added o else b c) there))
      by false e m more = more m h

  passed_on : (o : Additive) (n : List ℕ) (ts : List Term) (class : ℕ → Bool) (c : ℕ) → is_named ns ts (number_of ns.groupings n) ≡ true
      → with_terms ns classes ts class c ≡ with_terms ns classes ts (class_after o (class_at classes (number_of ns.groupings n)) class) c
  passed_on o n ts class c h = by (class_at classes (number_of ns.groupings n) c) refl
    where
      by : (t : Bool) → class_at classes (number_of ns.groupings n) c ≡ t
          → with_terms ns classes ts class c ≡ with_terms ns classes ts (class_after o (class_at classes (number_of ns.groupings n)) class) c
      by true e = terms_forget ts (number_of ns.groupings n) class (class_after o (class_at classes (number_of ns.groupings n)) class) c h e
      by false e = same_on ts class (class_after o (class_at classes (number_of ns.groupings n)) class) c (sym (ap (λ (y : Bool). if y then is_added o else class c) e))

  pub passed_over : (o : Additive) (x : Argument) (ts : List Term) (class : ℕ → Bool) → is_named_again ns x ts ≡ true
      → with_terms ns classes ts class ≡ with_terms ns classes (term o x ∷ ts) class
  passed_over o (written_out q) ts class h = absurd (true≢false (sym h))
  passed_over o (by_name n) ts class h = fun_ext (λ c. passed_on o n ts class c h)

-- one of some terms that names a grouping
either_names : (a b : Bool) → b ≡ true → (if a then true else b) ≡ true
either_names true b h = refl
either_names false b h = h

pub named_there : (ns : Names) (ts : List Term) (i k : ℕ) (o : Additive) (x : Argument) → slice_get ts i ≡ Some (term o x) → is_name_of ns x k ≡ true → is_named ns ts k ≡ true
named_there ns [] i k o x h e = absurd (none_there (slice_get_within [] i (term o x) h))
  where
    none_there : (i < 0) → ⊥
    none_there l = omega (arith, l)
named_there ns (term p y ∷ ts) zero k o x h e =
    let same : term p y ≡ term o x = ap (λ (m : Option Term). unwrap_or m (term p y)) h in
    rw (ap (λ (t : Term). is_named ns (t ∷ ts) k) same) (rw e refl)
named_there ns (term p y ∷ ts) (suc i) k o x h e = either_names (is_name_of ns y k) (is_named ns ts k) (named_there ns ts i k o x h e)
