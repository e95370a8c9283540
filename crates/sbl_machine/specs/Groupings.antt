-- The characters of the groupings of a well-declared script.
use Rattle.std.specs.Prelude.{◌≡◌, ◌↔◌, ℕ, true, List, [], ◌∷◌, ◌++◌, ⊤}
use Rattle.std.specs.List.{AllByRecursion, Contains}
use Rattle.sbl_ast.specs.Order.{ItemInMode, in_order}
use Rattle.sbl_ast.specs.declared.mode.Mode.{Mode}
use Rattle.sbl_ast.specs.declared.tree.Additive.TheVariants.{Plus, Minus}
use Rattle.sbl_ast.specs.Tree.{Argument, written_out, by_name, Term, term, grouping}
use Rattle.sbl_semantics.specs.Items.{Grouping, char_class_of, classes_after, term_has, terms_have}
use Rattle.sbl_resolver.specs.Checks.{WellDeclared}
use Rattle.sbl_ast.specs.Source.{Source}

-- all groupings of a script
abbrev pub groupings_of : Source → List Grouping
groupings_of script = classes_after (in_order script.items) []

-- an item of the script defines the grouping n with first term a and other terms ts
abbrev pub Defines : Source → List ℕ → Argument → List Term → Type 0
Defines script n a ts =
    (before : List ItemInMode) × (m : Mode) × (after : List ItemInMode) ×
    (in_order script.items ≡ before ++ (record { mode = m; plain = grouping n a ts }) ∷ after)

-- a term has a character if it writes it out, or if the grouping that it names has it
abbrev pub Has : List Grouping → ℕ → Argument → Type 0
Has all c (written_out q) = Contains q.value c
Has all c (by_name n) = char_class_of all n c ≡ true

-- a term does not remove a character
abbrev pub Leaves : List Grouping → ℕ → Term → Type 0
Leaves all c (term Plus a) = ⊤
Leaves all c (term Minus a) = Has all c a → ⊥

-- one term adds the character, and no later term removes it
pub record IsOfTerms (all : List Grouping) (ts : List Term) (c : ℕ) : Type 0 where
  pub before : List Term
  pub added : Argument
  pub after : List Term
  pub parts : ts ≡ before ++ (term Plus added) ∷ after
  pub has : Has all c added
  pub stays : AllByRecursion (Leaves all c) after

-- A grouping has exactly the characters that one of its terms adds and no later term removes. A name among the terms
-- means the grouping of that name among all groupings of the script, even though it is made only of those before it.
abbrev pub GroupingsHaveTheirTerms : Type 0
GroupingsHaveTheirTerms =
    (script : Source) → WellDeclared script.items script.external →
    (n : List ℕ) (a : Argument) (ts : List Term) → Defines script n a ts → (c : ℕ) →
    (char_class_of (groupings_of script) n c ≡ true) ↔ IsOfTerms (groupings_of script) (term Plus a ∷ ts) c

-- the same, computed
abbrev pub GroupingsAreTheirTerms : Type 0
GroupingsAreTheirTerms =
    (script : Source) → WellDeclared script.items script.external →
    (n : List ℕ) (a : Argument) (ts : List Term) → Defines script n a ts → (c : ℕ) →
    char_class_of (groupings_of script) n c ≡ terms_have (groupings_of script) ts (term_has (groupings_of script) a c) c
