-- The characters of a grouping, and what its terms make of a character.
use Rattle.std.specs.Prelude.{ℕ, Bool, List, ◌∷◌}
use Rattle.sbl_ast.specs.Source.{Source}
use Rattle.sbl_ast.specs.Tree.{Argument, Term, term}
use Rattle.sbl_ast.specs.declared.tree.Additive.TheVariants.{Plus}
use Rattle.sbl_machine.specs.Groupings.{IsOfTerms, groupings_of}
use Rattle.sbl_semantics.specs.Items.{char_class_of, term_has, terms_have}

-- whether the grouping n of a script has the character c
abbrev pub has_character : Source → List ℕ → ℕ → Bool
has_character script n c = char_class_of (groupings_of script) n c

-- one of the terms, of which a is the first, adds the character, and no later one removes it
abbrev pub IsAdded : Source → Argument → List Term → ℕ → Type 0
IsAdded script a ts c = IsOfTerms (groupings_of script) (term Plus a ∷ ts) c

-- whether the character is there after the first term a and the others, from left to right
abbrev pub is_added : Source → Argument → List Term → ℕ → Bool
is_added script a ts c = terms_have (groupings_of script) ts (term_has (groupings_of script) a c) c
