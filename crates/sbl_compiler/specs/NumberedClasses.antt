-- The classes of the groupings: the terms from left to right, each added or removed.
use Rattle.std.specs.Prelude.{ℕ, Bool, List, [], ◌∷◌, ◌++◌}
use Rattle.sbl_ast.specs.Order.{ItemInMode}
use Rattle.sbl_ast.specs.declared.tree.Additive.TheVariants.{Plus}
use Rattle.sbl_ast.specs.Tree.{Argument, written_out, by_name, Term, term, Plain, declaration, escapes, macro, routine, grouping}
use Rattle.sbl_program.specs.Characters.{has}
use Rattle.sbl_program.specs.Terms.{class_after, class_at, no_character}
use Rattle.sbl_compiler.specs.NumberedNames.{Names, number_of}

-- the characters of a term, given the classes of the groupings before it
abbrev pub term_class : Names → List (ℕ → Bool) → Argument → ℕ → Bool
term_class ns classes (written_out q) = has q.value
term_class ns classes (by_name n) = class_at classes (number_of ns.groupings n)

abbrev pub with_terms : Names → List (ℕ → Bool) → List Term → (ℕ → Bool) → ℕ → Bool
with_terms ns classes [] class = class
with_terms ns classes (term o a ∷ ts) class = with_terms ns classes ts (class_after o (term_class ns classes a) class)

-- the classes, and the class of an item after them; the first term is added to the empty class
abbrev pub with_class : Names → Plain → List (ℕ → Bool) → List (ℕ → Bool)
with_class ns (grouping n a ts) classes = classes ++ with_terms ns classes (term Plus a ∷ ts) no_character ∷ []
with_class ns (declaration k xs) classes = classes
with_class ns (escapes a b) classes = classes
with_class ns (macro n b q) classes = classes
with_class ns (routine n c os) classes = classes

abbrev pub numbered_classes : Names → List ItemInMode → List (ℕ → Bool) → List (ℕ → Bool)
numbered_classes ns [] classes = classes
numbered_classes ns (x ∷ xs) classes = numbered_classes ns xs (with_class ns x.plain classes)
