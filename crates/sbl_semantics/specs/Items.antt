-- The meaning of the items of a script, by name.
use Rattle.std.specs.Prelude.{ℕ, suc, Bool, true, false, not, ◌&&◌, ◌||◌, List, [], ◌∷◌, ◌++◌, nat_eq, if◌then◌else◌, Option, Some, None}
use Rattle.std.specs.List.{list_any, flat_map, fold}
use Rattle.std.specs.Str.{bytes_eq}
use Rattle.sbl_ast.specs.declared.tree.Additive.TheVariants.{Plus, Minus}
use Rattle.sbl_ast.specs.declared.tree.DeclarationKind.{DeclarationKind}
use Rattle.sbl_ast.specs.declared.tree.DeclarationKind.TheVariants as kinds
use Rattle.sbl_ast.specs.Order.{ItemInMode}
use Rattle.sbl_ast.specs.Tree.{Command, Others, Argument, written_out, by_name, Term, term, Plain, declaration, routine, grouping}
use Rattle.sbl_ast.specs.declared.mode.Mode.{Mode}

-- ---- names

-- the names contain this one
abbrev pub is_member : List (List ℕ) → List ℕ → Bool
is_member [] n = false
is_member (x ∷ xs) n = if bytes_eq x n then true else is_member xs n

-- the index of a name in a list
abbrev pub place_of : List (List ℕ) → List ℕ → ℕ
place_of [] n = 0
place_of (x ∷ xs) n = if bytes_eq x n then 0 else suc (place_of xs n)

-- the names of each kind: variables in the order of their declarations, groupings and routines in the order of their
-- definitions
abbrev pub DeclaredNames : Type 0
DeclaredNames = DeclarationKind → List (List ℕ)

-- the names of a kind that an item adds
abbrev pub names_by : DeclarationKind → Plain → List (List ℕ)
names_by kinds.Strings (declaration kinds.Strings ns) = ns
names_by kinds.Integers (declaration kinds.Integers ns) = ns
names_by kinds.Booleans (declaration kinds.Booleans ns) = ns
names_by kinds.Groupings (grouping n a ts) = n ∷ []
names_by kinds.Routines (routine n c os) = n ∷ []
names_by k x = []

abbrev pub known_in : List ItemInMode → DeclaredNames
known_in xs k = flat_map (λ x. names_by k x.plain) xs

-- ---- groupings

-- the name of a grouping, and whether it contains a character
pub record Grouping : Type 0 where
  pub name : List ℕ
  pub has : ℕ → Bool

-- the first grouping with this name contains the character
abbrev pub char_class_of : List Grouping → List ℕ → ℕ → Bool
char_class_of [] n c = false
char_class_of (g ∷ gs) n c = if bytes_eq g.name n then g.has c else char_class_of gs n c

-- a term contains the character, given the groupings before it
abbrev pub term_has : List Grouping → Argument → ℕ → Bool
term_has gs (written_out q) c = list_any (λ x. nat_eq x c) q.value
term_has gs (by_name n) c = char_class_of gs n c

-- the terms from left to right, each added or removed
abbrev pub terms_have : List Grouping → List Term → Bool → ℕ → Bool
terms_have gs [] before c = before
terms_have gs (term Plus a ∷ ts) before c = terms_have gs ts (before || term_has gs a c) c
terms_have gs (term Minus a ∷ ts) before c = terms_have gs ts (before && not (term_has gs a c)) c

-- the groupings, and the grouping of an item after them
abbrev pub and_grouping : Plain → List Grouping → List Grouping
and_grouping (grouping n a ts) gs = gs ++ (record { name = n; has = λ c. terms_have gs ts (term_has gs a c) c }) ∷ []
and_grouping x gs = gs

abbrev pub classes_after : List ItemInMode → List Grouping → List Grouping
classes_after xs gs = fold (λ gs x. and_grouping x.plain gs) gs xs

-- ---- routines

-- the body of a routine, and the mode in which it is defined
pub record Body : Type 0 where
  pub mode : Mode
  pub first : Command
  pub others : Others

-- the body of an item, if it is the routine with this name, or else another body
abbrev pub body_or : Mode → Plain → List ℕ → Option Body → Option Body
body_or m (routine r c os) n rest = if bytes_eq r n then Some (record { mode = m; first = c; others = os }) else rest
body_or m x n rest = rest

-- the first routine with this name
abbrev pub body_named : List ItemInMode → List ℕ → Option Body
body_named [] n = None
body_named (x ∷ xs) n = body_or x.mode x.plain n (body_named xs n)
