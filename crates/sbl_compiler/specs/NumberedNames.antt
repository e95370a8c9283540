-- The names of a script by kind, and the number of each: its index among those of its kind.
use Rattle.std.specs.Prelude.{ℕ, ◌+◌, Bool, List, [], ◌∷◌, ◌++◌, length, nat_lt, if◌then◌else◌}
use Rattle.std.specs.Str.{bytes_eq}
use Rattle.sbl_ast.specs.Order.{ItemInMode}
use Rattle.sbl_ast.specs.declared.tree.DeclarationKind.{DeclarationKind}
use Rattle.sbl_ast.specs.declared.tree.DeclarationKind.TheVariants as kinds
use Rattle.sbl_ast.specs.Tree.{Plain, declaration, escapes, macro, routine, grouping}

-- variables in the order of their declarations, groupings and routines in the order of their definitions; UTF-8 bytes
pub record Names : Type 0 where
  pub strings : List (List ℕ)
  pub integers : List (List ℕ)
  pub booleans : List (List ℕ)
  pub groupings : List (List ℕ)
  pub routines : List (List ℕ)

abbrev pub no_names : Names
no_names = record { strings = []; integers = []; booleans = []; groupings = []; routines = [] }

abbrev pub declaring : DeclarationKind → List (List ℕ) → Names → Names
declaring kinds.Strings ns all = record all { strings = all.strings ++ ns }
declaring kinds.Integers ns all = record all { integers = all.integers ++ ns }
declaring kinds.Booleans ns all = record all { booleans = all.booleans ++ ns }
declaring kinds.Routines ns all = all
declaring kinds.Externals ns all = all
declaring kinds.Groupings ns all = all

-- the names, with the names of an item added
abbrev pub naming : Plain → Names → Names
naming (declaration k ns) all = declaring k ns all
naming (escapes a b) all = all
naming (macro n b q) all = all
naming (routine n c os) all = record all { routines = all.routines ++ n ∷ [] }
naming (grouping n a ts) all = record all { groupings = all.groupings ++ n ∷ [] }

abbrev pub names_after : List ItemInMode → Names → Names
names_after [] all = all
names_after (x ∷ xs) all = names_after xs (naming x.plain all)

-- the number of a name in a list whose first name has number i; the next number after the list if it is not there
abbrev pub number_from : ℕ → List (List ℕ) → List ℕ → ℕ
number_from i [] n = i
number_from i (x ∷ xs) n = if bytes_eq x n then i else number_from (i + 1) xs n

abbrev pub number_of : List (List ℕ) → List ℕ → ℕ
number_of ns n = number_from 0 ns n

-- the list has the name
abbrev pub is_one_of : List (List ℕ) → List ℕ → Bool
is_one_of ns n = nat_lt (number_of ns n) (length ns)
