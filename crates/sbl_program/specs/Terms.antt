-- How the terms of a grouping change its characters.
use Rattle.std.specs.Prelude.{ℕ, Bool, true, false, List, if◌then◌else◌, slice_index_or}
use Rattle.sbl_ast.specs.declared.tree.Additive.{Additive}
use Rattle.sbl_ast.specs.declared.tree.Additive.TheVariants.{Plus, Minus}

abbrev pub no_character : ℕ → Bool
no_character c = false

-- the term adds its characters
abbrev pub is_added : Additive → Bool
is_added Plus = true
is_added Minus = false

-- the class after a term: the characters of the term are added or removed, all others are unchanged
abbrev pub class_after : Additive → (ℕ → Bool) → (ℕ → Bool) → ℕ → Bool
class_after operator term class c = if term c then is_added operator else class c

-- the class with this number; it is empty if there is none
abbrev pub class_at : List (ℕ → Bool) → ℕ → ℕ → Bool
class_at classes number = slice_index_or classes number no_character
