-- The definition of a name in a script.
use Rattle.std.specs.Prelude.{ℕ, Bool, ◌||◌, List, Option}
use Rattle.std.specs.Option.{option_map}
use Rattle.sbl_print.specs.Canonical.{plain_text}
use Rattle.sbl_script.specs.Edits.{first_of, is_grouping_named, is_routine_named}
use Rattle.sbl_ast.specs.Source.{Source}
use Rattle.sbl_ast.specs.Tree.{Plain}

-- whether an item defines this name, as a routine or as a grouping
abbrev pub defines_name : List ℕ → Plain → Bool
defines_name n p = is_routine_named n p || is_grouping_named n p

-- the line of the first definition of this name, if there is one
abbrev pub definition_text : Source → List ℕ → Option (List ℕ)
definition_text s n = option_map plain_text (first_of (defines_name n) s.items)
