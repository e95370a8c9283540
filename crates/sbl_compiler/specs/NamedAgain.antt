-- Groupings that a later term names again.
use Rattle.std.specs.Prelude.{ℕ, Bool, true, false, List, [], ◌∷◌, nat_eq, if◌then◌else◌}
use Rattle.sbl_ast.specs.Tree.{Argument, written_out, by_name, Term, term}
use Rattle.sbl_compiler.specs.NumberedNames.{Names, number_of}

-- a term names the grouping with this number
abbrev pub is_name_of : Names → Argument → ℕ → Bool
is_name_of ns (written_out q) number = false
is_name_of ns (by_name n) number = nat_eq (number_of ns.groupings n) number

-- one of the terms names it
abbrev pub is_named : Names → List Term → ℕ → Bool
is_named ns [] number = false
is_named ns (term o a ∷ ts) number = if is_name_of ns a number then true else is_named ns ts number

-- a term names a grouping that one of the terms after it names again
abbrev pub is_named_again : Names → Argument → List Term → Bool
is_named_again ns (written_out q) ts = false
is_named_again ns (by_name n) ts = is_named ns ts (number_of ns.groupings n)
