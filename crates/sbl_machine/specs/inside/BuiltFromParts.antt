-- Names for parts of BuiltFrom.antt.
use Rattle.std.specs.Prelude.{ℕ, Bool, false, List, ◌∷◌}
use Rattle.std.specs.List.{fold}
use Rattle.sbl_ast.specs.declared.tree.Additive.TheVariants.{Plus}
use Rattle.sbl_ast.specs.Order.{ItemInMode}
use Rattle.sbl_ast.specs.Tree.{Argument, written_out, by_name, Term, term}
use Rattle.sbl_machine.specs.BuiltFrom.{and_built, any_names}

-- whether a term names a chosen grouping
abbrev pub names : (List ℕ → Bool) → Argument → Bool
names chosen a = elim a [ written_out q ↦ false | by_name n ↦ chosen n ]

-- whether the first term or one of the others names a chosen grouping
abbrev pub built_on : (List ℕ → Bool) → Argument → List Term → Bool
built_on chosen a ts = any_names chosen (term Plus a ∷ ts)

abbrev pub built_after : List ItemInMode → List (List ℕ) → List (List ℕ)
built_after xs ns = fold (λ ns x. and_built x.plain ns) ns xs
