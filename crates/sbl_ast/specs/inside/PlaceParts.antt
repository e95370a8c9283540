-- Names for parts of Places.antt, which only proofs use.
use Rattle.std.specs.Prelude.{ℕ, List, ◌∷◌, Option, option_map}
use Rattle.std.specs.List.{cons_option}
use Rattle.sbl_token.specs.Lexemes.{name}
use Rattle.sbl_ast.specs.Folds.{foldr}
use Rattle.sbl_ast.specs.declared.tree.Base.{Base}
use Rattle.sbl_ast.specs.Symbols as t
use Rattle.sbl_ast.specs.Tree.{Plain, Item}
use Rattle.sbl_ast.specs.Places.{AtDepth, placed_item, placed_plain}

abbrev pub placed_names : List (List ℕ) → List AtDepth → List AtDepth
placed_names ns rest = foldr (λ n r. (name n, 0) ∷ r) rest ns

abbrev pub placed_base : Option Base → List AtDepth → List AtDepth
placed_base b rest = cons_option (option_map (λ x. (t.base x, 0)) b) rest

abbrev pub placed_plains : List Plain → List AtDepth → List AtDepth
placed_plains ps rest = foldr placed_plain rest ps

abbrev pub placed_items : List Item → List AtDepth → List AtDepth
placed_items is rest = foldr placed_item rest is
