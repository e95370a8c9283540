-- The records of figures.
use Rattle.std.specs.Prelude.{ℕ, List, [], ◌∷◌, decimal}

abbrev pub figure_fields : List ℕ → ℕ → List (List ℕ)
figure_fields name number = name ∷ decimal number ∷ []
