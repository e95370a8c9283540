-- The fold of a list from its end.
use Rattle.std.specs.Prelude.{List, [], ◌∷◌}

abbrev pub foldr : {A B : Type 0} → (A → B → B) → B → List A → B
foldr f end [] = end
foldr f end (x ∷ xs) = f x (foldr f end xs)
