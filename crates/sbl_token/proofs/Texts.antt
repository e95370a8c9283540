-- Texts as bytes and as characters.
use Rattle.std.proofs.Common.{◌≡◌, ℕ, List, [], ◌∷◌, length}
use Rattle.std.specs.Str.{chars}
use Rattle.std.proofs.lemmas.Str.{chars-nil}

pub chars_of_empty : (bs : List ℕ) → length bs ≡ 0 → chars bs ≡ []
chars_of_empty [] e = chars-nil
chars_of_empty (b ∷ bs) e = cc
