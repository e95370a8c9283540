-- The rest of a text.
use Rattle.std.proofs.Common.{◌≡◌, ◌∙◌, ◌++◌, Bool, true, false, List, [], ◌∷◌, ℕ, ap, encode_utf8_all, sym}
use Rattle.std.proofs.lemmas.Str.{chars-encodes, scalars-chars}
use Rattle.std.proofs.Math.Utf8.{scalars}
use Rattle.std.specs.Prelude.{◌&&◌}
use Rattle.std.specs.Str.{IsUtf8, chars}

and_right : (a b : Bool) → (a && b) ≡ true → b ≡ true
and_right true b e = e
and_right false b e = let no : false ≡ true = e in absurd (cc no)

pub rest_scalars : (x y : List ℕ) → scalars (x ++ y) ≡ true → scalars y ≡ true
rest_scalars [] y e = e
rest_scalars (c ∷ x) y e = rest_scalars x y (and_right _ _ e)

pub rest_chars : (text before rest bytes : List ℕ) → IsUtf8 text → chars text ≡ before ++ rest → bytes ≡ encode_utf8_all rest → chars bytes ≡ rest
rest_chars text before rest bytes utf8 is same =
    ap chars same ∙ chars-encodes rest (rest_scalars before rest (sym (ap scalars is) ∙ scalars-chars text utf8))
