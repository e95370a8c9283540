-- The longest sign at the start of a text, and the sign with a given text.
use Rattle.std.specs.Prelude.{ℕ, ◌==◌, if◌then◌else◌, List, [], ◌∷◌, Option, Some, None, option_map}
use Rattle.sbl_token.specs.declared.signs.Sign.{Sign}
use Rattle.sbl_token.specs.declared.signs.Sign.TheVariants as sign

-- the sign of one character
abbrev pub one : ℕ → Option Sign
one a =
    if a == 40 then Some sign.Open else (if a == 41 then Some sign.Close
    else (if a == 91 then Some sign.LeftBracket else (if a == 93 then Some sign.RightBracket
    else (if a == 36 then Some sign.Dollar else (if a == 43 then Some sign.Plus
    else (if a == 45 then Some sign.Minus else (if a == 42 then Some sign.Star
    else (if a == 47 then Some sign.Slash else (if a == 61 then Some sign.Equals
    else (if a == 63 then Some sign.Question else (if a == 60 then Some sign.Less
    else (if a == 62 then Some sign.Greater else None))))))))))))

-- the sign of two characters that ends in `=`
abbrev pub with_equals : ℕ → Option Sign
with_equals a =
    if a == 61 then Some sign.Same else (if a == 33 then Some sign.Differs
    else (if a == 60 then Some sign.AtMost else (if a == 62 then Some sign.AtLeast
    else (if a == 43 then Some sign.PlusEquals else (if a == 45 then Some sign.MinusEquals
    else (if a == 42 then Some sign.StarEquals else (if a == 47 then Some sign.SlashEquals else None)))))))

-- the sign of two characters
abbrev pub two : ℕ → ℕ → Option Sign
two a b =
    if b == 61 then with_equals a
    else (if a == 60 then (if b == 45 then Some sign.LessMinus else (if b == 43 then Some sign.LessPlus else None))
    else (if b == 62 then (if a == 45 then Some sign.Arrow else (if a == 61 then Some sign.EqualsGreater else None))
    else None))

abbrev pub or_one : Option Sign → Option Sign → List ℕ → List ℕ → Option (Sign × List ℕ)
or_one (Some s) t short long = Some (s, short)
or_one None t short long = option_map (λ s. (s, long)) t

-- the longest sign at the start of the text, and the rest of the text
unfoldable pub sign_prefix : List ℕ → Option (Sign × List ℕ)
sign_prefix [] = None
sign_prefix (a ∷ []) = option_map (λ s. (s, [])) (one a)
sign_prefix (a ∷ b ∷ cs) = or_one (two a b) (one a) cs (b ∷ cs)

-- the sign with exactly this text
abbrev pub sign_of : List ℕ → Option Sign
sign_of [] = None
sign_of (a ∷ []) = one a
sign_of (a ∷ b ∷ []) = two a b
sign_of (a ∷ b ∷ c ∷ cs) = None
