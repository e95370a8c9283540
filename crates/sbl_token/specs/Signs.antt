-- The signs and their texts.
use Rattle.std.specs.Prelude.{ℕ, List, [], ◌∷◌, codes, option_map, unwrap_or, find}
use denote.Enum.Bare.{sameb}
use Rattle.sbl_token.specs.contracts.signs.Sign as written
use Rattle.sbl_token.specs.declared.signs.Sign.{Sign}
use Rattle.sbl_token.specs.declared.signs.Sign.TheVariants as sign

-- each sign with its text
abbrev pub signs : List (Sign × List ℕ)
signs =
    (sign.Open, codes "(") ∷ (sign.Close, codes ")") ∷ (sign.LeftBracket, codes "[") ∷ (sign.RightBracket, codes "]") ∷ (sign.Dollar, codes "$") ∷
    (sign.Plus, codes "+") ∷ (sign.Minus, codes "-") ∷ (sign.Star, codes "*") ∷ (sign.Slash, codes "/") ∷ (sign.Equals, codes "=") ∷
    (sign.Question, codes "?") ∷ (sign.Less, codes "<") ∷ (sign.Greater, codes ">") ∷ (sign.Same, codes "==") ∷ (sign.Differs, codes "!=") ∷
    (sign.AtMost, codes "<=") ∷ (sign.AtLeast, codes ">=") ∷ (sign.LessMinus, codes "<-") ∷ (sign.LessPlus, codes "<+") ∷ (sign.Arrow, codes "->") ∷
    (sign.PlusEquals, codes "+=") ∷ (sign.MinusEquals, codes "-=") ∷ (sign.StarEquals, codes "*=") ∷ (sign.SlashEquals, codes "/=") ∷
    (sign.EqualsGreater, codes "=>") ∷ []

-- the text of a sign
abbrev pub sign_text : Sign → List ℕ
sign_text s = unwrap_or (option_map (λ p. p.1) (find (λ p. sameb written.the_type p.0 s) signs)) []
