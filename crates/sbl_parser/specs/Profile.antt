-- The tokens of the language that are not supported.
use Rattle.std.specs.Prelude.{Bool, [], ◌∷◌}
use Rattle.std.specs.List.{list_any}
use Rattle.sbl_token.specs.Lexemes.{Lexeme, same_lexeme, word, sign}
use Rattle.sbl_token.specs.declared.words.Word.TheVariants as words
use Rattle.sbl_token.specs.declared.signs.Sign.TheVariants as signs

-- the token occurs in no tree
abbrev pub is_left_out : Lexeme → Bool
is_left_out t = list_any (same_lexeme t)
    (word words.Get ∷ word words.Reverse ∷ word words.Size ∷ word words.SizeOf ∷ sign signs.Question ∷ sign signs.EqualsGreater ∷ [])
