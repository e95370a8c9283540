-- The canonical text of a script.
use Rattle.std.specs.Prelude.{ℕ, List, [], ◌∷◌, ◌++◌}
use Rattle.std.specs.List.{flat_map, join_by}
use Rattle.sbl_token.specs.Lexemes.{Lexeme, word, sign}
use Rattle.sbl_token.specs.declared.words.Word.TheVariants as words
use Rattle.sbl_token.specs.declared.signs.Sign.TheVariants as signs
use Rattle.sbl_text.specs.SpacedTokens.{lexeme_text}
use Rattle.sbl_ast.specs.Tree.{Plain, Item, plain, backward}
use Rattle.sbl_ast.specs.Places.{placed_plain, tokens}

-- the tokens separated by single spaces, and a line feed
abbrev pub line : List Lexeme → List ℕ
line ls = join_by lexeme_text (32 ∷ []) ls ++ 10 ∷ []

-- an item that is allowed in a `backwardmode` is one line of its tokens
abbrev pub plain_text : Plain → List ℕ
plain_text p = line (tokens (placed_plain p []))

-- a `backwardmode` is the line `backwardmode (`, its items, and the line `)`
abbrev pub item_text : Item → List ℕ
item_text (plain p) = plain_text p
item_text (backward ps) = line (word words.BackwardMode ∷ sign signs.Open ∷ []) ++ (flat_map plain_text ps ++ line (sign signs.Close ∷ []))

-- the canonical text of the items of a script
abbrev pub canonical : List Item → List ℕ
canonical items = flat_map item_text items
