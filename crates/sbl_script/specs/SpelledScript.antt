-- Whether the tokens of a script, or of an item, can be written as text.
use Rattle.std.specs.Prelude.{List, []}
use Rattle.sbl_text.specs.Directives.{Directives, start}
use Rattle.sbl_text.specs.SpacedTokens.{AreSaid}
use Rattle.sbl_ast.specs.Tree.{Item, Plain}
use Rattle.sbl_ast.specs.Places.{lexemes_of, placed_plain, tokens}

-- each token of the script can be written in some text, with what the tokens before it set in force
abbrev pub AreSpelled : List Item → Type 0
AreSpelled items = AreSaid start (lexemes_of items)

-- the same for the tokens of an item, if the text before it leaves state s
abbrev pub IsSpelled : Directives → Plain → Type 0
IsSpelled s x = AreSaid s (tokens (placed_plain x []))
