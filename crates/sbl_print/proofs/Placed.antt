-- A line that begins with the tokens of an item as they are written begins with its tokens.
use Rattle.std.proofs.Common.{◌≡◌, ℕ, List, [], ◌∷◌, ◌++◌, map, refl, sym, ap, ◌∙◌}
use Rattle.std.specs.List.{join_by}
use Rattle.sbl_text.specs.SpacedTokens.{lexeme_text}
use Rattle.sbl_ast.specs.Terminal.{Terminal, lexeme_as}
use Rattle.sbl_ast.specs.Tree.{Plain}
use Rattle.sbl_ast.specs.Spelled.{spelled_plain}
use Rattle.sbl_ast.specs.TerminalPlaces.{placed_plain}
use Rattle.sbl_ast.specs.Places as places
use Rattle.sbl_ast.proofs.Lexed.{lexemes_at_depth, plain_lexed, tokens_lexed}
use Rattle.sbl_ast.proofs.PlacedTokens.{plain_tokens}
use Rattle.sbl_print.specs.Adding.{space, token_text, Begins, BeginsLine}

joined_lexed : (ts : List Terminal) → join_by token_text space ts ≡ join_by lexeme_text space (map lexeme_as ts)
joined_lexed [] = refl
joined_lexed (x ∷ []) = refl
joined_lexed (x ∷ y ∷ ts) = ap (λ (b : List ℕ). token_text x ++ (space ++ b)) (joined_lexed (y ∷ ts))

plain_lexemes : (p : Plain) → places.tokens (places.placed_plain p []) ≡ map lexeme_as (spelled_plain p [])
plain_lexemes p =
    let same : places.placed_plain p [] ≡ lexemes_at_depth (placed_plain p []) = plain_lexed p [] refl in
    ap places.tokens same ∙ tokens_lexed (placed_plain p []) ∙ ap (map lexeme_as) (plain_tokens p [])

pub begins_placed : (old new : List ℕ) (p : Plain) → Begins old new (spelled_plain p []) → BeginsLine old new (places.tokens (places.placed_plain p []))
begins_placed old new p h = h ∙ ap (λ (b : List ℕ). old ++ b) (joined_lexed (spelled_plain p []) ∙ ap (join_by lexeme_text space) (sym (plain_lexemes p)))
