use Rattle.std.proofs.Common.{◌≡◌, None, length}
use Rattle.std.specs.Str.{chars}
use Rattle.sbl_text_rows.proofs.TokenFacts.{HasLines}
use Rattle.sbl_text_rows.proofs.token_rows.tokens_text.Given as goal

abbrev pub invariant-loop-lexer : goal.invariant-loop-lexer
invariant-loop-lexer l = (l.lexer.text ≡ chars l.text) × (l.lexer.fault ≡ None) × HasLines (chars l.text) l.lexer.state l.lexer.rest l.out.items

abbrev pub decreases-loop-lexer : goal.decreases-loop-lexer
decreases-loop-lexer l = length l.lexer.rest
