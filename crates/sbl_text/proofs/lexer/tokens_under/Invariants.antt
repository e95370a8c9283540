use Rattle.std.proofs.Common.{◌≡◌, length, None}
use Rattle.std.specs.Str.{chars}
use Rattle.std.specs.List.{All}
use Rattle.sbl_token.specs.Lexemes.{SaysFitting}
use Rattle.sbl_text.proofs.Lists.{SoFar}
use Rattle.sbl_text.proofs.lexer.tokens_under.Given as goal

abbrev pub invariant-loop-tokens : goal.invariant-loop-tokens
invariant-loop-tokens l = (l.lexer.text ≡ chars l.text) × SoFar l.initial.lexer.state (chars l.text) l.lexer.state l.lexer.rest l.tokens.items × All SaysFitting l.tokens.items × (l.lexer.fault ≡ None)

abbrev pub decreases-loop-tokens : goal.decreases-loop-tokens
decreases-loop-tokens l = length l.lexer.rest
