use Rattle.std.proofs.Common.{refl}
use Rattle.std.specs.Str.{chars}
use Rattle.sbl_token.specs.Lexemes.{lexeme_of}
use Rattle.sbl_text.proofs.Nexts.{next_ends, lacking}
use Rattle.sbl_text.proofs.lexer.Lexer.advance.Goals as goal

pub returns-in-Err-clause-next : goal.returns-in-Err-clause-next
returns-in-Err-clause-next c = rw (← c.self.view_is) (refl, refl, c.in-Err.ensures)

pub invariant_of-self : goal.invariant_of-self
invariant_of-self c =
    next_ends c.self.inside.state (chars c.self.inside.source.now) (chars c.self.inside.rest.now) (chars c.in-Ok.rest.now) c.in-Ok.found c.self.invariant c.in-Ok.ensures

pub returns-in-Err-after_token-clause-next : goal.returns-in-Err-after_token-clause-next
returns-in-Err-after_token-clause-next c =
    let token = rw c.in-Some.is at c.in-Ok.ensures in
    rw (← c.self.view_is) (
      refl,
      c.in-Err-after_token.ensures.0,
      lacking c.self.inside.state (chars c.self.inside.source.now) (chars c.self.inside.rest.now) (chars c.in-Ok.rest.now) c.in-Some.token (lexeme_of c.in-Some.token) c.in-Err-after_token.fault refl token c.in-Err-after_token.ensures.1,
    )

pub invariant_of-self-in-Ok-after_token : goal.invariant_of-self-in-Ok-after_token
invariant_of-self-in-Ok-after_token c =
    next_ends c.self.inside.state (chars c.self.inside.source.now) (chars c.self.inside.rest.now) (chars c.in-Ok.rest.now) c.in-Ok.found c.self.invariant c.in-Ok.ensures

pub returns-clause-next : goal.returns-clause-next
returns-clause-next c =
    let token = rw c.in-Some.is at c.in-Ok.ensures in
    rw (← c.self.view_is) (token, c.in-Ok-after_token.ensures.0, c.in-Ok-after_token.ensures.1)
