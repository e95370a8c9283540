use Rattle.std.proofs.Common.{◌≡◌, ◌⊎◌, map, ◌∙◌, ℕ, List, Some, None, Ok, Err, subst, sym, ap}
use Rattle.std.specs.Str.{chars}
use Rattle.std.proofs.lemmas.Result.{err_from_is_err_and}
use Rattle.std.specs.List.{All}
use Rattle.sbl_token.specs.Lexemes.{SaysFitting, lexeme_of}
use Rattle.sbl_text.specs.Tokens.{Advances, AreTokensFrom, ArePlacedFrom, IsFirstFaultFrom, Reading, placed_of}
use Rattle.sbl_text.specs.Directives.{Directives}
use Rattle.sbl_text.specs.declared.fault.ScriptFault.TheVariants as fault
use Rattle.sbl_text.proofs.Lists.{SoFar, with_next, all_tokens, all_placed, first_of_all, next_fits, next_shorter, next_advances, still_none}
use Rattle.sbl_text.proofs.lexer.tokens_under.Goals as goal

pub returns-in_err-token-clause-fault : goal.returns-in_err-token-clause-fault
returns-in_err-token-clause-fault c =
    let p = err_from_is_err_and c.from_residual.result c.from_residual.ensures.1 in
    rw (p.1, p.2) (subst (λ (f : Directives). (c.in_err-token.field-0.0 ≡ fault.OutOfMemory) ⊎ IsFirstFaultFrom f (chars c.args.text.now) c.in_err-token.field-0.0) (ap (λ (r : Reading). r.state) c.under-lexer.ensures) (first_of_all _ (chars c.args.text.now) c.loop-tokens.lexer.state c.loop-tokens.lexer.rest c.next.new.self.state c.next.new.self.rest c.in_err-token.field-0.0 c.loop-tokens.tokens.items c.loop-tokens.invariant.1
    (subst (λ (s : List ℕ). Advances s c.loop-tokens.lexer.state c.loop-tokens.lexer.rest c.next.new.self.state c.next.new.self.rest (Err c.in_err-token.field-0.0)) c.loop-tokens.invariant.0 (next_advances c.loop-tokens.lexer c.next.new.self (Err c.in_err-token.field-0.0) c.loop-tokens.invariant.3 c.in_err-token.ensures.next))))

pub loop-tokens-smaller : goal.loop-tokens-smaller
loop-tokens-smaller c =
    next_shorter c.loop-tokens.lexer.text c.loop-tokens.lexer.state c.loop-tokens.lexer.rest c.next.new.self.state c.next.new.self.rest c.in-Some.token (next_advances c.loop-tokens.lexer c.next.new.self (Ok (Some c.in-Some.token)) c.loop-tokens.invariant.3 (rw c.in-Some.is at c.in_ok-token.ensures.next))

pub loop-tokens-preserved : goal.loop-tokens-preserved
loop-tokens-preserved c = (
  c.in_ok-token.ensures.same_text ∙ c.loop-tokens.invariant.0,
  subst (SoFar _ (chars c.args.text.now) c.next.new.self.state c.next.new.self.rest) (sym c.in_ok-push.ensures.items)
      (with_next _ (chars c.args.text.now) c.loop-tokens.lexer.state c.loop-tokens.lexer.rest c.next.new.self.state c.next.new.self.rest c.in-Some.token c.loop-tokens.tokens.items c.loop-tokens.invariant.1
      (subst (λ (s : List ℕ). Advances s c.loop-tokens.lexer.state c.loop-tokens.lexer.rest c.next.new.self.state c.next.new.self.rest (Ok (Some c.in-Some.token))) c.loop-tokens.invariant.0 (next_advances c.loop-tokens.lexer c.next.new.self (Ok (Some c.in-Some.token)) c.loop-tokens.invariant.3 (rw c.in-Some.is at c.in_ok-token.ensures.next)))),
  subst (All SaysFitting) (sym c.in_ok-push.ensures.items)
      (next_fits c.loop-tokens.lexer.text c.loop-tokens.lexer.state c.loop-tokens.lexer.rest c.next.new.self.state c.next.new.self.rest c.in-Some.token c.loop-tokens.tokens.items c.loop-tokens.invariant.2
      (next_advances c.loop-tokens.lexer c.next.new.self (Ok (Some c.in-Some.token)) c.loop-tokens.invariant.3 (rw c.in-Some.is at c.in_ok-token.ensures.next))),
  still_none c.loop-tokens.lexer c.next.new.self (Some c.in-Some.token) c.loop-tokens.invariant.3 (rw c.in-Some.is at c.in_ok-token.ensures.next),
)

pub returns-clause-all : goal.returns-clause-all
returns-clause-all c =
    subst (λ (f : Directives). AreTokensFrom f (chars c.args.text.now) (map lexeme_of c.loop-tokens.tokens.items)) (ap (λ (r : Reading). r.state) c.under-lexer.ensures)
    (all_tokens _ (chars c.args.text.now) c.loop-tokens.lexer.state c.loop-tokens.lexer.rest c.next.new.self.state c.next.new.self.rest c.loop-tokens.tokens.items c.loop-tokens.invariant.1
    (subst (λ (s : List ℕ). Advances s c.loop-tokens.lexer.state c.loop-tokens.lexer.rest c.next.new.self.state c.next.new.self.rest (Ok None)) c.loop-tokens.invariant.0 (next_advances c.loop-tokens.lexer c.next.new.self (Ok None) c.loop-tokens.invariant.3 (rw c.in_default.is at c.in_ok-token.ensures.next))))

pub returns-clause-placed : goal.returns-clause-placed
returns-clause-placed c =
    subst (λ (f : Directives). ArePlacedFrom f (chars c.args.text.now) (map placed_of c.loop-tokens.tokens.items)) (ap (λ (r : Reading). r.state) c.under-lexer.ensures)
    (all_placed _ (chars c.args.text.now) c.loop-tokens.lexer.state c.loop-tokens.lexer.rest c.next.new.self.state c.next.new.self.rest c.loop-tokens.tokens.items c.loop-tokens.invariant.1
    (subst (λ (s : List ℕ). Advances s c.loop-tokens.lexer.state c.loop-tokens.lexer.rest c.next.new.self.state c.next.new.self.rest (Ok None)) c.loop-tokens.invariant.0 (next_advances c.loop-tokens.lexer c.next.new.self (Ok None) c.loop-tokens.invariant.3 (rw c.in_default.is at c.in_ok-token.ensures.next))))
