use Rattle.std.proofs.Common.{◌∙◌, ap}
use Rattle.std.specs.Str.{chars}
use Rattle.sbl_text.specs.Tokens.{Reading}
use Rattle.sbl_text_rows.proofs.TokenFacts.{all_lines, first_lines, next_ends, next_lines, next_taken, shorter, token_ends}
use Rattle.sbl_text_rows.proofs.token_rows.tokens_text.Goals as goal

pub loop-lexer-init : goal.loop-lexer-init
loop-lexer-init c = (
  ap (λ (r : Reading). r.text) c.new-lexer.ensures,
  ap (λ (r : Reading). r.fault) c.new-lexer.ensures,
  first_lines (chars c.args.text.now) c.new-out.result.items c.push_comments.new.out.items c.new-lexer.result c.new-lexer.ensures c.new-out.ensures.items
      (λ i x gs at is gaps none. c.in_ok-push_comments.ensures i x gs at is gaps none),
)

pub push_after-requires : goal.push_after-requires
push_after-requires c =
    token_ends (chars c.args.text.now) c.loop-lexer.lexer c.next_token.new.lexer c.in-Some.token c.loop-lexer.invariant.0
    (next_taken c.loop-lexer.lexer c.next_token.new.lexer c.in_ok-token.field-0 c.in-Some.token c.in-Some.is c.in_ok-token.ensures.next)

pub loop-lexer-smaller-in_ok-push_after : goal.loop-lexer-smaller-in_ok-push_after
loop-lexer-smaller-in_ok-push_after c =
    shorter c.loop-lexer.lexer c.next_token.new.lexer c.in-Some.token
    (next_taken c.loop-lexer.lexer c.next_token.new.lexer c.in_ok-token.field-0 c.in-Some.token c.in-Some.is c.in_ok-token.ensures.next)

pub loop-lexer-preserved-in_ok-push_after : goal.loop-lexer-preserved-in_ok-push_after
loop-lexer-preserved-in_ok-push_after c = (
  c.in_ok-token.ensures.same_text ∙ c.loop-lexer.invariant.0,
  (next_taken c.loop-lexer.lexer c.next_token.new.lexer c.in_ok-token.field-0 c.in-Some.token c.in-Some.is c.in_ok-token.ensures.next).1,
  next_lines (chars c.args.text.now) c.loop-lexer.lexer c.next_token.new.lexer c.in-Some.token c.loop-lexer.out.items c.push_token.new.out.items c.push_after.new.out.items c.loop-lexer.invariant.0 c.loop-lexer.invariant.2
      (next_taken c.loop-lexer.lexer c.next_token.new.lexer c.in_ok-token.field-0 c.in-Some.token c.in-Some.is c.in_ok-token.ensures.next) c.in_ok-push_token.ensures (λ s x rest gs at is end gaps ends. c.in_ok-push_after.ensures s x rest gs at is end gaps ends),
)

pub loop-lexer-smaller : goal.loop-lexer-smaller
loop-lexer-smaller c =
    shorter c.loop-lexer.lexer c.next_token.new.lexer c.in-Some.token
    (next_taken c.loop-lexer.lexer c.next_token.new.lexer c.in_ok-token.field-0 c.in-Some.token c.in-Some.is c.in_ok-token.ensures.next)

pub loop-lexer-preserved : goal.loop-lexer-preserved
loop-lexer-preserved c = (
  c.in_ok-token.ensures.same_text ∙ c.loop-lexer.invariant.0,
  (next_taken c.loop-lexer.lexer c.next_token.new.lexer c.in_ok-token.field-0 c.in-Some.token c.in-Some.is c.in_ok-token.ensures.next).1,
  next_lines (chars c.args.text.now) c.loop-lexer.lexer c.next_token.new.lexer c.in-Some.token c.loop-lexer.out.items c.push_token.new.out.items c.push_after.new.out.items c.loop-lexer.invariant.0 c.loop-lexer.invariant.2
      (next_taken c.loop-lexer.lexer c.next_token.new.lexer c.in_ok-token.field-0 c.in-Some.token c.in-Some.is c.in_ok-token.ensures.next) c.in_ok-push_token.ensures (λ s x rest gs at is end gaps ends. c.in_ok-push_after.ensures s x rest gs at is end gaps ends),
)

pub returns : goal.returns
returns c =
    let r = c.loop-lexer.lexer in
    let last = next_ends r c.next_token.new.lexer c.in_ok-token.field-0 c.in_default.is c.in_ok-token.ensures.next in
    all_lines c.args.text.now r c.loop-lexer.out.items c.loop-lexer.invariant.0 c.loop-lexer.invariant.2 last
