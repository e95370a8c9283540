use Rattle.sbl_text_rows.proofs.TokenFacts.{next_answer, stops}
use Rattle.sbl_text_rows.proofs.token_rows.next_token.Goals as goal

pub returns-in-Ok-clause-next : goal.returns-in-Ok-clause-next
returns-in-Ok-clause-next c = next_answer c.args.lexer.now c.next.new.self c.in-Ok.found c.requires c.in-Ok.ensures.next

pub returns-in_default : goal.returns-in_default
returns-in_default c = record {
  same_text = c.in-Err.ensures.same_text;
  next = stops c.args.lexer.now c.next.new.self c.in-Err.fault c.requires c.in-Err.ensures.next c.in_default.not-OutOfMemory;
}
