use Rattle.std.proofs.Common.{subst}
use Rattle.std.specs.Str.{chars}
use Rattle.sbl_source_map.specs.LexerStops.{IsStep}
use Rattle.sbl_source_map.specs.declared.fault_ranges.Step.{Step}
use Rattle.sbl_source_map.proofs.LexerSteps.{read_all, step_kept, step_shorter, stops_in}
use Rattle.sbl_source_map.proofs.fault_ranges.stop_of.Goals as goal

pub tokens-smaller-in-Next : goal.tokens-smaller-in-Next
tokens-smaller-in-Next c = step_shorter c.tokens.lexer c.next_step.new.lexer c.in-Next.token _ c.in-Next.is c.in_ok-token.ensures.step

pub tokens-preserved-in-Next : goal.tokens-preserved-in-Next
tokens-preserved-in-Next c =
    step_kept (chars c.args.text.now) c.tokens.lexer c.next_step.new.lexer c.in-Next.token _ c.tokens.inserts _ c.tokens.invariant c.in-Next.is
    c.in_ok-token.ensures.step c.in_ok-token.ensures.same_text c.inserts_after-inserts.ensures

pub tokens-smaller : goal.tokens-smaller
tokens-smaller c = step_shorter c.tokens.lexer c.next_step.new.lexer c.in-Next.token _ c.in-Next.is c.in_ok-token.ensures.step

pub tokens-preserved : goal.tokens-preserved
tokens-preserved c =
    step_kept (chars c.args.text.now) c.tokens.lexer c.next_step.new.lexer c.in-Next.token _ c.tokens.inserts _ c.tokens.invariant c.in-Next.is
    c.in_ok-token.ensures.step c.in_ok-token.ensures.same_text c.inserts_after-inserts.ensures

pub returns-in-End : goal.returns-in-End
returns-in-End c =
    let r = c.tokens.lexer in
    let t = c.next_step.new.lexer in
    let so = c.tokens.invariant in
    read_all (chars c.args.text.now) r t so.0 so.2 (subst (λ (s : Step). IsStep r t s) c.in-End.is c.in_ok-token.ensures.step)

pub returns-in-Fault : goal.returns-in-Fault
returns-in-Fault c =
    let r = c.tokens.lexer in
    let t = c.next_step.new.lexer in
    let so = c.tokens.invariant in
    let stopped = subst (λ (s : Step). IsStep r t s) c.in-Fault.is c.in_ok-token.ensures.step in
    (r.state, stops_in (chars c.args.text.now) r t c.in-Fault.fault so.0 so.2 stopped, so.3)
