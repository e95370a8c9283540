use Rattle.std.proofs.Common.{◌≡◌, ◌∙◌, arith, rules, sym, get_or, true}
use Rattle.std.proofs.lemmas.List.{take_all}
use Rattle.sbl_sessions.specs.inside.SessionParts.{is_space}
use Rattle.sbl_sessions.proofs.CommandFacts.{word_before}
use Rattle.sbl_sessions.proofs.session_commands.command_word.Goals as goal

pub returns-then-line-i-eq32 : goal.returns-then-line-i-eq32
returns-then-line-i-eq32 c =
    let here : is_space (get_or c.args.line.now c.loop-i.i 0) ≡ true = search rules in
    word_before c.args.line.now c.loop-i.i (omega arith) c.loop-i.invariant (λ _. here)

pub returns : goal.returns
returns c =
    sym (take_all c.loop-i.i c.args.line.now (omega arith)) ∙ word_before c.args.line.now c.loop-i.i (omega arith) c.loop-i.invariant (λ lt. absurd (omega (arith, lt)))
