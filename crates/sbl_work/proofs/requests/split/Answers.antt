use Rattle.std.proofs.Common.{◌≡◌, ◌∙◌, ◌+◌, arith, rules, sym, get_or, true}
use Rattle.std.proofs.lemmas.List.{length-drop, take_all}
use Rattle.sbl_sessions.specs.inside.SessionParts.{is_space}
use Rattle.sbl_sessions.proofs.CommandFacts.{word_before}
use Rattle.sbl_work.proofs.LineFacts.{argument_after, no_argument}
use Rattle.sbl_work.proofs.requests.split.Goals as goal

pub returns-then-line-i-eq32-clause-word : goal.returns-then-line-i-eq32-clause-word
returns-then-line-i-eq32-clause-word c =
    let here : is_space (get_or c.args.line.now c.loop-i.i 0) ≡ true = search rules in
    word_before c.args.line.now c.loop-i.i (omega arith) c.loop-i.invariant (λ _. here)

pub returns-then-line-i-eq32-clause-argument : goal.returns-then-line-i-eq32-clause-argument
returns-then-line-i-eq32-clause-argument c =
    let here : is_space (get_or c.args.line.now c.loop-i.i 0) ≡ true = search rules in
    take_all _ _ (omega (arith, length-drop (c.loop-i.i + 1) c.args.line.now)) ∙ argument_after c.args.line.now c.loop-i.i (omega arith) c.loop-i.invariant here

pub returns-clause-word : goal.returns-clause-word
returns-clause-word c =
    sym (take_all c.loop-i.i c.args.line.now (omega arith)) ∙ word_before c.args.line.now c.loop-i.i (omega arith) c.loop-i.invariant (λ lt. absurd (omega (arith, lt)))

pub returns-clause-argument : goal.returns-clause-argument
returns-clause-argument c = no_argument c.args.line.now c.loop-i.i (omega arith) c.loop-i.invariant
