-- What the loop over instructions owes where the steps of one are not left.
use Rattle.std.proofs.Common.{◌≡◌, ap, ◌∙◌, rules, Err}
use Rattle.sbl_program.specs.ProgramOf.{program_of}
use Rattle.sbl_code.specs.Flow.{flow}
use Rattle.sbl_code.proofs.Instructions.{flow_pay, flow_act, flow_save, flow_seek_grouping, flow_choose, flow_character, flow_literal, flow_grouping, flow_left_bracket, flow_right_bracket, flow_boolean, flow_next}
use Rattle.sbl_interpreter.proofs.Flows.{unpaid}
use Rattle.sbl_interpreter.proofs.runner.Runner.+run.Goals as goal

pub run_from-returns-in_err-pay_for-in-Pay-clause-follows : goal.run_from-returns-in_err-pay_for-in-Pay-clause-follows
run_from-returns-in_err-pay_for-in-Pay-clause-follows g t c =
    let T = g.T.Tables.listed c.args.self.now.tables.now in
    let P = program_of T c.args.self.now.code.now in
    let levels = c.args.self.now.levels in
    let m = c.args.self.now.mode in
    let s = c.loop-at.state in
    let slots = c.loop-at.slots in
    let a = c.in-Pay in
    let r : c.from_residual.result ≡ Err c.in_err-pay_for-in-Pay.field-0.0 = search rules in
    unpaid _ _ c.pay_for.new.self s a.cost _ _ _ r c.loop-at.invariant.0 (ap (λ x. flow P levels T x m slots s) a.is ∙ flow_pay P levels T m slots s a.cost a.next) c.in_err-pay_for-in-Pay.ensures.leads

pub run_from-returns-in_err-pay_for-in-Act-clause-follows : goal.run_from-returns-in_err-pay_for-in-Act-clause-follows
run_from-returns-in_err-pay_for-in-Act-clause-follows g t c =
    let T = g.T.Tables.listed c.args.self.now.tables.now in
    let P = program_of T c.args.self.now.code.now in
    let levels = c.args.self.now.levels in
    let m = c.args.self.now.mode in
    let s = c.loop-at.state in
    let slots = c.loop-at.slots in
    let a = c.in-Act in
    let r : c.from_residual-in_err-pay_for-in-Act.result ≡ Err c.in_err-pay_for-in-Act.field-0.0 = search rules in
    unpaid _ _ c.pay_for-in-Act.new.self s a.cost _ _ _ r c.loop-at.invariant.0 (ap (λ x. flow P levels T x m slots s) a.is ∙ flow_act P levels T m slots s a.cost a.action a.next a.fail) c.in_err-pay_for-in-Act.ensures.leads

pub run_from-returns-in_err-pay_for-in-Save-clause-follows : goal.run_from-returns-in_err-pay_for-in-Save-clause-follows
run_from-returns-in_err-pay_for-in-Save-clause-follows g t c =
    let T = g.T.Tables.listed c.args.self.now.tables.now in
    let P = program_of T c.args.self.now.code.now in
    let levels = c.args.self.now.levels in
    let m = c.args.self.now.mode in
    let s = c.loop-at.state in
    let slots = c.loop-at.slots in
    let a = c.in-Save in
    let r : c.from_residual-in_err-pay_for-in-Save.result ≡ Err c.in_err-pay_for-in-Save.field-0.0 = search rules in
    unpaid _ _ c.pay_for-in-Save.new.self s a.cost _ _ _ r c.loop-at.invariant.0 (ap (λ x. flow P levels T x m slots s) a.is ∙ flow_save P levels T m slots s a.cost a.slot a.next) c.in_err-pay_for-in-Save.ensures.leads

pub run_from-returns-in_err-pay_for-in-SeekGrouping-clause-follows : goal.run_from-returns-in_err-pay_for-in-SeekGrouping-clause-follows
run_from-returns-in_err-pay_for-in-SeekGrouping-clause-follows g t c =
    let T = g.T.Tables.listed c.args.self.now.tables.now in
    let P = program_of T c.args.self.now.code.now in
    let levels = c.args.self.now.levels in
    let m = c.args.self.now.mode in
    let s = c.loop-at.state in
    let slots = c.loop-at.slots in
    let a = c.in-SeekGrouping in
    let r : c.from_residual-in_err-pay_for-in-SeekGrouping.result ≡ Err c.in_err-pay_for-in-SeekGrouping.field-0.0 = search rules in
    unpaid _ _ c.pay_for-in-SeekGrouping.new.self s a.cost _ _ _ r c.loop-at.invariant.0 (ap (λ x. flow P levels T x m slots s) a.is ∙ flow_seek_grouping P levels T m slots s a.cost a.past a.grouping a.wanted a.next a.fail) c.in_err-pay_for-in-SeekGrouping.ensures.leads

pub run_from-returns-in_err-pay_for-in-Choose-clause-follows : goal.run_from-returns-in_err-pay_for-in-Choose-clause-follows
run_from-returns-in_err-pay_for-in-Choose-clause-follows g t c =
    let T = g.T.Tables.listed c.args.self.now.tables.now in
    let P = program_of T c.args.self.now.code.now in
    let levels = c.args.self.now.levels in
    let m = c.args.self.now.mode in
    let s = c.loop-at.state in
    let slots = c.loop-at.slots in
    let a = c.in-Choose in
    let r : c.from_residual-in_err-pay_for-in-Choose.result ≡ Err c.in_err-pay_for-in-Choose.field-0.0 = search rules in
    unpaid _ _ c.pay_for-in-Choose.new.self s a.cost _ _ _ r c.loop-at.invariant.0 (ap (λ x. flow P levels T x m slots s) a.is ∙ flow_choose P levels T m slots s a.cost a.among a.bodies a.next a.fail) c.in_err-pay_for-in-Choose.ensures.leads

pub run_from-returns-in_err-pay_for-in-Character-clause-follows : goal.run_from-returns-in_err-pay_for-in-Character-clause-follows
run_from-returns-in_err-pay_for-in-Character-clause-follows g t c =
    let T = g.T.Tables.listed c.args.self.now.tables.now in
    let P = program_of T c.args.self.now.code.now in
    let levels = c.args.self.now.levels in
    let m = c.args.self.now.mode in
    let s = c.loop-at.state in
    let slots = c.loop-at.slots in
    let a = c.in-Character in
    let r : c.from_residual-in_err-pay_for-in-Character.result ≡ Err c.in_err-pay_for-in-Character.field-0.0 = search rules in
    unpaid _ _ c.pay_for-in-Character.new.self s a.cost _ _ _ r c.loop-at.invariant.0 (ap (λ x. flow P levels T x m slots s) a.is ∙ flow_character P levels T m slots s a.cost a.character a.back a.next a.fail) c.in_err-pay_for-in-Character.ensures.leads

pub run_from-returns-in_err-pay_for-in-Literal-clause-follows : goal.run_from-returns-in_err-pay_for-in-Literal-clause-follows
run_from-returns-in_err-pay_for-in-Literal-clause-follows g t c =
    let T = g.T.Tables.listed c.args.self.now.tables.now in
    let P = program_of T c.args.self.now.code.now in
    let levels = c.args.self.now.levels in
    let m = c.args.self.now.mode in
    let s = c.loop-at.state in
    let slots = c.loop-at.slots in
    let a = c.in-Literal in
    let r : c.from_residual-in_err-pay_for-in-Literal.result ≡ Err c.in_err-pay_for-in-Literal.field-0.0 = search rules in
    unpaid _ _ c.pay_for-in-Literal.new.self s a.cost _ _ _ r c.loop-at.invariant.0 (ap (λ x. flow P levels T x m slots s) a.is ∙ flow_literal P levels T m slots s a.cost a.string a.back a.next a.fail) c.in_err-pay_for-in-Literal.ensures.leads

pub run_from-returns-in_err-pay_for-in-Grouping-clause-follows : goal.run_from-returns-in_err-pay_for-in-Grouping-clause-follows
run_from-returns-in_err-pay_for-in-Grouping-clause-follows g t c =
    let T = g.T.Tables.listed c.args.self.now.tables.now in
    let P = program_of T c.args.self.now.code.now in
    let levels = c.args.self.now.levels in
    let m = c.args.self.now.mode in
    let s = c.loop-at.state in
    let slots = c.loop-at.slots in
    let a = c.in-Grouping in
    let r : c.from_residual-in_err-pay_for-in-Grouping.result ≡ Err c.in_err-pay_for-in-Grouping.field-0.0 = search rules in
    unpaid _ _ c.pay_for-in-Grouping.new.self s a.cost _ _ _ r c.loop-at.invariant.0 (ap (λ x. flow P levels T x m slots s) a.is ∙ flow_grouping P levels T m slots s a.cost a.wanted a.grouping a.back a.next a.fail) c.in_err-pay_for-in-Grouping.ensures.leads

pub run_from-returns-in_err-pay_for-in-LeftBracket-clause-follows : goal.run_from-returns-in_err-pay_for-in-LeftBracket-clause-follows
run_from-returns-in_err-pay_for-in-LeftBracket-clause-follows g t c =
    let T = g.T.Tables.listed c.args.self.now.tables.now in
    let P = program_of T c.args.self.now.code.now in
    let levels = c.args.self.now.levels in
    let m = c.args.self.now.mode in
    let s = c.loop-at.state in
    let slots = c.loop-at.slots in
    let a = c.in-LeftBracket in
    let r : c.from_residual-in_err-pay_for-in-LeftBracket.result ≡ Err c.in_err-pay_for-in-LeftBracket.field-0.0 = search rules in
    unpaid _ _ c.pay_for-in-LeftBracket.new.self s a.cost _ _ _ r c.loop-at.invariant.0 (ap (λ x. flow P levels T x m slots s) a.is ∙ flow_left_bracket P levels T m slots s a.cost a.next) c.in_err-pay_for-in-LeftBracket.ensures.leads

pub run_from-returns-in_err-pay_for-in-RightBracket-clause-follows : goal.run_from-returns-in_err-pay_for-in-RightBracket-clause-follows
run_from-returns-in_err-pay_for-in-RightBracket-clause-follows g t c =
    let T = g.T.Tables.listed c.args.self.now.tables.now in
    let P = program_of T c.args.self.now.code.now in
    let levels = c.args.self.now.levels in
    let m = c.args.self.now.mode in
    let s = c.loop-at.state in
    let slots = c.loop-at.slots in
    let a = c.in-RightBracket in
    let r : c.from_residual-in_err-pay_for-in-RightBracket.result ≡ Err c.in_err-pay_for-in-RightBracket.field-0.0 = search rules in
    unpaid _ _ c.pay_for-in-RightBracket.new.self s a.cost _ _ _ r c.loop-at.invariant.0 (ap (λ x. flow P levels T x m slots s) a.is ∙ flow_right_bracket P levels T m slots s a.cost a.next) c.in_err-pay_for-in-RightBracket.ensures.leads

pub run_from-returns-in_err-pay_for-in-Boolean-clause-follows : goal.run_from-returns-in_err-pay_for-in-Boolean-clause-follows
run_from-returns-in_err-pay_for-in-Boolean-clause-follows g t c =
    let T = g.T.Tables.listed c.args.self.now.tables.now in
    let P = program_of T c.args.self.now.code.now in
    let levels = c.args.self.now.levels in
    let m = c.args.self.now.mode in
    let s = c.loop-at.state in
    let slots = c.loop-at.slots in
    let a = c.in-Boolean in
    let r : c.from_residual-in_err-pay_for-in-Boolean.result ≡ Err c.in_err-pay_for-in-Boolean.field-0.0 = search rules in
    unpaid _ _ c.pay_for-in-Boolean.new.self s a.cost _ _ _ r c.loop-at.invariant.0 (ap (λ x. flow P levels T x m slots s) a.is ∙ flow_boolean P levels T m slots s a.cost a.number a.next a.fail) c.in_err-pay_for-in-Boolean.ensures.leads

pub run_from-returns-in_err-pay_for-in-Next-clause-follows : goal.run_from-returns-in_err-pay_for-in-Next-clause-follows
run_from-returns-in_err-pay_for-in-Next-clause-follows g t c =
    let T = g.T.Tables.listed c.args.self.now.tables.now in
    let P = program_of T c.args.self.now.code.now in
    let levels = c.args.self.now.levels in
    let m = c.args.self.now.mode in
    let s = c.loop-at.state in
    let slots = c.loop-at.slots in
    let a = c.in-Next in
    let r : c.from_residual-in_err-pay_for-in-Next.result ≡ Err c.in_err-pay_for-in-Next.field-0.0 = search rules in
    unpaid _ _ c.pay_for-in-Next.new.self s a.cost _ _ _ r c.loop-at.invariant.0 (ap (λ x. flow P levels T x m slots s) a.is ∙ flow_next P levels T m slots s a.cost a.next a.fail) c.in_err-pay_for-in-Next.ensures.leads
