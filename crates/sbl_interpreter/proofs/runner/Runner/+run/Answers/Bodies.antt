-- What the runs of the bodies of loops owe: each goes on at an exit of the first instruction.
use Rattle.std.proofs.Common.{◌≡◌, ℕ, ◌≤◌, ◌<◌, Bool, List, Err, map, length, true, false, refl, sym, ap, ◌∙◌, arith, rules}
use Rattle.sbl_program.specs.Actions.{test_grouping}
use Rattle.sbl_program.specs.CharacterClasses.{members}
use Rattle.sbl_program.specs.ProgramOf.{program_of}
use Rattle.sbl_program.specs.Run.{calls}
use Rattle.sbl_program.specs.Search.{search_all}
use Rattle.sbl_program.specs.Terms.{class_at}
use Rattle.sbl_program.specs.declared.node.Program.{Program}
use Rattle.sbl_run_state.specs.Endings.{Follows}
use Rattle.sbl_run_state.proofs.EarlyEnds.{follows_at}
use Rattle.sbl_semantics.specs.State.{State, Signals, after}
use Rattle.sbl_code.specs.Flow.{flow}
use Rattle.sbl_code.specs.Slots.{no_cursors}
use Rattle.sbl_code.proofs.Instructions.{flow_character, flow_grouping, flow_left_bracket}
use Rattle.sbl_interpreter.proofs.Flows.{unpaid, ends_early, no_more_than, left_steps, left_bracketed, character_taken, character_missed, grouping_taken, grouping_missed, grouping_halts}
use Rattle.sbl_interpreter.proofs.Inners.{search_exits, search_unpaid}
use Rattle.sbl_interpreter.proofs.runner.Runner.+run.Goals as goal

pub run_body-returns-in_err-pay_for-in-Grouping-clause-follows : goal.run_body-returns-in_err-pay_for-in-Grouping-clause-follows
run_body-returns-in_err-pay_for-in-Grouping-clause-follows g t c =
    let T = g.T.Tables.listed c.args.self.now.tables.now in
    let P = program_of T c.args.self.now.code.now in
    let levels = c.args.self.now.levels in
    let m = c.args.self.now.mode in
    let s = c.args.state.now in
    let a = c.in-Grouping in
    let r : c.from_residual.result ≡ Err c.in_err-pay_for-in-Grouping.field-0.0 = search rules in
    unpaid _ _ c.pay_for.new.self s a.cost _ _ _ r refl (ap (λ x. flow P levels T x m no_cursors s) a.is ∙ flow_grouping P levels T m no_cursors s a.cost a.wanted a.grouping a.back a.next a.fail) c.in_err-pay_for-in-Grouping.ensures.leads

pub run_body-returns-in_err-pay_for-in-Character-clause-follows : goal.run_body-returns-in_err-pay_for-in-Character-clause-follows
run_body-returns-in_err-pay_for-in-Character-clause-follows g t c =
    let T = g.T.Tables.listed c.args.self.now.tables.now in
    let P = program_of T c.args.self.now.code.now in
    let levels = c.args.self.now.levels in
    let m = c.args.self.now.mode in
    let s = c.args.state.now in
    let a = c.in-Character in
    let r : c.from_residual-in_err-pay_for-in-Character.result ≡ Err c.in_err-pay_for-in-Character.field-0.0 = search rules in
    unpaid _ _ c.pay_for-in-Character.new.self s a.cost _ _ _ r refl (ap (λ x. flow P levels T x m no_cursors s) a.is ∙ flow_character P levels T m no_cursors s a.cost a.character a.back a.next a.fail) c.in_err-pay_for-in-Character.ensures.leads

pub run_body-returns-in_err-pay_for-in-LeftBracket-clause-follows : goal.run_body-returns-in_err-pay_for-in-LeftBracket-clause-follows
run_body-returns-in_err-pay_for-in-LeftBracket-clause-follows g t c =
    let T = g.T.Tables.listed c.args.self.now.tables.now in
    let P = program_of T c.args.self.now.code.now in
    let levels = c.args.self.now.levels in
    let m = c.args.self.now.mode in
    let s = c.args.state.now in
    let a = c.in-LeftBracket in
    let r : c.from_residual-in_err-pay_for-in-LeftBracket.result ≡ Err c.in_err-pay_for-in-LeftBracket.field-0.0 = search rules in
    unpaid _ _ c.pay_for-in-LeftBracket.new.self s a.cost _ _ _ r refl (ap (λ x. flow P levels T x m no_cursors s) a.is ∙ flow_left_bracket P levels T m no_cursors s a.cost a.next) c.in_err-pay_for-in-LeftBracket.ensures.leads

pub run_body-returns-in_err-take_grouping-in-Grouping-clause-follows : goal.run_body-returns-in_err-take_grouping-in-Grouping-clause-follows
run_body-returns-in_err-take_grouping-in-Grouping-clause-follows g t c =
    let T = g.T.Tables.listed c.args.self.now.tables.now in
    let P = program_of T c.args.self.now.code.now in
    let levels = c.args.self.now.levels in
    let m = c.args.self.now.mode in
    let s = c.args.state.now in
    let a = c.in-Grouping in
    let u = c.pay_for.new.self in
    let new = c.take_grouping.new.self in
    let classes : map members c.deref.result.now ≡ P.groupings = ap (map members) c.deref.ensures.value ∙ ap (λ (x : Program). map members x.groupings.items) c.program.ensures in
    let test = λ (cs : List (ℕ → Bool)). test_grouping a.wanted (class_at cs a.grouping) a.grouping m u in
    let halt = c.in_err-take_grouping-in-Grouping.field-0.0 in
    let r : c.from_residual-in_err-take_grouping-in-Grouping.result ≡ Err halt = search rules in
    let h : Follows (Err halt) new (test P.groupings) = follows_at (Err halt) new _ _ (ap test (sym classes)) c.in_err-take_grouping-in-Grouping.ensures.follows in
    grouping_halts P levels T m no_cursors s c.args.body.now a.cost a.wanted a.grouping a.back a.next a.fail u _ halt new r a.is c.in_ok-pay_for-in-Grouping.ensures.leads h

pub run_body-returns-then-branch-clause-follows : goal.run_body-returns-then-branch-clause-follows
run_body-returns-then-branch-clause-follows g t c =
    let T = g.T.Tables.listed c.args.self.now.tables.now in
    let P = program_of T c.args.self.now.code.now in
    let levels = c.args.self.now.levels in
    let m = c.args.self.now.mode in
    let s = c.args.state.now in
    let a = c.in-Grouping in
    let u = c.pay_for.new.self in
    let new = c.take_grouping.new.self in
    let classes : map members c.deref.result.now ≡ P.groupings = ap (map members) c.deref.ensures.value ∙ ap (λ (x : Program). map members x.groupings.items) c.program.ensures in
    let test = λ (cs : List (ℕ → Bool)). test_grouping a.wanted (class_at cs a.grouping) a.grouping m u in
    let b : c.in_ok-take_grouping-in-Grouping.field-0 ≡ true = c.if-branch.true in
    let is = ap test (sym classes) ∙ c.in_ok-take_grouping-in-Grouping.ensures.follows ∙ ap (λ v. Signals v new) b in
    let whole = grouping_taken P levels T m no_cursors s c.args.body.now a.cost a.wanted a.grouping a.back a.next a.fail u new a.is c.in_ok-pay_for-in-Grouping.ensures.leads is in
    follows_at _ _ _ _ (whole ∙ sym (ap (λ x. flow P levels T x m no_cursors new) c.deref-then-branch.ensures)) c.run_from.ensures.follows

pub run_body-returns-then-branch-clause-no_more : goal.run_body-returns-then-branch-clause-no_more
run_body-returns-then-branch-clause-no_more g t c =
    let no_more : c.pay_for.new.self.steps ≤ c.args.state.now.steps = c.in_ok-pay_for-in-Grouping.ensures.no_more in
    let same : c.take_grouping.new.self.steps ≡ c.pay_for.new.self.steps = c.in_ok-take_grouping-in-Grouping.ensures.same_steps in
    no_more_than _ _ c.take_grouping.new.self.steps _ (omega (arith, same, no_more)) c.run_from.ensures.no_more

pub run_body-returns-else-branch-clause-follows : goal.run_body-returns-else-branch-clause-follows
run_body-returns-else-branch-clause-follows g t c =
    let T = g.T.Tables.listed c.args.self.now.tables.now in
    let P = program_of T c.args.self.now.code.now in
    let levels = c.args.self.now.levels in
    let m = c.args.self.now.mode in
    let s = c.args.state.now in
    let a = c.in-Grouping in
    let u = c.pay_for.new.self in
    let new = c.take_grouping.new.self in
    let classes : map members c.deref.result.now ≡ P.groupings = ap (map members) c.deref.ensures.value ∙ ap (λ (x : Program). map members x.groupings.items) c.program.ensures in
    let test = λ (cs : List (ℕ → Bool)). test_grouping a.wanted (class_at cs a.grouping) a.grouping m u in
    let b : c.in_ok-take_grouping-in-Grouping.field-0 ≡ false = c.if-branch.false in
    let is = ap test (sym classes) ∙ c.in_ok-take_grouping-in-Grouping.ensures.follows ∙ ap (λ v. Signals v new) b in
    let inside : new.cursor ≤ length new.text = omega (arith, c.place.ensures.value, c.place.ensures.within) in
    let whole = grouping_missed P levels T m no_cursors s c.args.body.now a.cost a.wanted a.grouping a.back a.next a.fail u new a.is c.in_ok-pay_for-in-Grouping.ensures.leads is inside in
    follows_at _ _ _ _ (whole ∙ sym (ap (λ x. flow P levels T x m no_cursors new) c.deref-in-Grouping.ensures)) c.run_exit.ensures.follows

pub run_body-returns-else-branch-clause-no_more : goal.run_body-returns-else-branch-clause-no_more
run_body-returns-else-branch-clause-no_more g t c =
    let no_more : c.pay_for.new.self.steps ≤ c.args.state.now.steps = c.in_ok-pay_for-in-Grouping.ensures.no_more in
    let same : c.take_grouping.new.self.steps ≡ c.pay_for.new.self.steps = c.in_ok-take_grouping-in-Grouping.ensures.same_steps in
    no_more_than _ _ c.take_grouping.new.self.steps _ (omega (arith, same, no_more)) c.run_exit.ensures.no_more

pub run_body-returns-then-take_character-clause-follows : goal.run_body-returns-then-take_character-clause-follows
run_body-returns-then-take_character-clause-follows g t c =
    let T = g.T.Tables.listed c.args.self.now.tables.now in
    let P = program_of T c.args.self.now.code.now in
    let levels = c.args.self.now.levels in
    let m = c.args.self.now.mode in
    let s = c.args.state.now in
    let a = c.in-Character in
    let u = c.pay_for-in-Character.new.self in
    let new = c.take_character.new.self in
    let is = c.take_character.ensures.leads ∙ ap (λ v. Signals v new) c.if-take_character.true in
    let whole = character_taken P levels T m no_cursors s c.args.body.now a.cost a.character a.back a.next a.fail u new a.is c.in_ok-pay_for-in-Character.ensures.leads is in
    follows_at _ _ _ _ (whole ∙ sym (ap (λ x. flow P levels T x m no_cursors new) c.deref-then-take_character.ensures)) c.run_from-then-take_character.ensures.follows

pub run_body-returns-then-take_character-clause-no_more : goal.run_body-returns-then-take_character-clause-no_more
run_body-returns-then-take_character-clause-no_more g t c =
    let no_more : c.pay_for-in-Character.new.self.steps ≤ c.args.state.now.steps = c.in_ok-pay_for-in-Character.ensures.no_more in
    let same : c.take_character.new.self.steps ≡ c.pay_for-in-Character.new.self.steps = c.take_character.ensures.same_steps in
    no_more_than _ _ c.take_character.new.self.steps _ (omega (arith, same, no_more)) c.run_from-then-take_character.ensures.no_more

pub run_body-returns-else-take_character-clause-follows : goal.run_body-returns-else-take_character-clause-follows
run_body-returns-else-take_character-clause-follows g t c =
    let T = g.T.Tables.listed c.args.self.now.tables.now in
    let P = program_of T c.args.self.now.code.now in
    let levels = c.args.self.now.levels in
    let m = c.args.self.now.mode in
    let s = c.args.state.now in
    let a = c.in-Character in
    let u = c.pay_for-in-Character.new.self in
    let new = c.take_character.new.self in
    let is = c.take_character.ensures.leads ∙ ap (λ v. Signals v new) c.if-take_character.false in
    let inside : new.cursor ≤ length new.text = omega (arith, c.place-in-Character.ensures.value, c.place-in-Character.ensures.within) in
    let whole = character_missed P levels T m no_cursors s c.args.body.now a.cost a.character a.back a.next a.fail u new a.is c.in_ok-pay_for-in-Character.ensures.leads is inside in
    follows_at _ _ _ _ (whole ∙ sym (ap (λ x. flow P levels T x m no_cursors new) c.deref-in-Character.ensures)) c.run_exit-in-Character.ensures.follows

pub run_body-returns-else-take_character-clause-no_more : goal.run_body-returns-else-take_character-clause-no_more
run_body-returns-else-take_character-clause-no_more g t c =
    let no_more : c.pay_for-in-Character.new.self.steps ≤ c.args.state.now.steps = c.in_ok-pay_for-in-Character.ensures.no_more in
    let same : c.take_character.new.self.steps ≡ c.pay_for-in-Character.new.self.steps = c.take_character.ensures.same_steps in
    no_more_than _ _ c.take_character.new.self.steps _ (omega (arith, same, no_more)) c.run_exit-in-Character.ensures.no_more

pub run_body-returns-in_ok-pay_for-in-LeftBracket-clause-follows : goal.run_body-returns-in_ok-pay_for-in-LeftBracket-clause-follows
run_body-returns-in_ok-pay_for-in-LeftBracket-clause-follows g t c =
    let T = g.T.Tables.listed c.args.self.now.tables.now in
    let P = program_of T c.args.self.now.code.now in
    let levels = c.args.self.now.levels in
    let m = c.args.self.now.mode in
    let s = c.args.state.now in
    let a = c.in-LeftBracket in
    let new = c.left_bracket.new.self in
    let whole = left_bracketed P levels T m no_cursors s c.args.body.now a.cost a.next c.pay_for-in-LeftBracket.new.self new a.is c.in_ok-pay_for-in-LeftBracket.ensures.leads c.left_bracket.ensures in
    follows_at _ _ _ _ (whole ∙ sym (ap (λ x. flow P levels T x m no_cursors new) c.deref-in-LeftBracket.ensures)) c.run_bracketed.ensures.follows

pub run_body-returns-in_ok-pay_for-in-LeftBracket-clause-no_more : goal.run_body-returns-in_ok-pay_for-in-LeftBracket-clause-no_more
run_body-returns-in_ok-pay_for-in-LeftBracket-clause-no_more g t c =
    let u = c.pay_for-in-LeftBracket.new.self in
    let new = c.left_bracket.new.self in
    let no_more : u.steps ≤ c.args.state.now.steps = c.in_ok-pay_for-in-LeftBracket.ensures.no_more in
    let same : new.steps ≡ u.steps = ap (λ (x : State). x.steps) c.left_bracket.ensures ∙ left_steps c.args.self.now.mode u in
    no_more_than _ _ new.steps _ (omega (arith, same, no_more)) c.run_bracketed.ensures.no_more

pub run_bracketed-returns-in_err-pay_all-in-Search-clause-follows : goal.run_bracketed-returns-in_err-pay_all-in-Search-clause-follows
run_bracketed-returns-in_err-pay_all-in-Search-clause-follows g t c =
    let T = g.T.Tables.listed c.args.self.now.tables.now in
    let P = program_of T c.args.self.now.code.now in
    let levels = c.args.self.now.levels in
    let m = c.args.self.now.mode in
    let s = c.args.state.now in
    let at = c.args.at.now in
    let a = c.in-Search in
    let halt = c.in_err-pay_all-in-Search.field-0.0 in
    let r : c.from_residual.result ≡ Err halt = search rules in
    search_unpaid P levels T m no_cursors s at _ halt c.pay_all.new.state a.cost a.among a.site a.next a.fail r a.is c.in_err-pay_all-in-Search.ensures.leads

pub run_bracketed-returns-in_err-run_search_all-in-Search-clause-follows : goal.run_bracketed-returns-in_err-run_search_all-in-Search-clause-follows
run_bracketed-returns-in_err-run_search_all-in-Search-clause-follows g t c =
    let T = g.T.Tables.listed c.args.self.now.tables.now in
    let P = program_of T c.args.self.now.code.now in
    let levels = c.args.self.now.levels in
    let m = c.args.self.now.mode in
    let s = c.args.state.now in
    let at = c.args.at.now in
    let a = c.in-Search in
    let u = c.pay_all.new.state in
    let new = c.run_search_all.new.state in
    let x = c.deref.result.now in
    let f = flow P levels T a.next.value m no_cursors in
    let e = flow P levels T a.fail.value m no_cursors in
    let whole = search_exits P levels T m no_cursors s at a.cost a.among a.site a.next a.fail x u a.is c.deref.ensures c.in_ok-pay_all-in-Search.ensures.leads in
    let halt = c.in_err-run_search_all-in-Search.field-0.0 in
    let r : c.from_residual-in_err-run_search_all-in-Search.result ≡ Err halt = search rules in
    ends_early _ halt new _ (search_all (calls P levels) a.among x.entries.items (T x.table) m u) f e r whole c.in_err-run_search_all-in-Search.ensures.follows

pub run_bracketed-returns-then-branch-clause-follows : goal.run_bracketed-returns-then-branch-clause-follows
run_bracketed-returns-then-branch-clause-follows g t c =
    let T = g.T.Tables.listed c.args.self.now.tables.now in
    let P = program_of T c.args.self.now.code.now in
    let levels = c.args.self.now.levels in
    let m = c.args.self.now.mode in
    let s = c.args.state.now in
    let at = c.args.at.now in
    let a = c.in-Search in
    let u = c.pay_all.new.state in
    let new = c.run_search_all.new.state in
    let x = c.deref.result.now in
    let f = flow P levels T a.next.value m no_cursors in
    let e = flow P levels T a.fail.value m no_cursors in
    let whole = search_exits P levels T m no_cursors s at a.cost a.among a.site a.next a.fail x u a.is c.deref.ensures c.in_ok-pay_all-in-Search.ensures.leads in
    let b : c.in_ok-run_search_all-in-Search.field-0 ≡ true = c.if-branch.true in
    let h = whole ∙ ap (λ r. after r f e) (c.in_ok-run_search_all-in-Search.ensures.follows ∙ ap (λ v. Signals v new) b) in
    follows_at _ _ _ _ (h ∙ sym (ap (λ i. flow P levels T i m no_cursors new) c.deref-then-branch.ensures)) c.run_from.ensures.follows

pub run_bracketed-returns-then-branch-clause-no_more : goal.run_bracketed-returns-then-branch-clause-no_more
run_bracketed-returns-then-branch-clause-no_more g t c =
    let u = c.pay_all.new.state in
    let new = c.run_search_all.new.state in
    let fewer : u.steps < c.args.state.now.steps = c.in_ok-pay_all-in-Search.ensures.fewer in
    let no_more : new.steps ≤ u.steps = c.in_ok-run_search_all-in-Search.ensures.no_more in
    no_more_than _ _ new.steps _ (omega (arith, no_more, fewer)) c.run_from.ensures.no_more

pub run_bracketed-returns-else-branch-clause-follows : goal.run_bracketed-returns-else-branch-clause-follows
run_bracketed-returns-else-branch-clause-follows g t c =
    let T = g.T.Tables.listed c.args.self.now.tables.now in
    let P = program_of T c.args.self.now.code.now in
    let levels = c.args.self.now.levels in
    let m = c.args.self.now.mode in
    let s = c.args.state.now in
    let at = c.args.at.now in
    let a = c.in-Search in
    let u = c.pay_all.new.state in
    let new = c.run_search_all.new.state in
    let x = c.deref.result.now in
    let f = flow P levels T a.next.value m no_cursors in
    let e = flow P levels T a.fail.value m no_cursors in
    let whole = search_exits P levels T m no_cursors s at a.cost a.among a.site a.next a.fail x u a.is c.deref.ensures c.in_ok-pay_all-in-Search.ensures.leads in
    let b : c.in_ok-run_search_all-in-Search.field-0 ≡ false = c.if-branch.false in
    let h = whole ∙ ap (λ r. after r f e) (c.in_ok-run_search_all-in-Search.ensures.follows ∙ ap (λ v. Signals v new) b) in
    follows_at _ _ _ _ (h ∙ sym (ap (λ i. flow P levels T i m no_cursors new) c.deref-in-Search.ensures)) c.run_exit.ensures.follows

pub run_bracketed-returns-else-branch-clause-no_more : goal.run_bracketed-returns-else-branch-clause-no_more
run_bracketed-returns-else-branch-clause-no_more g t c =
    let u = c.pay_all.new.state in
    let new = c.run_search_all.new.state in
    let fewer : u.steps < c.args.state.now.steps = c.in_ok-pay_all-in-Search.ensures.fewer in
    let no_more : new.steps ≤ u.steps = c.in_ok-run_search_all-in-Search.ensures.no_more in
    no_more_than _ _ new.steps _ (omega (arith, no_more, fewer)) c.run_exit.ensures.no_more
