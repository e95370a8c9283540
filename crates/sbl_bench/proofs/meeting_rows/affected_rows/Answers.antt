use Rattle.std.proofs.Common.{rules, ◌≡◌, ◌∙◌, ◌++◌, ◌∷◌, [], ℕ, List, true, false, map, ap, sym}
use Rattle.sbl_rows.specs.Rows.{view_row}
use Rattle.sbl_bench.specs.inside.Changes.{affected_of, is_met}
use Rattle.sbl_last_runs.specs.ShownRows.{row_shown, run_row}
use Rattle.sbl_last_runs.specs.KeptEntries.{KeptWord}
use Rattle.sbl_bench.proofs.MeetingRows.{not_shown, one_shown}
use Rattle.sbl_bench.proofs.meeting_rows.affected_rows.Goals as goal

pub loop-word-preserved-in-Continue-1 : goal.loop-word-preserved-in-Continue-1
loop-word-preserved-in-Continue-1 c =
    let e : KeptWord = (c.in-Some.word.now, c.in-Some.last.now) in
    let split : c.loop-word.word-iterator ≡ e ∷ c.next.new.self = search (rules, c.in-Some.ensures.steps) in
    let met : is_met (affected_of c.args.affected.now) e ≡ true = sym c.is_affected.ensures ∙ c.if-is_affected.true in
    let before = map view_row c.loop-word.rows.items in
    let more : map view_row c.push_row.new.rows.items ≡ before ++ row_shown e ∷ [] =
    c.in_ok-push_row.ensures ∙ ap (λ (t : List ℕ). before ++ run_row t c.in-Some.last.now ∷ []) c.as_slice.ensures.value in
    one_shown (affected_of c.args.affected.now) before (map view_row c.push_row.new.rows.items) c.loop-word.word-iterator c.next.new.self c.args.traces.now.entries e c.loop-word.invariant split met more

pub loop-word-preserved : goal.loop-word-preserved
loop-word-preserved c =
    let e : KeptWord = (c.in-Some.word.now, c.in-Some.last.now) in
    let split : c.loop-word.word-iterator ≡ e ∷ c.next.new.self = search (rules, c.in-Some.ensures.steps) in
    let off : is_met (affected_of c.args.affected.now) e ≡ false = sym c.is_affected.ensures ∙ c.if-is_affected.false in
    not_shown (affected_of c.args.affected.now) (map view_row c.loop-word.rows.items) c.loop-word.word-iterator c.next.new.self c.args.traces.now.entries e c.loop-word.invariant split off
