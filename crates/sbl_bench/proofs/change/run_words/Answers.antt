use Rattle.std.proofs.Common.{◌∙◌, ◌-◌, ◌+◌, ◌++◌, ◌∷◌, [], ℕ, List, Bor, arith, length, get_or, map, ap, inr, refl}
use Rattle.std.proofs.lemmas.List.{length-drop}
use Rattle.std.proofs.lemmas.Result.{err_from_is_err_and}
use Rattle.sbl_bench.proofs.Breaking.{cut_more, cut_stops, told_more}
use Rattle.sbl_bench.proofs.Listing.{sound_at}
use Rattle.sbl_bench.proofs.Meeting.{run_is}
use Rattle.sbl_last_runs.specs.RunChanges.{Rerun, view_change}
use Rattle.sbl_bench.specs.inside.Changes.{rerun_of, reruns}
use Rattle.sbl_rows.proofs.Loops.{step_map}
use Rattle.sbl_rows.proofs.SetFacts.{no_text}
use Rattle.sbl_rows.specs.KnownOutcomes.{Text}
use Rattle.sbl_rows.specs.Setting.{under}
use Rattle.sbl_bench.proofs.change.run_words.Goals as goal

pub run_or_break-requires-clause-sound : goal.run_or_break-requires-clause-sound
run_or_break-requires-clause-sound g c = sound_at (λ (w : Bor (List ℕ)). w.now) c.args.words.now c.loop-word.word-index _ c.requires.sound c.loop-word-test.true

pub loop-word-preserved : goal.loop-word-preserved
loop-word-preserved g c =
    let words = c.args.words.now in
    let i = c.loop-word.word-index in
    let below = c.loop-word-test.true in
    let w = get_or words i no_text in
    let before = map view_change c.loop-word.changes.items in
    let d = length-drop i words in
    let e = length-drop (i + 1) words in
    let k = c.in_ok-last.ensures.counted in
    record {
      changes = λ s made.
          step_map (rerun_of (under s c.args.limit)) (λ (t : Text). t.now) words i no_text w before (map view_change c.push_change.new.changes.items)
          (reruns (under s c.args.limit) (map (λ (t : Text). t.now) words)) below refl
          (c.in_ok-push_change.ensures ∙ ap (λ (r : Rerun). before ++ r ∷ []) (run_is (under s c.args.limit) w.now c.in_ok-last.last (c.in_ok-last.ensures.fresh s made)))
          (c.loop-word.invariant.changes s made);
      counted = (let so = c.loop-word.invariant.counted in omega arith);
      more = (let so = c.loop-word.invariant.more in omega arith);
      untold = c.in_ok-last.ensures.untold ∙ c.loop-word.invariant.untold;
    }

pub returns-in_err-last-clause-stop : goal.returns-in_err-last-clause-stop
returns-in_err-last-clause-stop g c =
    let f = err_from_is_err_and c.from_residual.result c.from_residual.ensures.1 in
    let m = c.loop-word.invariant.counted in
    let n = c.loop-word.invariant.more in
    let t = c.loop-word-test.true in
    let d = length-drop c.loop-word.word-index c.args.words.now in
    let room = c.requires.room in
    let e = c.in_err-last.field-0.0 in
    rw (f.1, f.2) (cut_stops e (length c.args.words.now) c.args.meter.now c.run_or_break.new.meter (omega arith)
    (cut_more e 1 (length c.args.words.now) c.args.meter.now c.loop-word.meter c.run_or_break.new.meter n (omega arith) c.in_err-last.ensures.cut))

pub returns-in_err-last-clause-told : goal.returns-in_err-last-clause-told
returns-in_err-last-clause-told g c =
    let f = err_from_is_err_and c.from_residual.result c.from_residual.ensures.1 in
    rw (f.1, f.2) (told_more c.in_err-last.field-0.0 _ _ _ c.loop-word.invariant.untold c.in_err-last.ensures.told)

pub returns-in_err-push_change-clause-stop : goal.returns-in_err-push_change-clause-stop
returns-in_err-push_change-clause-stop g c =
    let f = err_from_is_err_and c.from_residual-in_err-push_change.result c.from_residual-in_err-push_change.ensures.1 in
    let k = c.in_ok-last.ensures.counted in
    let m = c.loop-word.invariant.counted in
    let n = c.loop-word.invariant.more in
    let t = c.loop-word-test.true in
    let d = length-drop c.loop-word.word-index c.args.words.now in
    let room = c.requires.room in
    rw (f.1, f.2) (inr (c.run_or_break.new.meter - c.args.meter.now, omega arith, omega arith, omega arith))

pub returns-in_err-push_change-clause-told : goal.returns-in_err-push_change-clause-told
returns-in_err-push_change-clause-told g c =
    let f = err_from_is_err_and c.from_residual-in_err-push_change.result c.from_residual-in_err-push_change.ensures.1 in
    rw (f.1, f.2) (c.in_ok-last.ensures.untold ∙ c.loop-word.invariant.untold)
