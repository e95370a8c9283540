use Rattle.std.proofs.Common.{◌≡◌, ◌<◌, ◌∙◌, ◌+◌, ◌-◌, ◌++◌, ◌∷◌, [], ℕ, List, Result, Ok, Err, OnErr, length, drop, get_or, arith, ap, inr, refl, sym}
use Rattle.std.proofs.lemmas.Result.{err_from_is_err_and}
use Rattle.sbl_rows.specs.Classes.{texts_of}
use Rattle.sbl_rows.specs.KnownOutcomes.{Text}
use Rattle.sbl_rows.specs.Setting.{under}
use Rattle.sbl_rows.proofs.Loops.{next, so_far}
use Rattle.sbl_rows.proofs.SetFacts.{no_text}
use Rattle.sbl_last_runs.specs.KeptEntries.{words_in}
use Rattle.sbl_bench.specs.inside.WordLists.{new_words, runs_of_word}
use Rattle.sbl_bench.proofs.Breaking.{cut_more, cut_stops, told_more}
use Rattle.sbl_bench.proofs.Listing.{new_after, new_count_at, sound_at}
use Rattle.sbl_bench.proofs.replace_words.runs_of.Goals as goal

-- the word at a place, and the runs that it and the words after it need
runs_left : (before : List (List ℕ)) (words : List Text) (i : ℕ) → i < length words
    → length (new_words before (texts_of (drop i words))) ≡ runs_of_word before (get_or words i no_text).now + length (new_words before (texts_of (drop (i + 1) words)))
runs_left before words i below = new_count_at before (texts_of (drop i words)) (texts_of (drop (i + 1) words)) (get_or words i no_text).now (next (λ (t : Text). t.now) words i no_text (get_or words i no_text) below refl)

pub run_of-requires-clause-sound : goal.run_of-requires-clause-sound
run_of-requires-clause-sound g c = sound_at (λ (t : Text). t.now) c.args.words.now c.loop-word.word-index _ c.requires.sound c.loop-word-test.true

pub run_of-requires-clause-room : goal.run_of-requires-clause-room
run_of-requires-clause-room g c =
    let left = runs_left (words_in c.args.before.now.entries) c.args.words.now c.loop-word.word-index c.loop-word-test.true in
    let so = c.loop-word.invariant.counted in
    let few = c.if-left-needed.false in
    let needed = c.count_new-needed.ensures in
    omega arith

pub put-requires : goal.put-requires
put-requires g c = new_after (λ (t : Text). t.now) c.args.words.now c.loop-word.word-index no_text (words_in c.loop-word.traces.entries) c.requires.distinct c.loop-word-test.true c.loop-word.invariant.words

pub loop-word-preserved : goal.loop-word-preserved
loop-word-preserved g c =
    let es = words_in c.args.before.now.entries in
    let i = c.loop-word.word-index in
    let below = c.loop-word-test.true in
    let left = runs_left es c.args.words.now i below in
    let one = c.in_ok-last.ensures.counted in
    record {
      words = c.in_ok-put.ensures.words ∙ ap (λ (ws : List (List ℕ)). ws ++ (get_or c.args.words.now i no_text).now ∷ []) c.loop-word.invariant.words ∙ sym (so_far (λ (t : Text). t.now) c.args.words.now i no_text below);
      fresh = λ s made old. c.in_ok-put.ensures.kept (under s c.args.limit) (c.loop-word.invariant.fresh s made old) (c.in_ok-last.ensures.fresh s made old);
      counted = (let so = c.loop-word.invariant.counted in omega arith);
      more = (let so = c.loop-word.invariant.more in omega arith);
      untold = c.in_ok-last.ensures.untold ∙ c.loop-word.invariant.untold;
    }

pub returns-in_err-last-clause-stop : goal.returns-in_err-last-clause-stop
returns-in_err-last-clause-stop g c =
    let f = err_from_is_err_and c.from_residual-in_err-last.result c.from_residual-in_err-last.ensures.1 in
    let left = runs_left (words_in c.args.before.now.entries) c.args.words.now c.loop-word.word-index c.loop-word-test.true in
    let so = c.loop-word.invariant.counted in
    let more = c.loop-word.invariant.more in
    let es = words_in c.args.before.now.entries in
    let w = get_or c.args.words.now c.loop-word.word-index no_text in
    let e = c.in_err-last.field-0.0 in
    let few = c.if-left-needed.false in
    let count = c.count_new-needed.ensures in
    let needed = length (new_words es (texts_of c.args.words.now)) in
    rw (f.1, f.2) (cut_stops e needed c.args.meter.now c.run_of.new.meter (omega arith)
    (cut_more e (runs_of_word es w.now) needed c.args.meter.now c.loop-word.meter c.run_of.new.meter more (omega arith) c.in_err-last.ensures.cut))

pub returns-in_err-last-clause-told : goal.returns-in_err-last-clause-told
returns-in_err-last-clause-told g c =
    let f = err_from_is_err_and c.from_residual-in_err-last.result c.from_residual-in_err-last.ensures.1 in
    rw (f.1, f.2) (told_more c.in_err-last.field-0.0 _ _ _ c.loop-word.invariant.untold c.in_err-last.ensures.told)

pub returns-in_err-put-clause-stop : goal.returns-in_err-put-clause-stop
returns-in_err-put-clause-stop g c =
    let f = err_from_is_err_and c.from_residual-in_err-put.result c.from_residual-in_err-put.ensures.1 in
    let is = c.in_ok-last.ensures.counted in
    let few = c.if-left-needed.false in
    let needed = c.count_new-needed.ensures in
    let left = runs_left (words_in c.args.before.now.entries) c.args.words.now c.loop-word.word-index c.loop-word-test.true in
    let so = c.loop-word.invariant.counted in
    let more = c.loop-word.invariant.more in
    rw (f.1, f.2) (inr (c.run_of.new.meter - c.args.meter.now, omega arith, omega arith, omega arith))

pub returns-in_err-put-clause-told : goal.returns-in_err-put-clause-told
returns-in_err-put-clause-told g c =
    let f = err_from_is_err_and c.from_residual-in_err-put.result c.from_residual-in_err-put.ensures.1 in
    rw (f.1, f.2) (c.in_ok-last.ensures.untold ∙ c.loop-word.invariant.untold)
