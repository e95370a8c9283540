use Rattle.std.proofs.Common.{◌+◌, ◌∙◌, ℕ, IfErr, arith, ap, subst, sym}
use Rattle.std.proofs.lemmas.Result.{on_ok_weaker}
use Rattle.sbl_rows.specs.Setting.{under}
use Rattle.sbl_last_runs.specs.KeptEntries.{words_in}
use Rattle.sbl_bench.specs.inside.Stops.{IsCut}
use Rattle.sbl_bench.proofs.Listing.{no_run_of, one_run_of}
use Rattle.sbl_last_runs.proofs.Entries.{fresh_found}
use Rattle.sbl_bench.proofs.Tracing.{is_there, not_there}
use Rattle.sbl_bench.proofs.replace_words.run_of.Goals as goal

pub run_or_break-requires-clause-room : goal.run_or_break-requires-clause-room
run_or_break-requires-clause-room g c =
    let es = c.args.before.now.entries in
    let one = one_run_of (words_in es) c.args.word.now (not_there c.args.word.now es c.in-None.ensures.value) in
    let room = c.requires.room in
    omega arith

pub returns-in-Ok-clause-fresh : goal.returns-in-Ok-clause-fresh
returns-in-Ok-clause-fresh g c s made old =
    let es = c.args.before.now.entries in
    let f = fresh_found (under s c.args.limit) c.args.word.now es c.in-Some.last.now old c.in-Some.ensures.value in
    record { outcome = c.in-Ok.ensures.outcome ∙ f.outcome; touches = c.in-Ok.ensures.touches ∙ f.touches; used = c.in-Ok.ensures.used ∙ f.used }

pub returns-in-Ok-clause-counted : goal.returns-in-Ok-clause-counted
returns-in-Ok-clause-counted g c =
    let es = c.args.before.now.entries in
    let none = no_run_of (words_in es) c.args.word.now (is_there c.args.word.now es c.in-Some.last.now c.in-Some.ensures.value) in
    omega arith

pub returns-in-Err-clause-cut : goal.returns-in-Err-clause-cut
returns-in-Err-clause-cut g c = (0, omega arith, omega arith)

pub returns-in-None-clause-counted : goal.returns-in-None-clause-counted
returns-in-None-clause-counted g c =
    let es = c.args.before.now.entries in
    let one = one_run_of (words_in es) c.args.word.now (not_there c.args.word.now es c.in-None.ensures.value) in
    on_ok_weaker c.run_or_break.result (λ e. e ∙ ap (λ (n : ℕ). c.args.meter.now + n) (sym one)) c.run_or_break.ensures.counted

pub returns-in-None-clause-cut : goal.returns-in-None-clause-cut
returns-in-None-clause-cut g c =
    let es = c.args.before.now.entries in
    let one = one_run_of (words_in es) c.args.word.now (not_there c.args.word.now es c.in-None.ensures.value) in
    subst (λ (n : ℕ). IfErr c.run_or_break.result (λ f. IsCut n f c.args.meter.now c.run_or_break.new.meter)) (sym one) c.run_or_break.ensures.cut
