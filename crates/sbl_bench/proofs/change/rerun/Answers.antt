use Rattle.std.proofs.Common.{◌≡◌, ◌∙◌, ℕ, List, Bor, length, map, ap, sym, subst}
use Rattle.std.proofs.lemmas.List.{length-map}
use Rattle.std.proofs.lemmas.Result.{err_from_is_err_and}
use Rattle.std.specs.List.{All}
use Rattle.sbl_bench.specs.inside.Changes.{affected_of, met_words}
use Rattle.sbl_bench.specs.inside.Stops.{IsStopOf}
use Rattle.sbl_bench.specs.KeptRuns.{IsWord}
use Rattle.sbl_bench.proofs.Meeting.{met_sound}
use Rattle.sbl_bench.proofs.change.rerun.Goals as goal

pub run_words-requires-clause-sound : goal.run_words-requires-clause-sound
run_words-requires-clause-sound g c =
    subst (All IsWord) (sym (ap (map (λ (w : Bor (List ℕ)). w.now)) c.deref.ensures.value ∙ c.in_ok-words.ensures.words))
    (met_sound (affected_of c.args.affected.now) c.args.traces.now.entries c.requires.sound)

pub returns-in_err-changes-clause-stop : goal.returns-in_err-changes-clause-stop
returns-in_err-changes-clause-stop g c =
    let f = err_from_is_err_and c.from_residual-in_err-changes.result c.from_residual-in_err-changes.ensures.1 in
    let e = c.in_err-changes.field-0.0 in
    let met = met_words (affected_of c.args.affected.now) c.args.traces.now.entries in
    let same : length c.deref.result.now ≡ length met =
    sym (length-map c.deref.result.now (λ (w : Bor (List ℕ)). w.now)) ∙ ap (λ (ws : List (Bor (List ℕ))). length (map (λ (w : Bor (List ℕ)). w.now) ws)) c.deref.ensures.value
    ∙ ap length c.in_ok-words.ensures.words in
    rw (f.1, f.2) (subst (λ (n : ℕ). IsStopOf n e c.args.meter.now c.run_words.new.meter) same c.in_err-changes.ensures.stop)
