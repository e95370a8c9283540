use Rattle.std.proofs.Common.{◌≡◌, ◌∙◌, ◌-◌, ℕ, List, ap, ap₂, length, map, subst, sym, take}
use Rattle.sbl_bench.specs.KeptRuns.{setting_of}
use Rattle.sbl_semantics.specs.Outcome.{outcome_of}
use Rattle.sbl_io.specs.Records.{records_text}
use Rattle.sbl_io.specs.Reports.{TakesMore}
use Rattle.sbl_semantics.specs.Events.{event_of}
use Rattle.sbl_semantics.specs.declared.event.Event.{Event}
use Rattle.sbl_uses.specs.Moments.{at_start}
use Rattle.sbl_explain.specs.WhyRows.{max_events, more_rows, routine_names, rows_from}
use Rattle.sbl_explain.proofs.WhyLines.{run_taken}
use Rattle.sbl_explain.proofs.why.push_run.Goals as goal

pub returns : goal.returns
returns g c =
    let has = g.T.Report.has_taken in
    let names = routine_names (setting_of c.args.bench.now) in
    let events = c.args.why.now.events.items in
    run_taken has names c.args.word.now (outcome_of c.args.why.now.outcome) events
    c.args.out.now c.push_events.new.out c.push_more.new.out c.push_outcome.new.out c.push_outcome.result
    (subst (λ (es : List Event). TakesMore has c.args.out.now c.push_events.new.out (records_text (rows_from names (at_start c.args.word.now) (map event_of es)))) shown c.in_ok-push_events.ensures)
    (subst (λ (n : ℕ). TakesMore has c.push_events.new.out c.push_more.new.out (records_text (more_rows n))) left c.in_ok-push_more.ensures)
    c.push_outcome.ensures where
      shown : c.first-shown.result.now ≡ take max_events c.args.why.now.events.items
      shown = c.first-shown.ensures ∙ ap (take max_events) c.as_slice.ensures.value

      left : c.saturating_sub.result ≡ length c.args.why.now.events.items - length (take max_events c.args.why.now.events.items)
      left = c.saturating_sub.ensures ∙ ap₂ (λ (m n : ℕ). m - n) (c.len.ensures ∙ sym c.as_slice.ensures.len ∙ ap length c.as_slice.ensures.value) (ap length shown)
