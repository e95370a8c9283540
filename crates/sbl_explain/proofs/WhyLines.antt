-- The lines of events, of the number of the others, and of the outcome are those of all rows.
use Rattle.std.proofs.Common.{◌≡◌, ◌∙◌, ◌++◌, ◌∷◌, ◌-◌, ℕ, List, [], refl, subst, sym, ap, ap₂, length, map, take}
use Rattle.std.proofs.lemmas.Grind.{flat_map-append}
use Rattle.std.proofs.lemmas.List.{append_assoc, append-nil, length-map, take-map}
use Rattle.sbl_semantics.specs.Outcome.{Outcome'}
use Rattle.sbl_io.specs.Records.{record_line, records_text}
use Rattle.sbl_semantics.specs.Events.{Event', event_of}
use Rattle.sbl_semantics.specs.declared.event.Event.{Event}
use Rattle.std.specs.Prelude.{OnOk, Result, Ok, Err}
use Rattle.std.specs.declared.alloc.AllocError.{AllocError}
use Rattle.sbl_io.specs.Reports.{TakesMore}
use Rattle.sbl_io.proofs.Taking.{Leaves, leaves-less, takes-same, takes-then}
use Rattle.sbl_uses.specs.Moments.{Moment, after, at_start}
use Rattle.sbl_explain.specs.WhyRows.{max_events, more_rows, outcome_row, row_of, rows_from, why_rows}

-- the three parts, given the events that have a row and the number of the others
abbrev parts : List (List ℕ) → List ℕ → Outcome' → List Event' → ℕ → List ℕ
parts names word o events k = (records_text (rows_from names (at_start word) events) ++ records_text (more_rows k)) ++ record_line (outcome_row o)

joined_records : (names : List (List ℕ)) (word : List ℕ) (o : Outcome') (events : List Event') (k : ℕ) →
    parts names word o events k ≡ records_text (rows_from names (at_start word) events ++ (more_rows k ++ outcome_row o ∷ []))
joined_records names word o events k =
    append_assoc (records_text (rows_from names (at_start word) events)) (records_text (more_rows k)) (record_line (outcome_row o))
    ∙ ap (λ (t : List ℕ). records_text (rows_from names (at_start word) events) ++ (records_text (more_rows k) ++ t)) (sym (append-nil (record_line (outcome_row o))))
    ∙ ap (λ (t : List ℕ). records_text (rows_from names (at_start word) events) ++ t) (sym (flat_map-append record_line (more_rows k) (outcome_row o ∷ [])))
    ∙ sym (flat_map-append record_line (rows_from names (at_start word) events) (more_rows k ++ outcome_row o ∷ []))

-- the same events and the same number, seen as the code has them
viewed_rows : (names : List (List ℕ)) (word : List ℕ) (o : Outcome') (events : List Event) →
    parts names word o (map event_of (take max_events events)) (length events - length (take max_events events))
    ≡ records_text (why_rows names word (map event_of events) o)
viewed_rows names word o events =
    ap₂ (parts names word o) (sym shown) (ap₂ (λ (m n : ℕ). m - n) (sym (length-map events event_of)) (sym (ap length shown ∙ length-map (take max_events events) event_of)))
    ∙ joined_records names word o (take max_events (map event_of events)) (length (map event_of events) - length (take max_events (map event_of events))) where
      shown : take max_events (map event_of events) ≡ map event_of (take max_events events)
      shown = take-map event_of max_events events

module _ {T : Type 0} (has_taken : T → List ℕ → Type 0) where
  -- a report takes the line of an event
  pub more_events : (names : List (List ℕ)) (m next : Moment) (e : Event') (events : List Event') (a y z : T) (whole : List ℕ) → next ≡ after e m
      → TakesMore has_taken y z (record_line (row_of names m e)) → Leaves has_taken a y (records_text (rows_from names m (e ∷ events))) whole
      → Leaves has_taken a z (records_text (rows_from names next events)) whole
  more_events names m next e events a y z whole are takes leaves =
      subst (λ (n : Moment). Leaves has_taken a z (records_text (rows_from names n events)) whole) (sym are)
      (leaves-less has_taken a y z (record_line (row_of names m e)) (records_text (rows_from names (after e m) events)) _ whole refl leaves takes)

  -- a report takes the lines of events, of the number of the others, and of the outcome
  pub run_taken : (names : List (List ℕ)) (word : List ℕ) (o : Outcome') (events : List Event) (w x y z : T) (r : Result (Unit {0}) AllocError)
      → TakesMore has_taken w x (records_text (rows_from names (at_start word) (map event_of (take max_events events))))
      → TakesMore has_taken x y (records_text (more_rows (length events - length (take max_events events))))
      → OnOk r (TakesMore has_taken y z (record_line (outcome_row o)))
      → OnOk r (TakesMore has_taken w z (records_text (why_rows names word (map event_of events) o)))
  run_taken names word o events w x y z (Err e) first more last = tt
  run_taken names word o events w x y z (Ok u) first more last =
      takes-same has_taken w z _ _ (viewed_rows names word o events) (takes-then has_taken w y z _ _ (takes-then has_taken w x y _ _ first more) last)
