use Rattle.std.proofs.Common.{◌≡◌, ◌∙◌, List, ℕ, ap, sym}
use Rattle.std.specs.Option.{option_or}
use Rattle.std.proofs.lemmas.List.{nil_from_length}
use Rattle.sbl_rows.specs.declared.row.Row as declared
use Rattle.sbl_rows.specs.KnownOutcomes.{known_outcome}
use Rattle.sbl_rows.specs.ChangedRows.{outcome_in}
use Rattle.sbl_rows.specs.Rows.{view_rows}
use Rattle.sbl_rows.proofs.SetFacts.{row_known}
use Rattle.sbl_rows.proofs.outcomes.outcomes_of.Goals as goal

pub loop-row-preserved : goal.loop-row-preserved
loop-row-preserved c = λ word.
    row_known c.next.new.self.iter.rest.now c.in-Some.row.now c.loop-row.outcomes c.insert.new.self word c.in_ok-insert.ensures.updates
    ∙ ap (λ (rows : List declared.Row). option_or (outcome_in (view_rows rows) word) (known_outcome c.loop-row.outcomes word)) (sym c.in-Some.ensures.steps)
    ∙ c.loop-row.invariant word

pub returns : goal.returns
returns c = λ i word. all word i
  where
    all : (word : List ℕ) → known_outcome c.loop-row.outcomes word ≡ outcome_in (view_rows c.args.rows.now) word
    all word =
        ap (λ (rows : List declared.Row). option_or (outcome_in (view_rows rows) word) (known_outcome c.loop-row.outcomes word)) (sym (nil_from_length c.loop-row.row-iterator.iter.rest.now c.in-None.ensures.steps.0))
        ∙ c.loop-row.invariant word
