use Rattle.std.proofs.Common.{rules, ◌≡◌, ◌∷◌, [], ℕ, List, ap₂}
use Rattle.std.specs.Str.{encode_utf8_all}
use Rattle.sbl_rows.specs.Rows.{view_row}
use Rattle.sbl_semantics.specs.Outcome.{outcome_of}
use Rattle.sbl_records.specs.RowRecords.{outcome_fields, row_fields}
use Rattle.sbl_records.proofs.WriterFacts.{writes_same}
use Rattle.sbl_records.proofs.record_writer.RecordWriter.push.Goals as goal

pub returns : goal.returns
unfolding row_fields
returns c =
    let first : c.in_ok-word.word.now ≡ encode_utf8_all c.args.row.now.word.now = search rules in
    let rest : c.in_ok-kind.kind.now ∷ c.in_ok-kind.text.now ∷ [] ≡ outcome_fields (outcome_of c.args.row.now.outcome.now) = search rules in
    writes_same c.write_row.result (c.in_ok-word.word.now ∷ c.in_ok-kind.kind.now ∷ c.in_ok-kind.text.now ∷ []) (row_fields (view_row c.args.row.now)) _ _
    (ap₂ (λ (w : List ℕ) (fields : List (List ℕ)). w ∷ fields) first rest) c.write_row.ensures
