-- Rows that are written one after another.
use Rattle.std.proofs.Common.{length, ◌<◌, ◌++◌, ◌≡◌, ◌+◌, ℕ, List, [], ◌∷◌, None, Some, arith, sym, map, slice_get, suc, take}
use Prim.Native.Nat.{zero}
use Rattle.std.proofs.lemmas.Option.{get_or_from_slice_get, slice_get_within}
use Rattle.sbl_rows.specs.Rows.{Row}
use Rattle.sbl_io.specs.Records.{record_line, records_text}
use Rattle.sbl_records.specs.RowRecords.{row_fields}
use Rattle.sbl_records.proofs.RecordFacts.{records_more}

-- one more row
pub row_more : (rows : List Row) (i : ℕ) (row : Row) → slice_get rows i ≡ Some row
    → records_text (map row_fields (take i rows)) ++ record_line (row_fields row) ≡ records_text (map row_fields (take (i + 1) rows))
row_more rows i row at = records_more row_fields rows i row (slice_get_within rows i row at) (sym (get_or_from_slice_get rows i row row at))

pub no_row : {X : Type 0} (xs : List X) (i : ℕ) → i < length xs → slice_get xs i ≡ None → ⊥
no_row [] i inside none = omega (arith, inside)
no_row (x ∷ xs) zero inside none = cc none
no_row (x ∷ xs) (suc i) inside none = no_row xs i (omega (arith, inside)) none
