-- The lines of one more integer variable.
use Rattle.std.proofs.Common.{◌≡◌, ◌∙◌, ◌++◌, ◌+◌, ◌<◌, ℕ, ℤ, suc, List, ap, sym, append_assoc, length, drop, arith}
use Rattle.std.specs.Prelude.{slice_index_or}
use Rattle.std.proofs.Math.Seq.{drop-cons}
use Rattle.sbl_io.specs.Records.{record_line, records_text}
use Rattle.sbl_explain.specs.Integers.{value_row, value_rows}

add_one : (i : ℕ) → i + 1 ≡ suc i
add_one i = omega arith

pub one_more : (names : List (List ℕ)) (values : List ℤ) (i : ℕ) (d v : ℤ) (out more all : List ℕ) → i < length values →
    v ≡ slice_index_or values i d →
    more ≡ out ++ record_line (value_row names i v) →
    out ++ records_text (value_rows names i (drop i values)) ≡ all →
    more ++ records_text (value_rows names (i + 1) (drop (i + 1) values)) ≡ all
one_more names values i d v out more all lt is step so_far =
    ap (λ (t : List ℕ). t ++ records_text (value_rows names (i + 1) (drop (i + 1) values))) (step ∙ ap (λ (x : ℤ). out ++ record_line (value_row names i x)) is)
    ∙ ap (λ (k : ℕ). (out ++ line) ++ records_text (value_rows names k (drop k values))) (add_one i)
    ∙ append_assoc out line (records_text (value_rows names (suc i) (drop (suc i) values)))
    ∙ ap (λ (vs : List ℤ). out ++ records_text (value_rows names i vs)) (sym (drop-cons values i d lt))
    ∙ so_far where
      line : List ℕ
      line = record_line (value_row names i (slice_index_or values i d))
