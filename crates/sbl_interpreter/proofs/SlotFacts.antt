-- Cursors in slots.
use Rattle.std.proofs.Common.{◌≡◌, ◌≢◌, ◌⊎◌, inl, inr, ◌∙◌, ◌<◌, ℕ, List, length, map, sym, subst, ap, get_or-set_same, get_or-set_other}
use Rattle.std.specs.Prelude.{slice_set, slice_index_or}
use Rattle.std.proofs.lemmas.List.{map-set}
use Rattle.std.proofs.lemmas.Bool.{cases_eq}
use Rattle.sbl_semantics.specs.declared.cursor.SavedCursor.{SavedCursor}
use Rattle.sbl_run_state.specs.Endings.{IsSaved}
use Rattle.sbl_code.specs.Slots.{no_cursor}
use Rattle.sbl_interpreter.specs.PackedCursors.{unpacked_cursor}
use Rattle.sbl_interpreter.specs.declared.slots.PackedCursor.{PackedCursor}

-- a packed cursor is put into a slot
pub set_slot : (xs : List PackedCursor) (i : ℕ) (x : PackedCursor) (from : SavedCursor) → unpacked_cursor x ≡ from → map unpacked_cursor (slice_set xs i x) ≡ slice_set (map unpacked_cursor xs) i from
set_slot xs i x from is = map-set unpacked_cursor xs i x ∙ ap (slice_set (map unpacked_cursor xs) i) is

-- each slot has a saved cursor
pub saved_set : (xs : List SavedCursor) (i : ℕ) (from : SavedCursor) → i < length xs → IsSaved from → ((j : ℕ) → IsSaved (slice_index_or xs j no_cursor)) → (j : ℕ) → IsSaved (slice_index_or (slice_set xs i from) j no_cursor)
saved_set xs i from room saved all j = by (cases_eq j i)
  where
    by : (j ≡ i) ⊎ (j ≢ i) → IsSaved (slice_index_or (slice_set xs i from) j no_cursor)
    by (inl is) = subst (λ k. IsSaved (slice_index_or (slice_set xs i from) k no_cursor)) (sym is) (subst IsSaved (sym (get_or-set_same xs i from no_cursor room)) saved)
    by (inr other) = subst IsSaved (sym (get_or-set_other xs i j from no_cursor other)) (all j)
