-- The first 256 characters of a word say whether it is in a vocabulary.
use Rattle.std.proofs.Common.{◌≡◌, ◌⊎◌, inl, inr, ◌∙◌, ◌≤◌, ◌<◌, ℕ, Bool, true, false, List, [], ◌∷◌, length, take, Some, None, Result, Ok, Err, All, refl, sym, ap, subst, arith, nat_lt, length-take, slice_index_or}
use Rattle.std.proofs.lemmas.Bool.Decides.{nat_tests}
use Rattle.std.proofs.lemmas.List.{take_all}
use Rattle.std.proofs.lemmas.List.Folds.{list_any_none}
use Rattle.std.proofs.lemmas.Slice.Eq.{bytes_eq-Decides}
use Rattle.std.specs.List.{find}
use Rattle.std.specs.Str.{bytes_eq}
use Rattle.sbl_bench.specs.Contents.{Contents}
use Rattle.sbl_bench.specs.Edits.{Edits, Remove, BeforeEdit, During, IsAccepted, IsMeterFull, IsOutOfMemory, IsRefused, IsVerdict}
use Rattle.sbl_bench.specs.KeptRuns.{IsWord}
use Rattle.sbl_rows.specs.Rows.{Row, rows_of}
use Rattle.sbl_rows.specs.Setting.{Setting}
use Rattle.sbl_bench.specs.Traces.{trace_of}
use Rattle.sbl_bench.specs.Vocabulary.{is_word}
use Rattle.sbl_bench.specs.declared.fault.EditFault.{EditFault}
use Rattle.sbl_bench.specs.declared.fault.EditFault.TheVariants as fault

-- no word of a vocabulary is so long
absent : (words : List (List ℕ)) → All IsWord words → (word : List ℕ) → 255 < length word → is_word word words ≡ false
absent words fit word long = list_any_none (bytes_eq word) words (λ k d within. other (slice_index_or words k d) (fit k d within))
  where
    other : (w : List ℕ) → IsWord w → bytes_eq word w ≡ false
    other w is = by (bytes_eq word w) refl
      where
        by : (b : Bool) → bytes_eq word w ≡ b → bytes_eq word w ≡ false
        by true e = let same : length word ≡ length w = ap length ((bytes_eq-Decides word w).0 e) in absurd (omega (arith, same, is.1, long))
        by false e = e

-- the first characters are the whole word, or neither is there
pub data Looks (words : List (List ℕ)) (word : List ℕ) : Type 0 where
  Whole : take 256 word ≡ word → Looks words word
  Neither : is_word word words ≡ false → is_word (take 256 word) words ≡ false → Looks words word

pub looks : (words : List (List ℕ)) → All IsWord words → (word : List ℕ) → Looks words word
looks words fit word = by (nat_lt 255 (length word)) refl
  where
    by : (b : Bool) → nat_lt 255 (length word) ≡ b → Looks words word
    by true e =
        let long : 255 < length word = grind (arith, nat_tests) in
        let cut : 255 < length (take 256 word) = rw length-take (omega (arith, long)) in
        Neither (absent words fit word long) (absent words fit (take 256 word) cut)
    by false e = let short : length word ≤ 255 = grind (arith, nat_tests) in Whole (take_all 256 word (omega (arith, short)))

-- what is taken of a word, in room for 256 characters
pub first_taken : (n : ℕ) (room word : List ℕ) → length room ≡ 256 → take n room ≡ take (length room) word → take n room ≡ take 256 word
first_taken n room word is taken = subst (λ (m : ℕ). take n room ≡ take m word) is taken

-- ---- the trace

pub trace_first : (s : Setting) (words : List (List ℕ)) (word : List ℕ) → Looks words word → trace_of s words (take 256 word) ≡ trace_of s words word
trace_first s words word (Whole same) = ap (trace_of s words) same
trace_first s words word (Neither none cut) = rw (none, cut) refl

pub there_first : (words : List (List ℕ)) (word : List ℕ) → Looks words word → is_word (take 256 word) words ≡ is_word word words
there_first words word (Whole same) = ap (λ (w : List ℕ). is_word w words) same
there_first words word (Neither none cut) = cut ∙ sym none

-- ---- the row

no_row : (s : Setting) (words : List (List ℕ)) (word : List ℕ) → is_word word words ≡ false → find (λ (r : Row). bytes_eq word r.word) (rows_of s words) ≡ None
no_row s [] word none = refl
no_row s (w ∷ words) word none = by (λ rest. no_row s words word rest) (bytes_eq word w) refl
  where
    by : (is_word word words ≡ false → find (λ (r : Row). bytes_eq word r.word) (rows_of s words) ≡ None) → (b : Bool) → bytes_eq word w ≡ b
        → find (λ (r : Row). bytes_eq word r.word) (rows_of s (w ∷ words)) ≡ None
    by more true e = let no : true ≡ false = (rw e at none) in absurd (cc no)
    by more false e = let rest : is_word word words ≡ false = (rw e at none) in rw e (more rest)

pub row_first : (s : Setting) (words : List (List ℕ)) (word : List ℕ) → Looks words word
    → find (λ (r : Row). bytes_eq (take 256 word) r.word) (rows_of s words) ≡ find (λ (r : Row). bytes_eq word r.word) (rows_of s words)
row_first s words word (Whole same) = ap (λ (w : List ℕ). find (λ (r : Row). bytes_eq w r.word) (rows_of s words)) same
row_first s words word (Neither none cut) = no_row s words (take 256 word) cut ∙ sym (no_row s words word none)

-- a word that has a row is whole
pub whole_of : (s : Setting) (words : List (List ℕ)) (word : List ℕ) (row : Row) → Looks words word → Some row ≡ find (λ (r : Row). bytes_eq word r.word) (rows_of s words) → take 256 word ≡ word
whole_of s words word row (Whole same) here = same
whole_of s words word row (Neither none cut) here = let no : Some row ≡ None = here ∙ no_row s words word none in absurd (cc no)

-- ---- the removal

verdict_absent : (s t : Contents) (word cut : List ℕ) (f : EditFault) → is_word word s.words ≡ false → IsVerdict s (Remove cut) (Some f) t
    → is_word cut s.words ≡ false → IsVerdict s (Remove word) (Some f) t
verdict_absent s t word cut f none h missing = by h.0
  where
    by : IsRefused s (Remove cut) f ⊎ IsMeterFull s (Remove cut) f → IsVerdict s (Remove word) (Some f) t
    by (inl is) = (inl (none, is.1), h.1)
    by (inr m) = let no : true ≡ false = sym m.1.0 ∙ missing in absurd (cc no)

not_removed : (s t : Contents) (cut : List ℕ) → is_word cut s.words ≡ false → IsAccepted s (Remove cut) t → ⊥
not_removed s t cut missing h = let no : true ≡ false = sym h.after.0 ∙ missing in cc no

no_memory : (s t : Contents) (cut : List ℕ) → IsOutOfMemory s (Remove cut) t → ⊥
no_memory s t cut (BeforeEdit wanted passes same) = wanted cut refl
no_memory s t cut (During wanted made is n few same) = wanted cut refl

removes_absent : (r : Result (Unit {0}) EditFault) (s t : Contents) (word cut : List ℕ) → is_word word s.words ≡ false → is_word cut s.words ≡ false
    → Edits r s (Remove cut) t → Edits r s (Remove word) t
removes_absent (Ok u) s t word cut none missing h = absurd (not_removed s t cut missing h)
removes_absent (Err fault.OutOfMemory) s t word cut none missing h = absurd (no_memory s t cut h)
removes_absent (Err f) s t word cut none missing h = verdict_absent s t word cut f none h missing

pub removes_first : (r : Result (Unit {0}) EditFault) (s t : Contents) (word : List ℕ) → Looks s.words word → Edits r s (Remove (take 256 word)) t → Edits r s (Remove word) t
removes_first r s t word (Whole same) h = subst (λ (w : List ℕ). Edits r s (Remove w) t) same h
removes_first r s t word (Neither none cut) h = removes_absent r s t word (take 256 word) none cut h
