-- Stems that are written as lines are read as the same stems.
use Rattle.std.proofs.Common.{◌≡◌, ◌∙◌, ◌<◌, ◌≤◌, ◌-◌, ◌+◌, ◌++◌, ◌==◌, ◌≢◌, ◌&&◌, not, cond, ℕ, suc, add-one, Bool, true, false, List, [], ◌∷◌, get_or, length, map, slice_get, take, Some, None, Result, Ok, Err, is_ok, MatchResult, arith, refl, sym, ap}
use Prim.Native.Nat.{zero}
use Rattle.std.specs.List.{flat_map, list_all, list_any}
use Rattle.std.specs.Str.{IsUtf8, NonePass, chars, encode_utf8_all, is_utf8}
use Rattle.std.specs.Char.{encode_utf8}
use Rattle.std.proofs.lemmas.Bool.{and_parts, or_parts}
use Rattle.std.proofs.lemmas.List.{append-nil, append_assoc, get_or-append_right, length-append, length-map}
use Rattle.std.proofs.lemmas.Str.{IsUtf8-from_is_utf8, NoCharPasses-byte, chars-encodes, inside_one, is_utf8-from_IsUtf8, length-encode, length-le-encodes}
use Rattle.std.specs.Str.Lines.{strip_carriage_return}
use Rattle.sbl_io.specs.inside.LineSteps.{NoFeed}
use Rattle.sbl_io.specs.LinesOf.{lines_of}
use Rattle.sbl_io.proofs.Bytes.{lines-feed, no_lines}
use Rattle.sbl_rows.specs.Changes.{changes_of}
use Rattle.sbl_rows.specs.ChangesAreSound.{EqualListsHaveNoChanges}
use Rattle.sbl_rows.specs.Rows.{Row}
use Rattle.sbl_rows.specs.StemRows.{rows_with}
use Rattle.sbl_semantics.specs.Outcome.{Outcome', Stem, Refused}
use Rattle.sbl_reports.specs.StemLines.{are_text, has_line, have_lines, stem_line, stem_lines}
use Rattle.sbl_reports.specs.StemLinesAreRead.{HaveCharacters, WrittenStemsAreRead, WrittenStemsShowNoChange, are_characters}

-- ---- the bytes of characters without a line feed have none

none_pass : (stem : List ℕ) → list_any (λ c. c == 10) stem ≡ false → NonePass (λ c. c == 10) stem
none_pass [] e = tt
none_pass (c ∷ stem) e = let p = or_parts (c == 10) (list_any (λ c. c == 10) stem) e in (p.0, none_pass stem p.1)

free : (bytes : List ℕ) → ((i : ℕ) → i < length bytes → get_or bytes i 0 ≢ 10) → NoFeed bytes
free [] f = tt
free (b ∷ bytes) f = (f 0 (omega arith), free bytes (λ i lt. f (suc i) (omega (arith, lt))))

not_same : (m n : ℕ) → (m == n) ≡ false → m ≢ n
not_same m n e same = grind (arith, e, same)

no_feed : (stem : List ℕ) → list_any (λ c. c == 10) stem ≡ false → NoFeed (encode_utf8_all stem)
no_feed stem none =
    free (encode_utf8_all stem) (λ i lt is.
    let low : get_or (encode_utf8_all stem) i 0 < 128 = omega (arith, is) in
    not_same (get_or (encode_utf8_all stem) i 0) 10 (NoCharPasses-byte (λ c. c == 10) (encode_utf8_all stem) i (stem, refl, none_pass stem none) lt low) is)

-- ---- a carriage return ends the bytes only if it ends the characters

abbrev ends : List ℕ → Bool
ends text = get_or text (length text - 1) 0 == 13

some_bytes : (c : ℕ) → 0 < length (encode_utf8 c)
some_bytes c = grind (arith, length-encode)

ends_alone : (c : ℕ) → (c == 13) ≡ false → ends (encode_utf8 c ++ []) ≡ false
ends_alone c other = by (ends (encode_utf8 c ++ [])) refl
  where
    by : (b : Bool) → ends (encode_utf8 c ++ []) ≡ b → ends (encode_utf8 c ++ []) ≡ false
    by false e = e
    by true e =
        let at : get_or (encode_utf8 c ++ []) (length (encode_utf8 c ++ []) - 1) 0 ≡ 13 = grind (arith, e) in
        let long : length (encode_utf8 c ++ []) ≡ length (encode_utf8 c) = ap length (append-nil (encode_utf8 c)) in
        let some : 0 < length (encode_utf8 c) = some_bytes c in
        let same : c ≡ get_or (encode_utf8 c ++ []) (length (encode_utf8 c ++ []) - 1) 0 = inside_one c [] (encode_utf8 c ++ []) (length (encode_utf8 c ++ []) - 1) refl (omega arith) (omega (arith, at)) in
        absurd (not_same c 13 other (same ∙ at))

ends_later : (c d : ℕ) (stem : List ℕ) → ends (c ∷ d ∷ stem) ≡ ends (d ∷ stem)
ends_later c d stem =
    let i : length (c ∷ d ∷ stem) - 1 ≡ suc (length (d ∷ stem) - 1) = omega arith in
    ap (λ (i : ℕ). get_or (c ∷ d ∷ stem) i 0 == 13) i

ends_by_char : (stem : List ℕ) → ends stem ≡ false → ends (encode_utf8_all stem) ≡ false
ends_by_char [] e = refl
ends_by_char (c ∷ []) e = ends_alone c e
ends_by_char (c ∷ d ∷ stem) e =
    let rest = encode_utf8_all (d ∷ stem) in
    let long : length (d ∷ stem) ≤ length rest = length-le-encodes (d ∷ stem) in
    let all : length (encode_utf8 c ++ rest) ≡ length (encode_utf8 c) + length rest = length-append (encode_utf8 c) rest in
    let at : get_or (encode_utf8 c ++ rest) (length (encode_utf8 c ++ rest) - 1) 0 ≡ get_or rest (length rest - 1) 0 =
    get_or-append_right (encode_utf8 c) rest (length (encode_utf8 c)) (length (encode_utf8 c ++ rest) - 1) 0 refl (omega arith)
    ∙ ap (λ (i : ℕ). get_or rest i 0) (omega arith) in
    ap (λ (b : ℕ). b == 13) at ∙ ends_by_char (d ∷ stem) (sym (ends_later c d stem) ∙ e)

whole : (bytes : List ℕ) → ends bytes ≡ false → strip_carriage_return bytes ≡ bytes
whole bytes e = rw e refl

-- ---- the lines

abbrev bytes_of : Outcome' → List ℕ
bytes_of (Stem stem) = encode_utf8_all stem
bytes_of (Refused f) = []

line_read : (o : Outcome') (rest : List ℕ) → has_line o ≡ true → lines_of (stem_line o ++ rest) ≡ bytes_of o ∷ lines_of rest
line_read (Refused f) rest e = cc e
line_read (Stem stem) rest e =
    let p = and_parts (not (list_any (λ c. c == 10) stem)) (not (ends stem)) e in
    let none : list_any (λ c. c == 10) stem ≡ false = turned (list_any (λ c. c == 10) stem) p.0 in
    let other : ends stem ≡ false = turned (ends stem) p.1 in
    ap (λ (bytes : List ℕ). lines_of bytes) (append_assoc (encode_utf8_all stem) (10 ∷ []) rest)
    ∙ ap (map strip_carriage_return) (lines-feed (encode_utf8_all stem) rest (no_feed stem none))
    ∙ ap (λ (line : List ℕ). line ∷ lines_of rest) (whole (encode_utf8_all stem) (ends_by_char stem other))
  where
    turned : (b : Bool) → not b ≡ true → b ≡ false
    turned true h = cc h
    turned false h = refl

lines_written : (rows : List Row) → have_lines rows ≡ true → lines_of (flat_map (λ r. stem_line r.outcome) rows) ≡ map (λ r. bytes_of r.outcome) rows
lines_written [] e = ap (map strip_carriage_return) no_lines
lines_written (r ∷ rows) e =
    let p = and_parts (has_line r.outcome) (have_lines rows) e in
    line_read r.outcome (flat_map (λ r. stem_line r.outcome) rows) p.0
    ∙ ap (λ (lines : List (List ℕ)). bytes_of r.outcome ∷ lines) (lines_written rows p.1)

are_utf8 : (rows : List Row) → have_lines rows ≡ true → HaveCharacters rows → are_text (map (λ r. bytes_of r.outcome) rows) ≡ true
are_utf8 [] e h = refl
are_utf8 (r ∷ rows) e h =
    let p = and_parts (has_line r.outcome) (have_lines rows) e in
    let q = and_parts (are_characters r.outcome) (list_all (λ r. are_characters r.outcome) rows) h in
    rw (one r.outcome p.0 q.0) (are_utf8 rows p.1 q.1)
  where
    one : (o : Outcome') → has_line o ≡ true → are_characters o ≡ true → is_utf8 (bytes_of o) ≡ true
    one (Refused f) e h = cc e
    one (Stem stem) e h = is_utf8-from_IsUtf8 (encode_utf8_all stem) (stem, (h, refl))

same_rows : (rows : List Row) → have_lines rows ≡ true → HaveCharacters rows → rows_with (map (λ r. r.word) rows) (map chars (map (λ r. bytes_of r.outcome) rows)) ≡ rows
same_rows [] e h = refl
same_rows (r ∷ rows) e h =
    let p = and_parts (has_line r.outcome) (have_lines rows) e in
    let q = and_parts (are_characters r.outcome) (list_all (λ r. are_characters r.outcome) rows) h in
    λ i. record { word = r.word; outcome = one r.outcome p.0 q.0 i } ∷ same_rows rows p.1 q.1 i
  where
    one : (o : Outcome') → has_line o ≡ true → are_characters o ≡ true → Stem (chars (bytes_of o)) ≡ o
    one (Refused f) e h = cc e
    one (Stem stem) e h = ap Stem (chars-encodes stem h)

-- ---- the laws

has_text : (rows : List Row) (text : List ℕ) → stem_lines rows ≡ Some text → (have_lines rows ≡ true) × (flat_map (λ r. stem_line r.outcome) rows ≡ text)
has_text rows text e = by (have_lines rows) refl e
  where
    by : (b : Bool) → have_lines rows ≡ b → cond b (Some (flat_map (λ r. stem_line r.outcome) rows)) None ≡ Some text → (have_lines rows ≡ true) × (flat_map (λ r. stem_line r.outcome) rows ≡ text)
    by true h e = (h, cc e)
    by false h e = cc e

pub stems_read : WrittenStemsAreRead
stems_read rows text h e =
    let p = has_text rows text e in
    let lines : lines_of text ≡ map (λ r. bytes_of r.outcome) rows = ap (λ (t : List ℕ). lines_of t) (sym p.1) ∙ lines_written rows p.0 in (
      ap length lines ∙ length-map rows (λ r. bytes_of r.outcome),
      ap are_text lines ∙ are_utf8 rows p.0 h,
      ap (λ (ls : List (List ℕ)). rows_with (map (λ r. r.word) rows) (map chars ls)) lines ∙ same_rows rows p.0 h,
    )

pub stems_unchanged : EqualListsHaveNoChanges → WrittenStemsShowNoChange
stems_unchanged none rows text h one e = ap (λ (before : List Row). changes_of before rows) (stems_read rows text h e).2 ∙ none rows one

-- ---- the rows that have lines, one after another

pub stops : (rows : List Row) (i : ℕ) (r : Row) → slice_get rows i ≡ Some r → has_line r.outcome ≡ false → false ≡ have_lines rows
stops [] i r at off = cc at
stops (x ∷ rows) zero r at off =
    let same : x ≡ r = cc at in
    rw same (rw off refl)
stops (x ∷ rows) (suc i) r at off = ended (has_line x.outcome) (have_lines rows) (stops rows i r at off)
  where
    ended : (a b : Bool) → false ≡ b → false ≡ (a && b)
    ended true b e = e
    ended false b e = refl

pub goes_on : (rows : List Row) (i : ℕ) (r : Row) → slice_get rows i ≡ Some r → has_line r.outcome ≡ true → have_lines (take i rows) ≡ true → have_lines (take (i + 1) rows) ≡ true
goes_on rows i r at has so_far = ap (λ (n : ℕ). have_lines (take n rows)) (add-one i) ∙ by rows i at so_far
  where
    by : (rows : List Row) (i : ℕ) → slice_get rows i ≡ Some r → have_lines (take i rows) ≡ true → have_lines (take (suc i) rows) ≡ true
    by [] i at so_far = refl
    by (x ∷ rows) zero at so_far =
        let same : x ≡ r = cc at in
        rw same (rw has refl)
    by (x ∷ rows) (suc i) at so_far =
        let p = and_parts (has_line x.outcome) (have_lines (take i rows)) so_far in
        rw p.0 (by rows i at p.1)

-- ---- bytes that are UTF-8

pub text_is : {A B : Type 0} (bytes : List ℕ) (r : Result A B) (P : A → Type 0) (Q : B → Type 0) → MatchResult r (λ s. P s × IsUtf8 bytes) (λ e. ¬ (IsUtf8 bytes) × Q e) → is_ok r ≡ is_utf8 bytes
text_is bytes (Ok s) P Q is = sym (is_utf8-from_IsUtf8 bytes is.1)
text_is bytes (Err e) P Q is = sym (by (is_utf8 bytes) refl)
  where
    by : (t : Bool) → is_utf8 bytes ≡ t → is_utf8 bytes ≡ false
    by true h = absurd (is.0 (IsUtf8-from_is_utf8 bytes h))
    by false h = h
