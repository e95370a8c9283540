-- The rows of changes, one kind after another.
use Rattle.std.proofs.Common.{◌≡◌, ◌⊎◌, ◌<◌, ◌-◌, ◌∙◌, ◌++◌, ℕ, zero, suc, Bool, true, false, List, [], ◌∷◌, cond, inl, inr, arith, append_assoc, map, take, refl, ap, sym}
use Rattle.std.specs.List.{filter}
use Rattle.std.proofs.lemmas.List.{map-append}
use Rattle.sbl_rows.specs.Changes.{Change}
use Rattle.sbl_io.specs.Records.{record_line, records_text}
use Rattle.sbl_history.specs.ChangeReports.{first_of_kind, is_of}
use Rattle.sbl_records.specs.ChangeRecords.{change_fields}
use Rattle.sbl_history.specs.declared.change_reports.ChangeKind.{ChangeKind}

-- the rows of changes
abbrev pub rows_of : List Change → List ℕ
rows_of changes = records_text (map change_fields changes)

pub texts_append : (xs ys : List (List (List ℕ))) → records_text (xs ++ ys) ≡ records_text xs ++ records_text ys
texts_append [] ys = refl
texts_append (x ∷ xs) ys = ap (λ (l : List ℕ). record_line x ++ l) (texts_append xs ys) ∙ sym (append_assoc (record_line x) (records_text xs) (records_text ys))

pub rows_append : (a b : List Change) → rows_of (a ++ b) ≡ rows_of a ++ rows_of b
rows_append a b = ap records_text (map-append change_fields a b) ∙ texts_append (map change_fields a) (map change_fields b)

-- three lists after one another
pub three_texts : (start one two : List ℕ) (a b c : List Change) → one ≡ start ++ rows_of a → two ≡ one ++ rows_of b → two ++ rows_of c ≡ start ++ rows_of (a ++ (b ++ c))
three_texts start one two a b c first second =
    ap (λ (l : List ℕ). l ++ rows_of c) (second ∙ ap (λ (l : List ℕ). l ++ rows_of b) first)
    ∙ append_assoc (start ++ rows_of a) (rows_of b) (rows_of c)
    ∙ append_assoc start (rows_of a) (rows_of b ++ rows_of c)
    ∙ ap (λ (l : List ℕ). start ++ (rows_of a ++ l)) (sym (rows_append b c))
    ∙ ap (λ (l : List ℕ). start ++ l) (sym (rows_append a (b ++ c)))

-- the rows of the first n changes of a kind
abbrev pub first_rows : ChangeKind → ℕ → List Change → List ℕ
first_rows k n changes = rows_of (first_of_kind n changes k)

-- one change more
pub first_more : (k : ChangeKind) (n m : ℕ) (xs rest : List Change) (x : Change) (old new goal : List ℕ) → xs ≡ x ∷ rest → 0 < n → m ≡ n - 1 → is_of k x ≡ true
    → new ≡ old ++ record_line (change_fields x) → old ++ first_rows k n xs ≡ goal → new ++ first_rows k m rest ≡ goal
first_more k zero m xs rest x old new goal list lt less is more so_far = absurd (omega (arith, lt))
first_more k (suc n) m xs rest x old new goal list lt less is more so_far =
    let one : m ≡ n = omega (arith, less) in
    let line = record_line (change_fields x) in
    let whole : first_rows k (suc n) (x ∷ rest) ≡ line ++ first_rows k n rest =
    ap (λ (b : Bool). rows_of (take (suc n) (cond b (x ∷ filter (is_of k) rest) (filter (is_of k) rest)))) is in
    ap (λ (l : List ℕ). l ++ first_rows k m rest) more
    ∙ append_assoc old line (first_rows k m rest)
    ∙ ap (λ (j : ℕ). old ++ (line ++ first_rows k j rest)) one
    ∙ ap (λ (l : List ℕ). old ++ l) (sym (ap (first_rows k (suc n)) list ∙ whole))
    ∙ so_far

-- a change that has no row
pub first_same : (k : ChangeKind) (n : ℕ) (xs rest : List Change) (x : Change) (old goal : List ℕ) → xs ≡ x ∷ rest → (n ≡ 0) ⊎ (is_of k x ≡ false)
    → old ++ first_rows k n xs ≡ goal → old ++ first_rows k n rest ≡ goal
first_same k n xs rest x old goal list (inl none) so_far =
    ap (λ (j : ℕ). old ++ first_rows k j rest) none ∙ sym (ap (λ (j : ℕ). old ++ first_rows k j xs) none) ∙ so_far
first_same k n xs rest x old goal list (inr other) so_far =
    let whole : first_rows k n (x ∷ rest) ≡ first_rows k n rest = ap (λ (b : Bool). rows_of (take n (cond b (x ∷ filter (is_of k) rest) (filter (is_of k) rest)))) other in
    ap (λ (l : List ℕ). old ++ l) (sym (ap (first_rows k n) list ∙ whole)) ∙ so_far
