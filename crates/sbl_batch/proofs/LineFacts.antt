-- The text of a row whose fields are written as they are.
use Rattle.std.proofs.Common.{◌≡◌, ◌≤◌, ◌∙◌, ◌++◌, ◌∷◌, [], ℕ, Bool, false, List, ap, append_assoc, arith, length, refl, sym, take}
use Rattle.std.proofs.Math.Seq.{take-length}
use Rattle.std.proofs.lemmas.List.{length-take, take-append-le}
use Rattle.std.specs.Prelude.{if◌then◌else◌}
use Rattle.csv.specs.Writing.{field_text, fields_text, is_blank, needs_quotes, quoted}
use Rattle.sbl_io.specs.Records.{flexible, record_line}

plain-field : (field : List ℕ) → needs_quotes flexible field ≡ false → field_text flexible field ≡ field
plain-field field plain = ap (λ (q : Bool). if q then quoted flexible field else field) plain

body : List ℕ → List ℕ → List ℕ → List ℕ
body a b c = (a ++ (44 ∷ (b ++ (44 ∷ (c ++ []))))) ++ (10 ∷ [])

line-body : (a b c : List ℕ) → body a b c ≡ a ++ (44 ∷ (b ++ (44 ∷ (c ++ (10 ∷ [])))))
unfolding body
line-body a b c =
    append_assoc a (44 ∷ (b ++ (44 ∷ (c ++ [])))) (10 ∷ [])
    ∙ ap (λ (t : List ℕ). a ++ (44 ∷ t)) (append_assoc b (44 ∷ (c ++ [])) (10 ∷ []) ∙ ap (λ (t : List ℕ). b ++ (44 ∷ t)) (append_assoc c [] (10 ∷ [])))

record-body : (a b c : List ℕ) → record_line (a ∷ b ∷ c ∷ []) ≡ body (field_text flexible a) (field_text flexible b) (field_text flexible c)
unfolding fields_text is_blank body
record-body a b c = refl

pub plain-line : (a b c : List ℕ) → needs_quotes flexible a ≡ false → needs_quotes flexible b ≡ false → needs_quotes flexible c ≡ false
    → a ++ (44 ∷ (b ++ (44 ∷ (c ++ (10 ∷ []))))) ≡ record_line (a ∷ b ∷ c ∷ [])
plain-line a b c first second third =
    sym (record-body a b c
    ∙ ap (λ (t : List ℕ). body t (field_text flexible b) (field_text flexible c)) (plain-field a first)
    ∙ ap (λ (t : List ℕ). body a t (field_text flexible c)) (plain-field b second)
    ∙ ap (λ (t : List ℕ). body a b t) (plain-field c third)
    ∙ line-body a b c)

-- ---- appending the parts one after another

pub parts-line : (rows a b c : List ℕ)
    → (((((rows ++ a) ++ (44 ∷ [])) ++ b) ++ (44 ∷ [])) ++ c) ++ (10 ∷ []) ≡ rows ++ (a ++ (44 ∷ (b ++ (44 ∷ (c ++ (10 ∷ []))))))
parts-line rows a b c =
    let r1 = rows ++ a in
    let r2 = r1 ++ (44 ∷ []) in
    let r3 = r2 ++ b in
    let r4 = r3 ++ (44 ∷ []) in
    append_assoc r4 c (10 ∷ []) ∙ append_assoc r3 (44 ∷ []) (c ++ (10 ∷ [])) ∙ append_assoc r2 b (44 ∷ (c ++ (10 ∷ [])))
    ∙ append_assoc r1 (44 ∷ []) (b ++ (44 ∷ (c ++ (10 ∷ [])))) ∙ append_assoc rows a (44 ∷ (b ++ (44 ∷ (c ++ (10 ∷ [])))))

-- rows that were there stay while more is appended
pub none-appended : (rows new : List ℕ) → new ≡ rows → take (length rows) new ≡ rows
none-appended rows new same = ap (take (length rows)) same ∙ take-length rows

pub more-appended : (rows old more new : List ℕ) → take (length rows) old ≡ rows → new ≡ old ++ more → take (length rows) new ≡ rows
more-appended rows old more new kept put =
    let inside : length rows ≤ length old = omega (arith, sym (length-take (length rows) old), ap length kept) in
    ap (take (length rows)) put ∙ take-append-le (length rows) old more inside ∙ kept

pub line-appended : (rows a b c r1 r2 r3 r4 r5 new : List ℕ) → r1 ≡ rows ++ a → r2 ≡ r1 ++ (44 ∷ []) → r3 ≡ r2 ++ b → r4 ≡ r3 ++ (44 ∷ []) → r5 ≡ r4 ++ c → new ≡ r5 ++ (10 ∷ [])
    → new ≡ rows ++ (a ++ (44 ∷ (b ++ (44 ∷ (c ++ (10 ∷ []))))))
line-appended rows a b c r1 r2 r3 r4 r5 new e1 e2 e3 e4 e5 e6 =
    let comma = λ (l : List ℕ). l ++ (44 ∷ []) in
    e6 ∙ ap (λ (l : List ℕ). l ++ (10 ∷ [])) (e5 ∙ ap (λ (l : List ℕ). l ++ c) (e4 ∙ ap comma (e3 ∙ ap (λ (l : List ℕ). l ++ b) (e2 ∙ ap comma e1))))
    ∙ parts-line rows a b c
