-- A line of a list is that of one word and one stem.
use Rattle.std.proofs.Common.{◌≡◌, ◌∙◌, ◌++◌, ◌==◌, ◌&&◌, ◌||◌, ℕ, Bool, true, false, List, [], ◌∷◌, if◌then◌else◌, refl, sym, ap, append_assoc}
use Rattle.std.specs.Char.{is_whitespace}
use Rattle.std.specs.List.{list_all}
use Rattle.std.specs.Str.{all_scalars, chars, encode_utf8_all}
use Rattle.std.proofs.lemmas.Bool.{and_parts}
use Rattle.std.proofs.lemmas.Str.{chars-encodes, encodes-append}
use Rattle.sbl_reports.specs.WordLists.{ListLinesAreOne, between, can_say, is_kept, list_line, may_have}
use Rattle.sbl_reports.specs.declared.word_lists.ListForm.{ListForm}
use Rattle.sbl_reports.specs.declared.word_lists.ListForm.TheVariants.{Synonym, Override, Tsv}

-- the characters of a line
abbrev line_chars : ListForm → List ℕ → List ℕ → List ℕ
line_chars form word stem = word ++ (between form ++ (stem ++ 10 ∷ []))

line-encodes : (form : ListForm) (w s : List ℕ) → encode_utf8_all (line_chars form w s) ≡ list_line form w s
unfolding lib.Utf8.encode
line-encodes form w s =
    let feed = 10 ∷ [] in
    let middle : encode_utf8_all (between form) ≡ between form = by form in
    encodes-append w (between form ++ (s ++ feed)) ∙ ap (λ (x : List ℕ). encode_utf8_all w ++ x) (encodes-append (between form) (s ++ feed))
    ∙ ap (λ (x : List ℕ). encode_utf8_all w ++ (x ++ encode_utf8_all (s ++ feed))) middle
    ∙ ap (λ (x : List ℕ). encode_utf8_all w ++ (between form ++ x)) (encodes-append s feed)
    ∙ sym (append_assoc (encode_utf8_all w) (between form) (encode_utf8_all s ++ feed))
    ∙ sym (append_assoc (encode_utf8_all w ++ between form) (encode_utf8_all s) feed)
  where
    by : (form : ListForm) → encode_utf8_all (between form) ≡ between form
    by Synonym = refl
    by Override = refl
    by Tsv = refl

scalars-both : (a b : List ℕ) → all_scalars a ≡ true → all_scalars b ≡ true → all_scalars (a ++ b) ≡ true
scalars-both [] b h k = k
scalars-both (c ∷ a) b h k =
    let p = and_parts _ (all_scalars a) h in
    rw (p.0, scalars-both a b p.1 k) refl

line-scalars : (form : ListForm) (w s : List ℕ) → all_scalars w ≡ true → all_scalars s ≡ true → all_scalars (line_chars form w s) ≡ true
line-scalars form w s h k =
    scalars-both w (between form ++ (s ++ 10 ∷ [])) h (scalars-both (between form) (s ++ 10 ∷ []) (by form) (scalars-both s (10 ∷ []) k refl))
  where
    by : (form : ListForm) → all_scalars (between form) ≡ true
    by Synonym = refl
    by Override = refl
    by Tsv = refl

no_white : (w z k : Bool) → w ≡ true → (if w || z then false else k) ≡ true → ⊥
no_white true z k e h = cc h
no_white false z k e h = cc e

-- no blank is in a word
no_blank : (form : ListForm) (c : ℕ) → is_whitespace c ≡ true → may_have form c ≡ true → ⊥
no_blank form c blank has = no_white (is_whitespace c) (c == 0) (is_kept form c) blank has

-- a word ends at the first blank
cut : (form : ListForm) (w v r q : List ℕ) (b : ℕ) → is_whitespace b ≡ true → list_all (may_have form) w ≡ true → list_all (may_have form) v ≡ true
    → w ++ b ∷ r ≡ v ++ b ∷ q → (w ≡ v) × (r ≡ q)
cut form [] [] r q b blank h k e = let same : r ≡ q = cc e in (refl, same)
cut form [] (d ∷ v) r q b blank h k e =
    let same : d ≡ b = cc e in
    let p = and_parts (may_have form d) (list_all (may_have form) v) k in
    absurd (no_blank form d (ap is_whitespace same ∙ blank) p.0)
cut form (c ∷ w) [] r q b blank h k e =
    let same : c ≡ b = cc e in
    let p = and_parts (may_have form c) (list_all (may_have form) w) h in
    absurd (no_blank form c (ap is_whitespace same ∙ blank) p.0)
cut form (c ∷ w) (d ∷ v) r q b blank h k e =
    let first : c ≡ d = cc e in
    let rest : w ++ b ∷ r ≡ v ++ b ∷ q = cc e in
    let p = and_parts (may_have form c) (list_all (may_have form) w) h in
    let o = and_parts (may_have form d) (list_all (may_have form) v) k in
    let so = cut form w v r q b blank p.1 o.1 rest in
    let same : w ≡ v = so.0 in
    let all : c ∷ w ≡ d ∷ v = cc in
    (all, so.1)

words-said : (form : ListForm) (w s : List ℕ) → can_say form w s ≡ true → (list_all (may_have form) w ≡ true) × (list_all (may_have form) s ≡ true)
words-said form w s said =
    let a = and_parts _ _ said in
    let b = and_parts _ _ a.0 in
    and_parts (list_all (may_have form) w) (list_all (may_have form) s) b.0

same-chars : (form : ListForm) (w s v t : List ℕ) → list_all (may_have form) w ≡ true → list_all (may_have form) s ≡ true → list_all (may_have form) v ≡ true
    → list_all (may_have form) t ≡ true → line_chars form w s ≡ line_chars form v t → (w ≡ v) × (s ≡ t)
same-chars Synonym w s v t hw hs hv ht e =
    let p = cut Synonym w v (s ++ 10 ∷ []) (t ++ 10 ∷ []) 32 refl hw hv e in
    let q = cut Synonym s t [] [] 10 refl hs ht p.1 in
    (p.0, q.0)
same-chars Override w s v t hw hs hv ht e =
    let p = cut Override w v (61 ∷ 62 ∷ 32 ∷ (s ++ 10 ∷ [])) (61 ∷ 62 ∷ 32 ∷ (t ++ 10 ∷ [])) 32 refl hw hv e in
    let rest : s ++ 10 ∷ [] ≡ t ++ 10 ∷ [] = cc (p.1) in
    let q = cut Override s t [] [] 10 refl hs ht rest in
    (p.0, q.0)
same-chars Tsv w s v t hw hs hv ht e =
    let p = cut Tsv w v (s ++ 10 ∷ []) (t ++ 10 ∷ []) 9 refl hw hv e in
    let q = cut Tsv s t [] [] 10 refl hs ht p.1 in
    (p.0, q.0)

pub list_lines-one : ListLinesAreOne
list_lines-one form w s v t sw ss sv st said other e =
    let a = words-said form w s said in
    let b = words-said form v t other in
    let line : line_chars form w s ≡ line_chars form v t = sym (chars-encodes (line_chars form w s) (line-scalars form w s sw ss))
    ∙ ap chars (line-encodes form w s ∙ e ∙ sym (line-encodes form v t)) ∙ chars-encodes (line_chars form v t) (line-scalars form v t sv st) in
    same-chars form w s v t a.0 a.1 b.0 b.1 line
