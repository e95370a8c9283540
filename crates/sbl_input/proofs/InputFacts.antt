-- What stands at the start of an input is one.
use Rattle.std.proofs.Common.{◌≡◌, ◌≢◌, ◌⊎◌, inl, inr, ◌∙◌, ◌++◌, ◌<◌, ◌≤◌, ◌==◌, ℕ, zero, suc, Bool, true, false, List, [], ◌∷◌, refl, sym, ap, length, nat_lt, if◌then◌else◌, arith}
use Rattle.std.proofs.lemmas.List.{append-nil, length-map}
use Rattle.std.proofs.lemmas.Slice.Eq.{bytes_eq-Decides}
use Rattle.std.specs.Str.{bytes_eq, is_utf8}
use Rattle.std.specs.List.{onto_first}
use Rattle.std.specs.Str.Lines.{strip_carriage_return}
use Rattle.sbl_reports.specs.Block.{BlockLines, point}
use Rattle.sbl_input.specs.Loading.{AllText}
use Rattle.sbl_io.specs.inside.LineSteps.{StandFirst}
use Rattle.sbl_io.specs.LinesOf.{AreWhole, max_line, raw_lines}
use Rattle.sbl_io.proofs.Bytes.{raw-feed, raw-other, raw-some}

-- ---- the bytes after some lines

-- the bytes without so many lines
abbrev drop_lines : ℕ → List ℕ → List ℕ
drop_lines n [] = []
drop_lines zero (b ∷ bytes) = b ∷ bytes
drop_lines (suc n) (b ∷ bytes) = if b == 10 then drop_lines n bytes else drop_lines (suc n) bytes

drop-none : (bytes : List ℕ) → drop_lines 0 bytes ≡ bytes
drop-none [] = refl
drop-none (b ∷ bytes) = refl

drop-feed : (n b : ℕ) (bytes : List ℕ) → (b == 10) ≡ true → drop_lines (suc n) (b ∷ bytes) ≡ drop_lines n bytes
drop-feed n b bytes e = rw e refl

drop-other : (n b : ℕ) (bytes : List ℕ) → (b == 10) ≡ false → drop_lines (suc n) (b ∷ bytes) ≡ drop_lines (suc n) bytes
drop-other n b bytes e = rw e refl

length-onto : (b : ℕ) (lines : List (List ℕ)) (n : ℕ) → length lines ≡ suc n → length (onto_first b lines) ≡ suc n
length-onto b [] n e = cc e
length-onto b (line ∷ lines) n e = e

some-lines : (lines : List (List ℕ)) → lines ≢ [] → (n : ℕ) × (length lines ≡ suc n)
some-lines [] some = absurd (some refl)
some-lines (line ∷ lines) some = (length lines, refl)

drop-whole : (prefix rest : List ℕ) → AreWhole prefix → drop_lines (length (raw_lines prefix)) (prefix ++ rest) ≡ rest
unfolding raw_lines
drop-whole [] rest whole = drop-none rest
drop-whole (b ∷ []) rest whole =
    let feed : (b == 10) ≡ true = rw whole refl in
    ap (λ (n : ℕ). drop_lines n (b ∷ rest)) (ap length (raw-feed b [] feed)) ∙ drop-feed 0 b rest feed ∙ drop-none rest
drop-whole (b ∷ c ∷ prefix) rest whole = by (drop-whole (c ∷ prefix) rest whole) (b == 10) refl
  where
    by : drop_lines (length (raw_lines (c ∷ prefix))) ((c ∷ prefix) ++ rest) ≡ rest → (t : Bool) → (b == 10) ≡ t
        → drop_lines (length (raw_lines (b ∷ c ∷ prefix))) ((b ∷ c ∷ prefix) ++ rest) ≡ rest
    by more true e =
        ap (λ (n : ℕ). drop_lines n ((b ∷ c ∷ prefix) ++ rest)) (ap length (raw-feed b (c ∷ prefix) e)) ∙ drop-feed (length (raw_lines (c ∷ prefix))) b ((c ∷ prefix) ++ rest) e ∙ more
    by more false e =
        let some = some-lines (raw_lines (c ∷ prefix)) (raw-some c prefix) in
        let count : length (raw_lines (b ∷ c ∷ prefix)) ≡ suc some.0 = ap length (raw-other b (c ∷ prefix) e) ∙ length-onto b (raw_lines (c ∷ prefix)) some.0 some.1 in
        ap (λ (n : ℕ). drop_lines n ((b ∷ c ∷ prefix) ++ rest)) count ∙ drop-other some.0 b ((c ∷ prefix) ++ rest) e
        ∙ ap (λ (n : ℕ). drop_lines n ((c ∷ prefix) ++ rest)) (sym some.1) ∙ more

drop-all : (bytes : List ℕ) → drop_lines (length (raw_lines bytes)) bytes ≡ []
unfolding raw_lines
drop-all [] = refl
drop-all (b ∷ []) = by (b == 10) refl
  where
    by : (t : Bool) → (b == 10) ≡ t → drop_lines (length (raw_lines (b ∷ []))) (b ∷ []) ≡ []
    by true e = ap (λ (n : ℕ). drop_lines n (b ∷ [])) (ap length (raw-feed b [] e)) ∙ drop-feed 0 b [] e
    by false e = ap (λ (n : ℕ). drop_lines n (b ∷ [])) (ap length (raw-other b [] e)) ∙ drop-other 0 b [] e
drop-all (b ∷ c ∷ bytes) = by (drop-all (c ∷ bytes)) (b == 10) refl
  where
    by : drop_lines (length (raw_lines (c ∷ bytes))) (c ∷ bytes) ≡ [] → (t : Bool) → (b == 10) ≡ t → drop_lines (length (raw_lines (b ∷ c ∷ bytes))) (b ∷ c ∷ bytes) ≡ []
    by more true e =
        ap (λ (n : ℕ). drop_lines n (b ∷ c ∷ bytes)) (ap length (raw-feed b (c ∷ bytes) e)) ∙ drop-feed (length (raw_lines (c ∷ bytes))) b (c ∷ bytes) e ∙ more
    by more false e =
        let some = some-lines (raw_lines (c ∷ bytes)) (raw-some c bytes) in
        let count : length (raw_lines (b ∷ c ∷ bytes)) ≡ suc some.0 = ap length (raw-other b (c ∷ bytes) e) ∙ length-onto b (raw_lines (c ∷ bytes)) some.0 some.1 in
        ap (λ (n : ℕ). drop_lines n (b ∷ c ∷ bytes)) count ∙ drop-other some.0 b (c ∷ bytes) e ∙ ap (λ (n : ℕ). drop_lines n (c ∷ bytes)) (sym some.1) ∙ more

stand-rest : (bytes rest : List ℕ) (lines : List (List ℕ)) → StandFirst bytes lines rest → drop_lines (length lines) bytes ≡ rest
stand-rest bytes rest lines p = by p.2
  where
    count : length lines ≡ length (raw_lines p.0)
    count = ap length (sym p.3) ∙ length-map (raw_lines p.0) strip_carriage_return

    by : AreWhole p.0 ⊎ (rest ≡ []) → drop_lines (length lines) bytes ≡ rest
    by (inl whole) = ap (λ (n : ℕ). drop_lines n bytes) count ∙ ap (λ (x : List ℕ). drop_lines (length (raw_lines p.0)) x) p.1 ∙ drop-whole p.0 rest whole
    by (inr none) =
        let all : bytes ≡ p.0 = p.1 ∙ ap (λ (x : List ℕ). p.0 ++ x) none ∙ append-nil p.0 in
        ap (λ (n : ℕ). drop_lines n bytes) count ∙ ap (λ (x : List ℕ). drop_lines (length (raw_lines p.0)) x) all ∙ drop-all p.0 ∙ sym none

-- the same lines leave the same bytes
pub stand-one : (bytes a b : List ℕ) (lines : List (List ℕ)) → StandFirst bytes lines a → StandFirst bytes lines b → a ≡ b
stand-one bytes a b lines p q = sym (stand-rest bytes a lines p) ∙ stand-rest bytes b lines q

-- ---- the first point, the first line that is too long, the first that is no text

-- what ends some lines, and the lines before it and after it: a point, a line that is too long, one that is no text, or their end
pub data LinesEnd : Type 0 where
  AtPoint : List (List ℕ) → List (List ℕ) → LinesEnd
  AtLong : LinesEnd
  AtNoText : LinesEnd
  AtEnd : List (List ℕ) → LinesEnd

abbrev pub following : List ℕ → LinesEnd → LinesEnd
following line (AtPoint lines rest) = AtPoint (line ∷ lines) rest
following line AtLong = AtLong
following line AtNoText = AtNoText
following line (AtEnd lines) = AtEnd (line ∷ lines)

abbrev pub one_end : Bool → Bool → Bool → List ℕ → List (List ℕ) → LinesEnd → LinesEnd
one_end true long bad line lines more = AtPoint [] lines
one_end false true bad line lines more = AtLong
one_end false false true line lines more = AtNoText
one_end false false false line lines more = following line more

abbrev pub is_bad : Bool → List ℕ → Bool
is_bad false line = false
is_bad true line = if is_utf8 line then false else true

-- where the lines have to be text, or need not
abbrev pub lines_end : Bool → List (List ℕ) → LinesEnd
lines_end text [] = AtEnd []
lines_end text (line ∷ lines) = one_end (bytes_eq line point) (nat_lt max_line (length line)) (is_bad text line) line lines (lines_end text lines)

no_bytes_eq : (a b : List ℕ) → a ≢ b → bytes_eq a b ≡ false
no_bytes_eq a b other = by (bytes_eq a b) refl
  where
    by : (t : Bool) → bytes_eq a b ≡ t → bytes_eq a b ≡ false
    by true e = absurd (other ((bytes_eq-Decides a b).0 e))
    by false e = e

fits : (n : ℕ) → n ≤ max_line → nat_lt max_line n ≡ false
fits n le = grind arith

too_long : (n : ℕ) → max_line < n → nat_lt max_line n ≡ true
too_long n lt = grind arith

-- lines are text, where they have to be
abbrev pub AreText : Bool → List (List ℕ) → Type 0
AreText false lines = Unit {0}
AreText true lines = AllText lines

text-first : (text : Bool) (line : List ℕ) (lines : List (List ℕ)) → AreText text (line ∷ lines) → is_bad text line ≡ false
text-first false line lines are = refl
text-first true line lines are = rw are.0 refl

text-rest : (text : Bool) (line : List ℕ) (lines : List (List ℕ)) → AreText text (line ∷ lines) → AreText text lines
text-rest false line lines are = tt
text-rest true line lines are = are.1

good-first : (text : Bool) (line : List ℕ) (lines more : List (List ℕ)) → BlockLines (line ∷ lines) → AreText text (line ∷ lines)
    → lines_end text (line ∷ more) ≡ following line (lines_end text more)
good-first text line lines more good are = rw (no_bytes_eq line point good.0.0, fits (length line) good.1.0, text-first text line lines are) refl

good-rest : (line : List ℕ) (lines : List (List ℕ)) → BlockLines (line ∷ lines) → BlockLines lines
good-rest line lines good = (good.0.1, good.1.1)

point-end : (text : Bool) (rest : List (List ℕ)) → lines_end text (point ∷ rest) ≡ AtPoint [] rest
point-end text rest = refl

pub end-point : (text : Bool) (lines rest : List (List ℕ)) → BlockLines lines → AreText text lines → lines_end text (lines ++ point ∷ rest) ≡ AtPoint lines rest
end-point text [] rest good are = point-end text rest
end-point text (line ∷ lines) rest good are =
    good-first text line lines (lines ++ point ∷ rest) good are ∙ ap (following line) (end-point text lines rest (good-rest line lines good) (text-rest text line lines are))

pub end-end : (text : Bool) (lines : List (List ℕ)) → BlockLines lines → AreText text lines → lines_end text lines ≡ AtEnd lines
end-end text [] good are = refl
end-end text (line ∷ lines) good are = good-first text line lines lines good are ∙ ap (following line) (end-end text lines (good-rest line lines good) (text-rest text line lines are))

no_long_point : (line : List ℕ) → max_line < length line → line ≢ point
no_long_point line long e = let one : length line ≡ 1 = ap length e in grind (arith, one, long)

pub end-long : (text : Bool) (lines : List (List ℕ)) (line : List ℕ) (rest : List (List ℕ)) → BlockLines lines → AreText text lines → max_line < length line
    → lines_end text (lines ++ line ∷ rest) ≡ AtLong
end-long text [] line rest good are long = rw (no_bytes_eq line point (no_long_point line long), too_long (length line) long) refl
end-long text (l ∷ lines) line rest good are long =
    good-first text l lines (lines ++ line ∷ rest) good are ∙ ap (following l) (end-long text lines line rest (good-rest l lines good) (text-rest text l lines are) long)

pub end-no_text : (lines : List (List ℕ)) (line : List ℕ) (rest : List (List ℕ)) → BlockLines lines → AllText lines → line ≢ point → length line ≤ max_line → is_utf8 line ≡ false
    → lines_end true (lines ++ line ∷ rest) ≡ AtNoText
end-no_text [] line rest good are other fit bad = rw (no_bytes_eq line point other, fits (length line) fit, bad) refl
end-no_text (l ∷ lines) line rest good are other fit bad =
    good-first true l lines (lines ++ line ∷ rest) good are ∙ ap (following l) (end-no_text lines line rest (good-rest l lines good) are.1 other fit bad)
