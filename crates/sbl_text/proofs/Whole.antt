-- What `cut` cuts is the longest piece.
use Rattle.std.proofs.Common.{◌≡◌, ℕ, ◌≤◌, Bool, true, false, List, [], ◌∷◌, ◌++◌, length, Option, Some, None, refl, sym, ap, subst, ◌∙◌, arith, append_assoc}
use Rattle.std.specs.Prelude.{not, ◌||◌, ◌==◌, if◌then◌else◌, option_map, IfSome, MatchOption}
use Rattle.std.specs.Char.{is_ascii_alphabetic, is_ascii_digit}
use Rattle.std.proofs.lemmas.Bool.Decides.{nat_tests}
use Rattle.std.proofs.lemmas.List.{length-append}
use Rattle.sbl_token.specs.declared.signs.Sign.{Sign}
use Rattle.sbl_text.specs.declared.pieces.Shape.{Shape}
use Rattle.sbl_text.specs.declared.pieces.Shape.TheVariants as shape
use Rattle.sbl_text.specs.declared.pieces.Expectation.{Expectation}
use Rattle.sbl_text.specs.declared.pieces.Expectation.TheVariants as wanted
use Rattle.sbl_text.specs.declared.pieces.Start.{Start}
use Rattle.sbl_text.specs.declared.pieces.Start.TheVariants as start
use Rattle.sbl_text.specs.declared.escapes.Inserts.{Inserts}
use Rattle.sbl_text.specs.Classes.{is_white, is_word}
use Rattle.sbl_text.specs.Skip.{past}
use Rattle.sbl_token.specs.SignCuts.{sign_of, sign_prefix, one, two}
use Rattle.sbl_text.specs.Pieces.{Has, may_come, Setting, Stands, IsPiece, NoPiece, BeginsComment, Gap, AreGaps, AfterGaps, is_gap}
use Rattle.sbl_text.specs.inside.PieceParts.{setting}
use Rattle.sbl_text.specs.Scan.{IsCutFrom, Piece_at, past_literal, past_block, start_of, FirstPiece, cut, cut_at, cut_as, sign_cut, slash_cut, pair_from, pair_cut, name_cut, cut_in}
use Rattle.sbl_text.proofs.Written.{sign_is, sign_found_as}
use Rattle.sbl_text.proofs.Cuts.{or_left, or_right, run_of, run_longest, sign_found, sign_longest, literal_parts, literal_ends, block_parts, block_ends, no_end, has_no_end, same_number}

-- ---- first characters

no_eq_at : (p : ℕ → Bool) (c n : ℕ) (b : Bool) → (c == n) ≡ b → p c ≡ true → p n ≡ false → b ≡ false
no_eq_at p c n true i h k = let s : c ≡ n = grind (arith, nat_tests) in absurd (cc (ap p s))
no_eq_at p c n false i h k = refl

pub no_eq : (p : ℕ → Bool) (c n : ℕ) → p c ≡ true → p n ≡ false → (c == n) ≡ false
no_eq p c n h k = no_eq_at p c n (c == n) refl h k

plain : ℕ → Bool
plain c = is_white c || (is_ascii_alphabetic c || (is_ascii_digit c || c == 39))

pub if_same : (b : Bool) (x : Option Sign) → (if b then x else x) ≡ x
if_same true x = refl
if_same false x = refl

no_one : (c : ℕ) → plain c ≡ true → one c ≡ None
unfolding plain
no_one c h = simp (no_eq plain c 40 h refl, no_eq plain c 41 h refl, no_eq plain c 91 h refl, no_eq plain c 93 h refl, no_eq plain c 36 h refl, no_eq plain c 43 h refl, no_eq plain c 45 h refl, no_eq plain c 42 h refl, no_eq plain c 47 h refl, no_eq plain c 61 h refl, no_eq plain c 63 h refl, no_eq plain c 60 h refl, no_eq plain c 62 h refl)

no_two : (c b : ℕ) → plain c ≡ true → two c b ≡ None
unfolding plain
no_two c b h = simp (no_eq plain c 61 h refl, no_eq plain c 33 h refl, no_eq plain c 60 h refl, no_eq plain c 62 h refl, no_eq plain c 43 h refl, no_eq plain c 45 h refl, no_eq plain c 42 h refl, no_eq plain c 47 h refl, if_same)

sign_starts_at : (a : ℕ) (y : List ℕ) (s : Sign) (b : Bool) → plain a ≡ b → sign_of (a ∷ y) ≡ Some s → b ≡ false
sign_starts_at a y s false i h = refl
sign_starts_at a [] s true i h = let k = no_one a i in absurd (cc)
sign_starts_at a (b ∷ []) s true i h = let k = no_two a b i in absurd (cc)
sign_starts_at a (b ∷ c ∷ y) s true i h = absurd (cc)

sign_start : (a : ℕ) (y : List ℕ) (s : Sign) → sign_of (a ∷ y) ≡ Some s → start_of a ≡ (if a == 47 then start.Slash else start.Other)
unfolding plain
sign_start a y s h =
    let p : is_white a || (is_ascii_alphabetic a || (is_ascii_digit a || a == 39)) ≡ false = sign_starts_at a y s (plain a) refl h in
    let p1 = or_right (is_white a) (is_ascii_alphabetic a || (is_ascii_digit a || a == 39)) p in
    let p2 = or_right (is_ascii_alphabetic a) (is_ascii_digit a || a == 39) p1 in
    rw (or_left (is_white a) (is_ascii_alphabetic a || (is_ascii_digit a || a == 39)) p, or_left (is_ascii_alphabetic a) (is_ascii_digit a || a == 39) p1, or_left (is_ascii_digit a) (a == 39) p2, or_right (is_ascii_digit a) (a == 39) p2) refl

white_start : (c : ℕ) → is_white c ≡ true → start_of c ≡ start.White
white_start c h = rw h refl

letter_not_white : (c : ℕ) → is_ascii_alphabetic c ≡ true → is_white c ≡ false
letter_not_white c h = grind (arith, nat_tests)

digit_not_white : (c : ℕ) → is_ascii_digit c ≡ true → is_white c ≡ false
digit_not_white c h = grind (arith, nat_tests)

digit_not_letter : (c : ℕ) → is_ascii_digit c ≡ true → is_ascii_alphabetic c ≡ false
digit_not_letter c h = grind (arith, nat_tests)

letter_start : (c : ℕ) → is_ascii_alphabetic c ≡ true → start_of c ≡ start.Letter
letter_start c h = rw (letter_not_white c h, h) refl

digit_start : (c : ℕ) → is_ascii_digit c ≡ true → start_of c ≡ start.Digit
digit_start c h = rw (digit_not_white c h, digit_not_letter c h, h) refl

-- ---- no longer piece

abbrev pub LeavesCut : Shape → ℕ → FirstPiece → Type 0
LeavesCut k n o = MatchOption o ⊥ (λ p. (p.0 ≡ k) × (length p.1 ≤ n))

along : (e : Option Inserts) (k : Shape) (n c : ℕ) (cs : List ℕ) (st : Start) → start_of c ≡ st → LeavesCut k n (cut_at e st c cs) → LeavesCut k n (cut e (c ∷ cs))
unfolding cut
along e k n c cs st h l = subst (λ (t : Start). LeavesCut k n (cut_at e t c cs)) (sym h) l

leaves_sign : (n : ℕ) (o : Option (Sign × List ℕ)) → MatchOption o ⊥ (λ p. length p.1 ≤ n) → LeavesCut shape.Sign n (option_map (λ p. (shape.Sign, p.1)) o)
leaves_sign n None h = h
leaves_sign n (Some p) h = (refl, h)

slash_sign : (n : ℕ) (cs : List ℕ) (c : ℕ) → (BeginsComment (c ∷ cs) → ⊥) → c ≡ 47 → LeavesCut shape.Sign n (sign_cut (c ∷ cs)) → LeavesCut shape.Sign n (slash_cut (c ∷ cs) cs)
slash_sign n [] c free is h = h
slash_sign n (d ∷ cs) c free is h = slash_sign_at n cs c d (d == 47) (d == 42) refl refl free is h
  where
    slash_sign_at : (n : ℕ) (cs : List ℕ) (c d : ℕ) (p q : Bool) → (d == 47) ≡ p → (d == 42) ≡ q → (BeginsComment (c ∷ d ∷ cs) → ⊥) → c ≡ 47 → LeavesCut shape.Sign n (sign_cut (c ∷ d ∷ cs))
        → LeavesCut shape.Sign n (if p then Some (shape.LineComment, past (λ x. not (x == 10)) cs) else (if q then cut_as shape.BlockComment (past_block cs) else sign_cut (c ∷ d ∷ cs)))
    slash_sign_at n cs c d true q i j free is h = absurd (free (d, cs, ap (λ (x : ℕ). x ∷ d ∷ cs) is, rw i refl))
    slash_sign_at n cs c d false true i j free is h = absurd (free (d, cs, ap (λ (x : ℕ). x ∷ d ∷ cs) is, rw (i, j) refl))
    slash_sign_at n cs c d false false i j free is h = h

sign_leaves : (e : Option Inserts) (n a : ℕ) (cs : List ℕ) (b : Bool) → (a == 47) ≡ b → (BeginsComment (a ∷ cs) → ⊥) → LeavesCut shape.Sign n (sign_cut (a ∷ cs)) → LeavesCut shape.Sign n (cut_at e (if b then start.Slash else start.Other) a cs)
sign_leaves e n a cs true i free h = slash_sign n cs a free (grind (arith, nat_tests)) h
sign_leaves e n a cs false i free h = h

sign_case : (e : Option Inserts) (y more : List ℕ) (s : Sign) → sign_of y ≡ Some s → (BeginsComment (y ++ more) → ⊥) → LeavesCut shape.Sign (length more) (cut e (y ++ more))
sign_case e [] more s h free = absurd (cc)
sign_case e (a ∷ y) more s h free =
    along e shape.Sign (length more) a (y ++ more) (if a == 47 then start.Slash else start.Other) (sign_start a y s h)
    (sign_leaves e (length more) a (y ++ more) (a == 47) refl free (leaves_sign (length more) (sign_prefix (a ∷ (y ++ more))) (sign_longest (a ∷ y) more s h)))

longest_token : (e : Option Inserts) (k : Shape) (y more : List ℕ) → Has e k y → may_come wanted.Token k ≡ true → (k ≡ shape.Sign → BeginsComment (y ++ more) → ⊥) → LeavesCut k (length more) (cut e (y ++ more))
longest_token e shape.Blank y more h may free =
    subst (λ (t : List ℕ). LeavesCut shape.Blank (length more) (cut e (t ++ more))) (sym h.1) (along e shape.Blank (length more) h.0 more start.White (white_start h.0 h.2) (refl, omega arith))
longest_token e shape.Word y more h may free =
    subst (λ (t : List ℕ). LeavesCut shape.Word (length more) (cut e (t ++ more))) (sym h.2) (along e shape.Word (length more) h.0 (h.1 ++ more) start.Letter (letter_start h.0 h.3) (refl, run_longest is_word h.1 more h.4))
longest_token e shape.Number y more h may free =
    subst (λ (t : List ℕ). LeavesCut shape.Number (length more) (cut e (t ++ more))) (sym h.2) (along e shape.Number (length more) h.0 (h.1 ++ more) start.Digit (digit_start h.0 h.3) (refl, run_longest is_ascii_digit h.1 more h.4))
longest_token e shape.LineComment y more h may free =
    subst (λ (t : List ℕ). LeavesCut shape.LineComment (length more) (cut e (t ++ more))) (sym h.1) (along e shape.LineComment (length more) 47 (47 ∷ (h.0 ++ more)) start.Slash refl (refl, run_longest (λ d. not (d == 10)) h.0 more h.2))
longest_token e shape.BlockComment y more h may free =
    subst (λ (t : List ℕ). LeavesCut shape.BlockComment (length more) (cut e (t ++ more))) (sym h.1)
    (along e shape.BlockComment (length more) 47 (42 ∷ ((h.0 ++ 42 ∷ 47 ∷ []) ++ more)) start.Slash refl
    (let a : past_block ((h.0 ++ 42 ∷ 47 ∷ []) ++ more) ≡ Some more = ap past_block (append_assoc h.0 (42 ∷ 47 ∷ []) more) ∙ block_ends h.0 more (has_no_end h.0 h.2) in
    subst (λ (t : Option (List ℕ)). LeavesCut shape.BlockComment (length more) (cut_as shape.BlockComment t)) (sym a) (refl, omega arith)))
longest_token e shape.Literal y more h may free =
    subst (λ (t : List ℕ). LeavesCut shape.Literal (length more) (cut e (t ++ more))) (sym h.1)
    (along e shape.Literal (length more) 39 ((h.0 ++ 39 ∷ []) ++ more) start.Quote refl
    (let a : past_literal e false ((h.0 ++ 39 ∷ []) ++ more) ≡ Some more = ap (past_literal e false) (append_assoc h.0 (39 ∷ []) more) ∙ literal_ends e false h.0 more h.2 in
    subst (λ (t : Option (List ℕ)). LeavesCut shape.Literal (length more) (cut_as shape.Literal t)) (sym a) (refl, omega arith)))
longest_token e shape.Sign y more h may free = sign_case e y more h.0 (sign_found_as y h.0 h.1) (free refl)
longest_token e shape.Inserts y more h may free = absurd (cc)
longest_token e shape.MacroName y more h may free = absurd (cc)

-- ---- what is cut stands there

-- an ordinary piece stands there
abbrev Stood : Option Inserts → Shape → List ℕ → List ℕ → Type 0
Stood e k x rest = Has e k x × (may_come wanted.Token k ≡ true) × (k ≡ shape.Sign → BeginsComment (x ++ rest) → ⊥)

abbrev FoundCut : Option Inserts → List ℕ → FirstPiece → Type 0
FoundCut e text o = IfSome o (λ p. (x : List ℕ) × (text ≡ x ++ p.1) × Stood e p.0 x p.1)

sign_stands : (e : Option Inserts) (text : List ℕ) (o : Option (Sign × List ℕ)) → (BeginsComment text → ⊥)
    → IfSome o (λ p. (x : List ℕ) × (text ≡ x ++ p.1) × (sign_of x ≡ Some p.0)) → FoundCut e text (option_map (λ p. (shape.Sign, p.1)) o)
sign_stands e text None free f = tt
sign_stands e text (Some p) free f = (f.0, f.1, ((p.0, sign_is f.0 p.0 f.2), refl, λ i b. free (subst BeginsComment (sym f.1) b)))

sign_cut_stands : (e : Option Inserts) (text : List ℕ) → (BeginsComment text → ⊥) → FoundCut e text (sign_cut text)
sign_cut_stands e text free = sign_stands e text (sign_prefix text) free (sign_found text)

run_stands : (e : Option Inserts) (k : Shape) (c : ℕ) (cs rest : List ℕ) (x : List ℕ) → cs ≡ x ++ rest → Has e k (c ∷ x) → may_come wanted.Token k ≡ true → (k ≡ shape.Sign → ⊥) → FoundCut e (c ∷ cs) (Some (k, rest))
run_stands e k c cs rest x is h may other = (c ∷ x, ap (λ (t : List ℕ). c ∷ t) is, (h, may, λ i b. other i))

literal_stands : (e : Option Inserts) (cs : List ℕ) (o : Option (List ℕ)) → past_literal e false cs ≡ o → FoundCut e (39 ∷ cs) (cut_as shape.Literal o)
literal_stands e cs None h = tt
literal_stands e cs (Some rest) h =
    let r = literal_parts e false cs rest h in
    run_stands e shape.Literal 39 cs rest (r.0 ++ 39 ∷ []) (r.1 ∙ sym (append_assoc r.0 (39 ∷ []) rest)) (r.0, refl, r.2) refl (λ i. cc)

block_stands : (e : Option Inserts) (cs : List ℕ) (o : Option (List ℕ)) → past_block cs ≡ o → FoundCut e (47 ∷ 42 ∷ cs) (cut_as shape.BlockComment o)
block_stands e cs None h = tt
block_stands e cs (Some rest) h =
    let r = block_parts cs rest h in
    run_stands e shape.BlockComment 47 (42 ∷ cs) rest (42 ∷ (r.0 ++ 42 ∷ 47 ∷ [])) (ap (λ (t : List ℕ). 42 ∷ t) (r.1 ∙ sym (append_assoc r.0 (42 ∷ 47 ∷ []) rest))) (r.0, refl, no_end r.0 r.2) refl (λ i. cc)

line_stands : (e : Option Inserts) (cs : List ℕ) → FoundCut e (47 ∷ 47 ∷ cs) (Some (shape.LineComment, past (λ d. not (d == 10)) cs))
line_stands e cs =
    let r = run_of (λ d. not (d == 10)) cs in
    run_stands e shape.LineComment 47 (47 ∷ cs) (past (λ d. not (d == 10)) cs) (47 ∷ r.0) (ap (λ (t : List ℕ). 47 ∷ t) r.1) (r.0, refl, r.2) refl (λ i. cc)

no_comment_at : (d : ℕ) (cs : List ℕ) → (d == 47) ≡ false → (d == 42) ≡ false → BeginsComment (47 ∷ d ∷ cs) → ⊥
no_comment_at d cs i j b =
    let s : d ≡ b.0 = cc (b.2) in
    let t : (d == 47 || d == 42) ≡ true = ap (λ (n : ℕ). n == 47 || n == 42) s ∙ b.3 in
    let u : (d == 47 || d == 42) ≡ false = rw (i, j) refl in absurd (cc (sym t ∙ u))

slash_stands_at : (e : Option Inserts) (d : ℕ) (cs : List ℕ) (p q : Bool) → (d == 47) ≡ p → (d == 42) ≡ q
    → FoundCut e (47 ∷ d ∷ cs) (if p then Some (shape.LineComment, past (λ x. not (x == 10)) cs) else (if q then cut_as shape.BlockComment (past_block cs) else sign_cut (47 ∷ d ∷ cs)))
slash_stands_at e d cs true q i j =
    subst (λ (n : ℕ). FoundCut e (47 ∷ n ∷ cs) (Some (shape.LineComment, past (λ x. not (x == 10)) cs))) (sym (same_number d 47 i)) (line_stands e cs)
slash_stands_at e d cs false true i j =
    subst (λ (n : ℕ). FoundCut e (47 ∷ n ∷ cs) (cut_as shape.BlockComment (past_block cs))) (sym (same_number d 42 j)) (block_stands e cs (past_block cs) refl)
slash_stands_at e d cs false false i j = sign_cut_stands e (47 ∷ d ∷ cs) (no_comment_at d cs i j)

slash_stands : (e : Option Inserts) (cs : List ℕ) → FoundCut e (47 ∷ cs) (slash_cut (47 ∷ cs) cs)
slash_stands e [] = sign_cut_stands e (47 ∷ []) (λ b. let h = b.2 in cc)
slash_stands e (d ∷ cs) = slash_stands_at e d cs (d == 47) (d == 42) refl refl

other_free : (c : ℕ) (cs : List ℕ) → (c == 47) ≡ false → BeginsComment (c ∷ cs) → ⊥
other_free c cs h b = let s : c ≡ 47 = cc (b.2) in let t : (c == 47) ≡ true = ap (λ (n : ℕ). n == 47) s in absurd (cc (sym t ∙ h))

found_by : (e : Option Inserts) (c : ℕ) (cs : List ℕ) (w l d q s : Bool) → is_white c ≡ w → is_ascii_alphabetic c ≡ l → is_ascii_digit c ≡ d → (c == 39) ≡ q → (c == 47) ≡ s
    → FoundCut e (c ∷ cs) (cut_at e (if w then start.White else (if l then start.Letter else (if d then start.Digit else (if q then start.Quote else (if s then start.Slash else start.Other))))) c cs)
found_by e c cs true l d q s hw hl hd hq hs = (c ∷ [], refl, ((c, refl, hw), refl, λ i b. cc))
found_by e c cs false true d q s hw hl hd hq hs = let r = run_of is_word cs in run_stands e shape.Word c cs (past is_word cs) r.0 r.1 (c, r.0, refl, hl, r.2) refl (λ i. cc)
found_by e c cs false false true q s hw hl hd hq hs = let r = run_of is_ascii_digit cs in run_stands e shape.Number c cs (past is_ascii_digit cs) r.0 r.1 (c, r.0, refl, hd, r.2) refl (λ i. cc)
found_by e c cs false false false true s hw hl hd hq hs =
    subst (λ (n : ℕ). FoundCut e (n ∷ cs) (cut_as shape.Literal (past_literal e false cs))) (sym (same_number c 39 hq)) (literal_stands e cs (past_literal e false cs) refl)
found_by e c cs false false false false true hw hl hd hq hs = subst (λ (n : ℕ). FoundCut e (n ∷ cs) (slash_cut (n ∷ cs) cs)) (sym (same_number c 47 hs)) (slash_stands e cs)
found_by e c cs false false false false false hw hl hd hq hs = sign_cut_stands e (c ∷ cs) (other_free c cs hs)

found_cut : (e : Option Inserts) (text : List ℕ) → FoundCut e text (cut e text)
unfolding cut
found_cut e [] = tt
found_cut e (c ∷ cs) = found_by e c cs (is_white c) (is_ascii_alphabetic c) (is_ascii_digit c) (c == 39) (c == 47) refl refl refl refl refl

-- ---- insert characters and names of macros

longest_pair : (e : Option Inserts) (k : Shape) (y more : List ℕ) → Has e k y → may_come wanted.Inserts k ≡ true → LeavesCut k (length more) (pair_cut (y ++ more))
unfolding pair_cut
longest_pair e shape.Blank y more h may = subst (λ (t : List ℕ). LeavesCut shape.Blank (length more) (pair_cut (t ++ more))) (sym h.1) (rw h.2 (refl, omega arith))
longest_pair e shape.Inserts y more h may =
    subst (λ (t : List ℕ). LeavesCut shape.Inserts (length more) (pair_cut (t ++ more))) (sym h.2) (rw (h.4, h.3, h.5) (refl, omega arith))
longest_pair e _ y more h may = absurd (cc)

longest_name : (e : Option Inserts) (k : Shape) (y more : List ℕ) → Has e k y → may_come wanted.MacroName k ≡ true → LeavesCut k (length more) (name_cut (y ++ more))
unfolding name_cut
longest_name e shape.Blank y more h may = subst (λ (t : List ℕ). LeavesCut shape.Blank (length more) (name_cut (t ++ more))) (sym h.1) (rw h.2 (refl, omega arith))
longest_name e shape.MacroName y more h may =
    subst (λ (t : List ℕ). LeavesCut shape.MacroName (length more) (name_cut (t ++ more))) (sym h.2) (rw h.3 (refl, run_longest (λ d. not (is_white d)) h.1 more h.4))
longest_name e _ y more h may = absurd (cc)

longest_in : (e : Option Inserts) (w : Expectation) (k : Shape) (y more : List ℕ) → Has e k y → may_come w k ≡ true → (k ≡ shape.Sign → BeginsComment (y ++ more) → ⊥) → LeavesCut k (length more) (cut_in e w (y ++ more))
longest_in e wanted.Token k y more h may free = longest_token e k y more h may free
longest_in e wanted.Inserts k y more h may free = longest_pair e k y more h may
longest_in e wanted.MacroName k y more h may free = longest_name e k y more h may

-- whatever may come and stands at the start is what is cut, and no more is left
pub longest : (e : Setting) (k : Shape) (y more : List ℕ) → Stands e k y more → LeavesCut k (length more) (cut_in e.inserts e.wanted (y ++ more))
longest e k y more st = longest_in e.inserts e.wanted k y more st.has st.comes st.no_comment

abbrev FoundIn : Setting → List ℕ → FirstPiece → Type 0
FoundIn e text o = IfSome o (λ p. (x : List ℕ) × (text ≡ x ++ p.1) × Stands e p.0 x p.1)

found_token : (e : Option Inserts) (text : List ℕ) (o : FirstPiece) → FoundCut e text o → FoundIn (setting e wanted.Token) text o
found_token e text None f = tt
found_token e text (Some p) f = (f.0, f.1, record { has = f.2.0; comes = f.2.1; no_comment = f.2.2 })

pair_two : (e : Option Inserts) (a b : ℕ) (cs : List ℕ) (q w : Bool) → (a == 39) ≡ q → is_white a ≡ false → is_white b ≡ w → FoundIn (setting e wanted.Inserts) (a ∷ b ∷ cs) (if q || w then None else Some (shape.Inserts, cs))
pair_two e a b cs true w x y z = tt
pair_two e a b cs false true x y z = tt
pair_two e a b cs false false x y z = (a ∷ b ∷ [], refl, record { has = (a, b, refl, x, y, z); comes = refl; no_comment = λ j k. cc })

pair_after : (e : Option Inserts) (a : ℕ) (cs : List ℕ) → is_white a ≡ false → FoundIn (setting e wanted.Inserts) (a ∷ cs) (pair_from a cs)
pair_after e a [] h = tt
pair_after e a (b ∷ cs) h = pair_two e a b cs (a == 39) (is_white b) refl h refl

pair_at : (e : Option Inserts) (c : ℕ) (cs : List ℕ) (b : Bool) → is_white c ≡ b → FoundIn (setting e wanted.Inserts) (c ∷ cs) (if b then Some (shape.Blank, cs) else pair_from c cs)
pair_at e c cs true h = (c ∷ [], refl, record { has = (c, refl, h); comes = refl; no_comment = λ j k. cc })
pair_at e c cs false h = pair_after e c cs h

found_pair : (e : Option Inserts) (text : List ℕ) → FoundIn (setting e wanted.Inserts) text (pair_cut text)
unfolding pair_cut
found_pair e [] = tt
found_pair e (c ∷ cs) = pair_at e c cs (is_white c) refl

name_at : (e : Option Inserts) (c : ℕ) (cs : List ℕ) (b : Bool) → is_white c ≡ b
    → FoundIn (setting e wanted.MacroName) (c ∷ cs) (if b then Some (shape.Blank, cs) else Some (shape.MacroName, past (λ d. not (is_white d)) cs))
name_at e c cs true h = (c ∷ [], refl, record { has = (c, refl, h); comes = refl; no_comment = λ j k. cc })
name_at e c cs false h =
    let r = run_of (λ d. not (is_white d)) cs in
    (c ∷ r.0, ap (λ (t : List ℕ). c ∷ t) r.1, record { has = (c, r.0, refl, h, r.2); comes = refl; no_comment = λ j k. cc })

found_name : (e : Option Inserts) (text : List ℕ) → FoundIn (setting e wanted.MacroName) text (name_cut text)
unfolding name_cut
found_name e [] = tt
found_name e (c ∷ cs) = name_at e c cs (is_white c) refl

found_in : (e : Option Inserts) (w : Expectation) (text : List ℕ) → FoundIn (setting e w) text (cut_in e w text)
found_in e wanted.Token text = found_token e text (cut e text) (found_cut e text)
found_in e wanted.Inserts text = found_pair e text
found_in e wanted.MacroName text = found_name e text

cut_is_at : (e : Setting) (text : List ℕ) (o : FirstPiece) → cut_in e.inserts e.wanted text ≡ o → FoundIn e text o → IsCutFrom e text o
cut_is_at e text None h f = λ j y more is st. subst (λ (o : FirstPiece). LeavesCut j (length more) o) (ap (cut_in e.inserts e.wanted) (sym is) ∙ h) (longest e j y more st)
cut_is_at e text (Some p) h f = (
  f.0,
  f.1,
  record {
    stands = f.2;
    longest = λ j y more is st. shorter f.0 y p.1 more is
        (subst (λ (o : FirstPiece). LeavesCut j (length more) o) (ap (cut_in e.inserts e.wanted) (sym is ∙ sym f.1) ∙ h) (longest e j y more st)).1;
  },
)
  where
    shorter : (x y rest more : List ℕ) → x ++ rest ≡ y ++ more → length rest ≤ length more → length y ≤ length x
    shorter x y rest more is h = omega (arith, length-append x rest, length-append y more, ap length is)

pub cut_is : (i : Option Inserts) (w : Expectation) (text : List ℕ) → IsCutFrom (setting i w) text (cut_in i w text)
cut_is i w text = cut_is_at (setting i w) text (cut_in i w text) refl (found_in i w text)

-- the same of what the code answers
pub piece_given : {B : Type 0} (i : Option Inserts) (w : Expectation) (text : List ℕ) (view : B → List ℕ) (IsLess : B → Type 0) (o : Option (Shape × B))
    → MatchOption o (cut_in i w text ≡ None) (λ p. (cut_in i w text ≡ Some (p.0, view p.1)) × IsLess p.1)
    → MatchOption o (NoPiece (setting i w) text) (λ p. (x : List ℕ) × (text ≡ x ++ view p.1) × IsPiece (setting i w) p.0 x (view p.1))
piece_given i w text view IsLess None h = subst (IsCutFrom (setting i w) text) h (cut_is i w text)
piece_given i w text view IsLess (Some p) h = subst (IsCutFrom (setting i w) text) h.0 (cut_is i w text)

-- ---- gaps

pub gap_none : (e : Setting) (text : List ℕ) → AfterGaps e text text
gap_none e text = ([], refl)

gaps_more : (e : Setting) (text rest following x : List ℕ) (gs : List Gap) (k : Shape) → AreGaps e text gs rest → rest ≡ x ++ following → IsPiece e k x following → is_gap k ≡ true
    → AreGaps e text (gs ++ record { shape = k; text = x } ∷ []) following
gaps_more e text rest following x [] k a is p g = (following, a ∙ is, p, g, refl)
gaps_more e text rest following x (q ∷ gs) k a is p g = (a.0, a.1, a.2, a.3, gaps_more e a.0 rest following x gs k a.4 is p g)

pub gap_more : (e : Setting) (text rest following : List ℕ) (k : Shape) → AfterGaps e text rest → Piece_at e k rest following → is_gap k ≡ true → AfterGaps e text following
gap_more e text rest following k a p g = (a.0 ++ record { shape = k; text = p.0 } ∷ [], gaps_more e text rest following p.0 a.0 k a.1 p.1 p.2 g)

pub true_of_same : (r s : Bool) → r ≡ s → r ≡ true → s ≡ true
true_of_same r s h i = sym h ∙ i
