-- White space and comments, one after another.
use Rattle.std.proofs.Common.{◌≡◌, ◌∙◌, ℕ, ◌+◌, Bool, true, false, List, [], ◌∷◌, ◌++◌, length, Option, Some, None, refl, sym, ap, subst, arith, length-append, append_assoc}
use Rattle.std.specs.Prelude.{not, ◌==◌, if◌then◌else◌, option_map}
use Rattle.std.specs.Char.{is_ascii_alphabetic, is_ascii_digit}
use Rattle.std.proofs.lemmas.List.{append_cancel_right, append-nil}
use Rattle.sbl_token.specs.declared.signs.Sign.{Sign}
use Rattle.sbl_text.specs.declared.pieces.Shape.{Shape}
use Rattle.sbl_text.specs.declared.pieces.Shape.TheVariants as shape
use Rattle.sbl_text.specs.declared.pieces.Expectation.{Expectation}
use Rattle.sbl_text.specs.declared.pieces.Expectation.TheVariants as wanted
use Rattle.sbl_text.specs.declared.pieces.Start.TheVariants as start
use Rattle.sbl_text.specs.declared.escapes.Inserts.{Inserts}
use Rattle.sbl_text.specs.Classes.{is_white}
use Rattle.sbl_text.specs.Literals.{byte_length}
use Rattle.sbl_text.specs.Pieces.{AreGaps, Gap, IsPiece, NoPiece, is_gap, may_come}
use Rattle.sbl_text.specs.inside.PieceParts.{setting}
use Rattle.sbl_text.specs.Scan.{FirstPiece, IsCutFrom, cut, cut_as, cut_at, past_block, past_literal, sign_cut, slash_cut}
use Rattle.sbl_text.specs.Skip.{past}
use Rattle.sbl_text.proofs.Lists.{bytes_append}
use Rattle.sbl_text.proofs.Whole.{LeavesCut, cut_is, longest, no_eq}
use Rattle.sbl_text_rows.specs.Gaps.{cut_gap, gap_lines, past_comment}
use Rattle.sbl_text_rows.specs.Lexing.{comment_line}
use Rattle.sbl_text_rows.specs.Rows.{line_if}
use Rattle.sbl_text_rows.specs.TokenRows.{gap_row}

-- ---- the gap that a text begins with

abbrev pub is_comment : Shape → Bool
is_comment shape.LineComment = true
is_comment shape.BlockComment = true
is_comment _ = false

abbrev pub gap_of : FirstPiece → Option (Bool × List ℕ)
gap_of None = None
gap_of (Some p) = if is_gap p.0 then Some (is_comment p.0, p.1) else None

sign_is_no_gap : (o : Option (Sign × List ℕ)) → None ≡ gap_of (option_map (λ p. (shape.Sign, p.1)) o)
sign_is_no_gap None = refl
sign_is_no_gap (Some p) = refl

literal_is_no_gap : (o : Option (List ℕ)) → None ≡ gap_of (cut_as shape.Literal o)
literal_is_no_gap None = refl
literal_is_no_gap (Some r) = refl

block_is_gap : (o : Option (List ℕ)) → option_map (λ r. (true, r)) o ≡ gap_of (cut_as shape.BlockComment o)
block_is_gap None = refl
block_is_gap (Some r) = refl

after_slash : (c d : ℕ) (cs : List ℕ) (p q : Bool) → option_map (λ r. (true, r)) (if p then Some (past (λ x. not (x == 10)) cs) else (if q then past_block cs else None))
    ≡ gap_of (if p then Some (shape.LineComment, past (λ x. not (x == 10)) cs) else (if q then cut_as shape.BlockComment (past_block cs) else sign_cut (c ∷ d ∷ cs)))
after_slash c d cs true q = refl
after_slash c d cs false true = block_is_gap (past_block cs)
after_slash c d cs false false = sign_is_no_gap _

slash_gap : (c : ℕ) (cs : List ℕ) → option_map (λ r. (true, r)) (past_comment cs) ≡ gap_of (slash_cut (c ∷ cs) cs)
slash_gap c [] = sign_is_no_gap _
slash_gap c (d ∷ cs) = after_slash c d cs (d == 47) (d == 42)

by_start : (e : Option Inserts) (c : ℕ) (cs : List ℕ) (w l d q s : Bool) → is_ascii_alphabetic c ≡ l → is_ascii_digit c ≡ d → (c == 39) ≡ q → (c == 47) ≡ s
    → (if w then Some (false, cs) else (if s then option_map (λ r. (true, r)) (past_comment cs) else None))
    ≡ gap_of (cut_at e (if w then start.White else (if l then start.Letter else (if d then start.Digit else (if q then start.Quote else (if s then start.Slash else start.Other))))) c cs)
by_start e c cs true l d q s hl hd hq hs = refl
by_start e c cs false true d q true hl hd hq hs = absurd (cc (sym hs ∙ no_eq is_ascii_alphabetic c 47 hl refl))
by_start e c cs false true d q false hl hd hq hs = refl
by_start e c cs false false true q true hl hd hq hs = absurd (cc (sym hs ∙ no_eq is_ascii_digit c 47 hd refl))
by_start e c cs false false true q false hl hd hq hs = refl
by_start e c cs false false false true true hl hd hq hs = absurd (cc (sym hs ∙ no_eq (λ n. n == 39) c 47 hq refl))
by_start e c cs false false false true false hl hd hq hs = literal_is_no_gap (past_literal e false cs)
by_start e c cs false false false false true hl hd hq hs = slash_gap c cs
by_start e c cs false false false false false hl hd hq hs = sign_is_no_gap _

cut_gap_is : (e : Option Inserts) (text : List ℕ) → cut_gap text ≡ gap_of (cut e text)
unfolding cut
cut_gap_is e [] = refl
cut_gap_is e (c ∷ cs) = by_start e c cs (is_white c) (is_ascii_alphabetic c) (is_ascii_digit c) (c == 39) (c == 47) refl refl refl refl

-- ---- it is the piece there

same_prefix : (x y r s : List ℕ) → length x ≡ length y → x ++ r ≡ y ++ s → (x ≡ y) × (r ≡ s)
same_prefix [] [] r s l h = (refl, h)
same_prefix [] (c ∷ y) r s l h = absurd (omega (arith, l))
same_prefix (c ∷ x) [] r s l h = absurd (omega (arith, l))
same_prefix (c ∷ x) (d ∷ y) r s l h =
    let i : x ++ r ≡ y ++ s = cc in let d_is : c ≡ d = cc in
    let t = same_prefix x y r s (omega (arith, l)) i in (cc, t.1)

piece_cut : (i : Option Inserts) (k : Shape) (x rest : List ℕ) → IsPiece (setting i wanted.Token) k x rest → cut i (x ++ rest) ≡ Some (k, rest)
piece_cut i k x rest p = by (cut i (x ++ rest)) (longest (setting i wanted.Token) k x rest p.stands) (cut_is i wanted.Token (x ++ rest))
  where
    by : (o : FirstPiece) → LeavesCut k (length rest) o → IsCutFrom (setting i wanted.Token) (x ++ rest) o → o ≡ Some (k, rest)
    by None l c = absurd l
    by (Some q) l c =
        let few = p.longest q.0 c.0 q.1 c.1 c.2.stands in
        let less = l.1 in
        let same : length x ≡ length c.0 = omega (arith, few, less, ap length c.1, length-append x rest, length-append c.0 q.1) in
        let t = same_prefix x c.0 rest q.1 same c.1 in
        ap (λ (j : Shape). let o : FirstPiece = Some (j, q.1) in o) l.0 ∙ ap (λ (r : List ℕ). let o : FirstPiece = Some (k, r) in o) (sym t.1)

pub piece_gap : (i : Option Inserts) (k : Shape) (x rest : List ℕ) → IsPiece (setting i wanted.Token) k x rest → cut_gap (x ++ rest) ≡ gap_of (Some (k, rest))
piece_gap i k x rest p = cut_gap_is i (x ++ rest) ∙ ap gap_of (piece_cut i k x rest p)

pub no_piece_gap : (i : Option Inserts) (text : List ℕ) → NoPiece (setting i wanted.Token) text → cut_gap text ≡ None
no_piece_gap i text none = cut_gap_is i text ∙ by (cut i text) (cut_is i wanted.Token text)
  where
    by : (o : FirstPiece) → IsCutFrom (setting i wanted.Token) text o → gap_of o ≡ None
    by None c = refl
    by (Some q) c = absurd (none q.0 c.0 q.1 c.1 c.2.stands)

pub no_gap : (k : Shape) (rest : List ℕ) → is_gap k ≡ false → gap_of (Some (k, rest)) ≡ None
no_gap k rest h = rw h refl

gap_found : (k : Shape) (rest : List ℕ) → is_gap k ≡ true → gap_of (Some (k, rest)) ≡ Some (is_comment k, rest)
gap_found k rest h = rw h refl

-- ---- one gap after another

comment_is : (k : Shape) (from to : ℕ) → is_gap k ≡ true → comment_line (is_comment k) from to ≡ line_if (gap_row from to k)
comment_is shape.Blank from to h = refl
comment_is shape.LineComment from to h = refl
comment_is shape.BlockComment from to h = refl
comment_is shape.Word from to h = absurd (cc)
comment_is shape.Number from to h = absurd (cc)
comment_is shape.Sign from to h = absurd (cc)
comment_is shape.Literal from to h = absurd (cc)
comment_is shape.Inserts from to h = absurd (cc)
comment_is shape.MacroName from to h = absurd (cc)

-- the gaps of the rest of a text, and what their lines are part of
abbrev pub Left : Option Inserts → List ℕ → List ℕ → List ℕ → List ℕ → List ℕ → Type 0
Left i text rest at out whole =
    (y : List ℕ) × (hs : List Gap) × (text ≡ y ++ rest) × AreGaps (setting i wanted.Token) rest hs at × (out ++ gap_lines (byte_length y) hs ≡ whole)

-- what a text that begins with a gap is cut into
abbrev pub gap_at : Bool → List ℕ → Option (Bool × List ℕ)
gap_at b r = Some (b, r)

abbrev kind_in : Option (Bool × List ℕ) → Bool
kind_in None = false
kind_in (Some p) = p.0

abbrev rest_in : Option (Bool × List ℕ) → List ℕ
rest_in None = []
rest_in (Some p) = p.1

some_pair : (b c : Bool) (r s : List ℕ) → gap_at b r ≡ gap_at c s → (b ≡ c) × (r ≡ s)
some_pair b c r s e = (ap kind_in e, ap rest_in e)

one_gap : (i : Option Inserts) (text rest r at y z : List ℕ) (b : Bool) (hs : List Gap) → text ≡ y ++ rest → text ≡ z ++ r → AreGaps (setting i wanted.Token) rest hs at → cut_gap at ≡ None
    → cut_gap rest ≡ Some (b, r) → (js : List Gap) × AreGaps (setting i wanted.Token) r js at × (comment_line b (byte_length y) (byte_length z) ++ gap_lines (byte_length z) js ≡ gap_lines (byte_length y) hs)
one_gap i text rest r at y z b [] e f h none found = absurd (let no : gap_at b r ≡ None = sym found ∙ ap cut_gap h ∙ none in cc)
one_gap i text rest r at y z b (g ∷ gs) e f h none found =
    let is : gap_at b r ≡ gap_at (is_comment g.shape) h.0 = sym found ∙ ap cut_gap h.1 ∙ piece_gap i g.shape g.text h.0 h.2 ∙ gap_found g.shape h.0 h.3 in
    let pair = some_pair b (is_comment g.shape) r h.0 is in
    let same : r ≡ h.0 = pair.1 in
    let kind : b ≡ is_comment g.shape = pair.0 in
    let prefix : z ≡ y ++ g.text =
    append_cancel_right z (y ++ g.text) r (sym f ∙ e ∙ ap (λ (t : List ℕ). y ++ t) (h.1 ∙ ap (λ (t : List ℕ). g.text ++ t) (sym same)) ∙ sym (append_assoc y g.text r)) in
    let place : byte_length z ≡ byte_length y + byte_length g.text = ap byte_length prefix ∙ bytes_append y g.text in (
      gs,
      subst (λ (t : List ℕ). AreGaps (setting i wanted.Token) t gs at) (sym same) h.4,
      ap (λ (n : ℕ). comment_line b (byte_length y) n ++ gap_lines n gs) place
          ∙ ap (λ (c : Bool). comment_line c (byte_length y) (byte_length y + byte_length g.text) ++ gap_lines (byte_length y + byte_length g.text) gs) kind
          ∙ ap (λ (t : List ℕ). t ++ gap_lines (byte_length y + byte_length g.text) gs) (comment_is g.shape (byte_length y) (byte_length y + byte_length g.text) h.3),
    )

-- a text goes on after a gap
pub gap_prefix : (text rest r : List ℕ) (b : Bool) → (x : List ℕ) × (text ≡ x ++ rest) → cut_gap rest ≡ Some (b, r) → (x : List ℕ) × (text ≡ x ++ r)
gap_prefix text rest r b prefix found = by (cut None rest) (cut_is None wanted.Token rest) (sym (cut_gap_is None rest) ∙ found)
  where
    at : (k : Shape) (s : List ℕ) (g : Bool) → is_gap k ≡ g → (if g then gap_at (is_comment k) s else None) ≡ gap_at b r → s ≡ r
    at k s true h e = (some_pair (is_comment k) b s r e).1
    at k s false h e = absurd (cc)

    by : (o : FirstPiece) → IsCutFrom (setting None wanted.Token) rest o → gap_of o ≡ Some (b, r) → (x : List ℕ) × (text ≡ x ++ r)
    by None c e = absurd (cc)
    by (Some q) c e =
        let same = at q.0 q.1 (is_gap q.0) refl e in
        (prefix.0 ++ c.0, prefix.1 ∙ ap (λ (t : List ℕ). prefix.0 ++ t) (c.1 ∙ ap (λ (t : List ℕ). c.0 ++ t) same) ∙ sym (append_assoc prefix.0 c.0 r))

-- past a gap, whose line was put out
pub left_after : (i : Option Inserts) (text rest r at out new whole : List ℕ) (b : Bool) (z : List ℕ) → Left i text rest at out whole → cut_gap at ≡ None → cut_gap rest ≡ Some (b, r)
    → text ≡ z ++ r → ((x y : List ℕ) → text ≡ x ++ rest → text ≡ y ++ r → new ≡ out ++ comment_line b (byte_length x) (byte_length y)) → Left i text r at new whole
left_after i text rest r at out new whole b z l none found is put =
    let s = one_gap i text rest r at l.0 z b l.1 l.2 is l.3 none found in
    let line = comment_line b (byte_length l.0) (byte_length z) in (
      z,
      s.0,
      is,
      s.1,
      ap (λ (t : List ℕ). t ++ gap_lines (byte_length z) s.0) (put l.0 z l.2 is) ∙ append_assoc out line (gap_lines (byte_length z) s.0)
          ∙ ap (λ (t : List ℕ). out ++ t) s.2 ∙ l.4,
    )

-- no gap is left
pub left_none : (i : Option Inserts) (text rest at out whole : List ℕ) → Left i text rest at out whole → cut_gap rest ≡ None → out ≡ whole
left_none i text rest at out whole l none = by l.1 l.3 l.4
  where
    by : (hs : List Gap) → AreGaps (setting i wanted.Token) rest hs at → out ++ gap_lines (byte_length l.0) hs ≡ whole → out ≡ whole
    by [] h e = sym (append-nil out) ∙ e
    by (g ∷ gs) h e = absurd (let no : None ≡ gap_at (is_comment g.shape) h.0 = sym none ∙ ap cut_gap h.1 ∙ piece_gap i g.shape g.text h.0 h.2 ∙ gap_found g.shape h.0 h.3 in cc)

-- ---- after the words of directives there is white space alone

blank_alone : (i : Option Inserts) (w : Expectation) (from : ℕ) (text at : List ℕ) (gs : List Gap) → (w ≡ wanted.Token → ⊥) → AreGaps (setting i w) text gs at → gap_lines from gs ≡ []
blank_alone i w from text at [] other h = refl
blank_alone i w from text at (g ∷ gs) other h = by w g.shape other h.3 h.2.stands.comes ∙ blank_alone i w (from + byte_length g.text) h.0 at gs other h.4
  where
    more : List ℕ
    more = gap_lines (from + byte_length g.text) gs

    by : (v : Expectation) (k : Shape) → (v ≡ wanted.Token → ⊥) → is_gap k ≡ true → may_come v k ≡ true → line_if (gap_row from (from + byte_length g.text) k) ++ more ≡ more
    by wanted.Token k o a m = absurd (o refl)
    by v shape.Blank o a m = refl
    by wanted.Inserts shape.LineComment o a m = absurd (cc)
    by wanted.Inserts shape.BlockComment o a m = absurd (cc)
    by wanted.MacroName shape.LineComment o a m = absurd (cc)
    by wanted.MacroName shape.BlockComment o a m = absurd (cc)
    by v shape.Word o a m = absurd (cc)
    by v shape.Number o a m = absurd (cc)
    by v shape.Sign o a m = absurd (cc)
    by v shape.Literal o a m = absurd (cc)
    by v shape.Inserts o a m = absurd (cc)
    by v shape.MacroName o a m = absurd (cc)

pub no_lines : (i : Option Inserts) (w : Expectation) (from : ℕ) (text at out new : List ℕ) (gs : List Gap) → (w ≡ wanted.Token → ⊥) → AreGaps (setting i w) text gs at → new ≡ out → new ≡ out ++ gap_lines from gs
no_lines i w from text at out new gs other h same = same ∙ sym (append-nil out) ∙ ap (λ (t : List ℕ). out ++ t) (sym (blank_alone i w from text at gs other h))
