-- The rows of tokens, one after another.
use Rattle.std.proofs.Common.{◌≡◌, ◌⊎◌, inl, inr, ◌∙◌, ℕ, ◌+◌, ◌<◌, false, List, [], ◌∷◌, ◌++◌, length, Option, Some, None, Ok, Err, MatchOption, refl, sym, ap, subst, arith, append_assoc}
use Rattle.std.specs.Prelude.{encode_utf8_all}
use Rattle.std.proofs.lemmas.List.{append-nil}
use Rattle.std.specs.Str.{chars}
use Rattle.sbl_io.specs.Records.{record_line}
use Rattle.sbl_token.specs.declared.token.Token.{Token}
use Rattle.sbl_token.specs.Lexemes.{Lexeme, lexeme_of}
use Rattle.sbl_text.specs.declared.fault.ScriptFault.{ScriptFault}
use Rattle.sbl_text.specs.declared.fault.ScriptFault.TheVariants as fault
use Rattle.sbl_text.specs.declared.pieces.Shape.{Shape}
use Rattle.sbl_text.specs.declared.pieces.Shape.TheVariants as shape
use Rattle.sbl_text.specs.declared.pieces.Expectation.{Expectation}
use Rattle.sbl_text.specs.declared.pieces.Expectation.TheVariants as wanted
use Rattle.sbl_text.specs.declared.escapes.Inserts.{Inserts}
use Rattle.sbl_text.specs.Directives.{Directives, after, setting_of, start}
use Rattle.sbl_text.specs.Literals.{byte_length}
use Rattle.sbl_text.specs.Pieces.{AreGaps, Gap, IsPiece, NoPiece, is_gap}
use Rattle.sbl_text.specs.inside.PieceParts.{setting}
use Rattle.sbl_text.specs.Tokens.{AreCut, HasValue, IsFault, IsLexeme, IsNext, IsRefused, IsToken, Piece, Reading, Stops, beginning}
use Rattle.sbl_text.proofs.Lists.{bytes_append, cut_append, cut_total, next_advances, next_shorter, still_none, total}
use Rattle.sbl_text_rows.specs.Gaps.{cut_gap, gap_lines}
use Rattle.sbl_text_rows.specs.Lexing.{EndsAfter, TakesToken}
use Rattle.sbl_text_rows.specs.Rows.{line_if}
use Rattle.sbl_text_rows.specs.TokenRows.{HasNoMore, IsTokensText, lines_from, row_of, token_row}
use Rattle.sbl_text_rows.proofs.GapFacts.{no_gap, no_piece_gap, piece_gap}

-- ---- lines of pieces

lines_append : (n : ℕ) (ps qs : List Piece) → lines_from n (ps ++ qs) ≡ lines_from n ps ++ lines_from (n + total ps) qs
lines_append n [] qs = ap (λ (k : ℕ). lines_from k qs) (omega arith)
lines_append n (p ∷ ps) qs =
    let line = line_if (row_of n (n + byte_length p.text) (encode_utf8_all p.text) p.shape p.lexeme) in
    ap (λ (t : List ℕ). line ++ t) (lines_append (n + byte_length p.text) ps qs ∙ ap (λ (k : ℕ). lines_from (n + byte_length p.text) ps ++ lines_from k qs) (omega arith))
    ∙ sym (append_assoc line (lines_from (n + byte_length p.text) ps) (lines_from (n + (byte_length p.text + total ps)) qs))

lines_joined : (ps qs : List Piece) → lines_from 0 ps ++ lines_from (total ps) qs ≡ lines_from 0 (ps ++ qs)
lines_joined ps qs = ap (λ (k : ℕ). lines_from 0 ps ++ lines_from k qs) (omega arith) ∙ sym (lines_append 0 ps qs)

gap_pieces : List Gap → List Piece
gap_pieces [] = []
gap_pieces (g ∷ gs) = record { shape = g.shape; text = g.text; lexeme = None } ∷ gap_pieces gs

gaps_are_cut : (s : Directives) (text rest : List ℕ) (gs : List Gap) → AreGaps (setting_of s) text gs rest → AreCut s text (gap_pieces gs) s rest
unfolding gap_pieces
gaps_are_cut s text rest [] h = (h, refl)
gaps_are_cut s text rest (g ∷ gs) h = (h.0, h.1, h.2, h.3, gaps_are_cut s h.0 rest gs h.4)

lines_gaps : (n : ℕ) (gs : List Gap) → lines_from n (gap_pieces gs) ≡ gap_lines n gs
unfolding gap_pieces
lines_gaps n [] = refl
lines_gaps n (g ∷ gs) =
    ap (λ (t : List ℕ). line_if (row_of n (n + byte_length g.text) (encode_utf8_all g.text) g.shape None) ++ t) (lines_gaps (n + byte_length g.text) gs)

-- ---- no gap begins at a token or at a fault

lexeme_shape : (s : Directives) (k : Shape) (x : List ℕ) (l : Lexeme) → IsLexeme s k x l → is_gap k ≡ false
lexeme_shape s shape.Blank x l h = absurd h
lexeme_shape s shape.LineComment x l h = absurd h
lexeme_shape s shape.BlockComment x l h = absurd h
lexeme_shape s shape.Word x l h = refl
lexeme_shape s shape.Number x l h = refl
lexeme_shape s shape.Sign x l h = refl
lexeme_shape s shape.Literal x l h = refl
lexeme_shape s shape.Inserts x l h = refl
lexeme_shape s shape.MacroName x l h = refl

refused_shape : (s : Directives) (k : Shape) (x : List ℕ) (n : ℕ) (f : ScriptFault) → IsRefused s k x n f → is_gap k ≡ false
refused_shape s shape.Blank x n f h = absurd h
refused_shape s shape.LineComment x n f h = absurd h
refused_shape s shape.BlockComment x n f h = absurd h
refused_shape s shape.Word x n f h = refl
refused_shape s shape.Number x n f h = refl
refused_shape s shape.Sign x n f h = refl
refused_shape s shape.Literal x n f h = refl
refused_shape s shape.Inserts x n f h = refl
refused_shape s shape.MacroName x n f h = refl

ends_at_piece : (s : Directives) (k : Shape) (x rest : List ℕ) → IsPiece (setting_of s) k x rest → is_gap k ≡ false → s.wanted ≡ wanted.Token → cut_gap (x ++ rest) ≡ None
ends_at_piece s k x rest p other token =
    piece_gap s.escapes.inserts k x rest (subst (λ (w : Expectation). IsPiece (setting s.escapes.inserts w) k x rest) token p) ∙ no_gap k rest other

ends_at_last : (s : Directives) (at : List ℕ) (n : ℕ) → HasNoMore s at n → s.wanted ≡ wanted.Token → cut_gap at ≡ None
ends_at_last s at n (inl h) token = ap cut_gap h.0
ends_at_last s at n (inr h) token = by h.1
  where
    by : IsFault s at n h.0 → cut_gap at ≡ None
    by (inl free) =
        no_piece_gap s.escapes.inserts at (subst (λ (w : Expectation). NoPiece (setting s.escapes.inserts w) at) token free.1)
    by (inr r) = ap cut_gap r.3 ∙ ends_at_piece s r.0 r.1 r.2 r.4 (refused_shape s r.0 r.1 n h.0 r.5) token

-- ---- the lines so far

-- Pieces were read up to here, and the lines are those of these pieces and of the gaps that come next.
abbrev pub HasLines : List ℕ → Directives → List ℕ → List ℕ → Type 0
HasLines text s rest out =
    (ps : List Piece) × AreCut start text ps s rest
    × ((gs : List Gap) (at : List ℕ) → AreGaps (setting_of s) rest gs at → (s.wanted ≡ wanted.Token → cut_gap at ≡ None) → out ≡ lines_from 0 ps ++ gap_lines (total ps) gs)

pub first_lines : (text out new : List ℕ) (r : Reading) → r ≡ beginning start text → out ≡ []
    → ((i : Option Inserts) (x : List ℕ) (gs : List Gap) (at : List ℕ) → text ≡ x ++ text → AreGaps (setting i wanted.Token) text gs at → cut_gap at ≡ None → new ≡ out ++ gap_lines (byte_length x) gs)
    → HasLines text r.state r.rest new
first_lines text out new r is none put =
    subst (λ (q : Reading). HasLines text q.state q.rest new) (sym is)
    ([], (refl, refl), λ gs at gaps ends. put start.escapes.inserts [] gs at refl gaps (ends refl) ∙ ap (λ (t : List ℕ). t ++ gap_lines 0 gs) none)

with_token : (text : List ℕ) (s : Directives) (from rest : List ℕ) (token : Token) (out one two : List ℕ) → HasLines text s from out → (c : IsToken text s from rest token)
    → HasValue s (lexeme_of token) → one ≡ out ++ record_line (token_row token.start token.end token.text.now (lexeme_of token))
    → ((u : Directives) (x : List ℕ) (r : List ℕ) (gs : List Gap) (at : List ℕ) → text ≡ x ++ r → token.end ≡ byte_length x → AreGaps (setting_of (after u (lexeme_of token))) r gs at
    → ((after u (lexeme_of token)).wanted ≡ wanted.Token → cut_gap at ≡ None) → two ≡ one ++ gap_lines (byte_length x) gs)
    → HasLines text (after s (lexeme_of token)) rest two
with_token text s from rest token out one two so c value first then = (
  qs,
  cut,
  λ gs at gaps ends.
      then s (c.before ++ c.own) rest gs at whole end gaps ends ∙ ap (λ (t : List ℕ). t ++ gap_lines (byte_length (c.before ++ c.own)) gs) (first ∙ lines)
      ∙ ap (λ (n : ℕ). lines_from 0 qs ++ gap_lines n gs) (sym end ∙ place_end),
)
  where
    gs : List Gap
    gs = c.gaps.0

    l : Lexeme
    l = lexeme_of token

    piece : Piece
    piece = record { shape = c.kind; text = c.own; lexeme = Some l }

    more : List Piece
    more = gap_pieces gs ++ piece ∷ []

    qs : List Piece
    qs = so.0 ++ more

    gaps : AreCut s from (gap_pieces gs) s (c.own ++ rest)
    gaps = gaps_are_cut s from (c.own ++ rest) gs c.gaps.1

    before : AreCut start text (so.0 ++ gap_pieces gs) s (c.own ++ rest)
    before = cut_append start s s text from (c.own ++ rest) so.0 (gap_pieces gs) so.1 gaps

    cut : AreCut start text qs (after s l) rest
    cut = cut_append start s (after s l) text from rest so.0 more so.1
        (cut_append s s (after s l) from (c.own ++ rest) rest (gap_pieces gs) (piece ∷ []) gaps (rest, refl, c.piece, (c.told, value), (refl, refl)))

    whole : text ≡ (c.before ++ c.own) ++ rest
    whole = c.stands ∙ sym (append_assoc c.before c.own rest)

    end : token.end ≡ byte_length (c.before ++ c.own)
    end = c.place.2 ∙ sym (bytes_append c.before c.own)

    total_append : (xs ys : List Piece) → total (xs ++ ys) ≡ total xs + total ys
    total_append [] ys = omega arith
    total_append (x ∷ xs) ys = let t = total_append xs ys in omega (arith, t)

    place : token.start ≡ total so.0 + total (gap_pieces gs)
    place =
        let a = cut_total start s text (c.own ++ rest) (so.0 ++ gap_pieces gs) before in
        let b = ap byte_length c.stands ∙ bytes_append c.before (c.own ++ rest) in
        let d = total_append so.0 (gap_pieces gs) in
        let e = c.place.1 in omega (arith, a, b, d, e)

    place_end : token.end ≡ total qs
    place_end =
        let a = total_append so.0 more in
        let b = total_append (gap_pieces gs) (piece ∷ []) in
        let d = c.place.2 in
        let e = c.place.1 in
        let f = place in omega (arith, a, b, d, e, f)

    row : List ℕ
    row = record_line (token_row token.start token.end token.text.now l)

    row_is : row ≡ line_if (row_of (total so.0 + total (gap_pieces gs)) (total so.0 + total (gap_pieces gs) + byte_length c.own) (encode_utf8_all c.own) c.kind (Some l))
    row_is =
        let finish : token.end ≡ total so.0 + total (gap_pieces gs) + byte_length c.own = c.place.2 ∙ ap (λ (n : ℕ). n + byte_length c.own) (sym c.place.1 ∙ place) in
        ap (λ (n : ℕ). record_line (token_row n token.end token.text.now l)) place
        ∙ ap (λ (n : ℕ). record_line (token_row (total so.0 + total (gap_pieces gs)) n token.text.now l)) finish
        ∙ ap (λ (t : List ℕ). record_line (token_row (total so.0 + total (gap_pieces gs)) (total so.0 + total (gap_pieces gs) + byte_length c.own) t l)) c.place.0

    lines : out ++ row ≡ lines_from 0 qs
    lines =
        ap (λ (t : List ℕ). t ++ row) (so.2 gs (c.own ++ rest) c.gaps.1 (ends_at_piece s c.kind c.own rest c.piece (lexeme_shape s c.kind c.own l c.told)))
        ∙ append_assoc (lines_from 0 so.0) (gap_lines (total so.0) gs) row
        ∙ ap (λ (t : List ℕ). lines_from 0 so.0 ++ t)
        (ap (λ (t : List ℕ). t ++ row) (sym (lines_gaps (total so.0) gs))
        ∙ ap (λ (t : List ℕ). lines_from (total so.0) (gap_pieces gs) ++ t) (row_is ∙ sym (append-nil _))
        ∙ sym (lines_append (total so.0) (gap_pieces gs) (piece ∷ [])))
        ∙ lines_joined so.0 more

pub next_lines : (text : List ℕ) (r t : Reading) (token : Token) (out one two : List ℕ) → r.text ≡ text → HasLines text r.state r.rest out → TakesToken r t token
    → one ≡ out ++ record_line (token_row token.start token.end token.text.now (lexeme_of token))
    → ((u : Directives) (x : List ℕ) (r : List ℕ) (gs : List Gap) (at : List ℕ) → text ≡ x ++ r → token.end ≡ byte_length x → AreGaps (setting_of (after u (lexeme_of token))) r gs at
    → ((after u (lexeme_of token)).wanted ≡ wanted.Token → cut_gap at ≡ None) → two ≡ one ++ gap_lines (byte_length x) gs)
    → HasLines text t.state t.rest two
next_lines text r t token out one two same so taken first then =
    let h = taken.0 in
    subst (λ (v : Directives). HasLines text v t.rest two) (sym h.2)
    (with_token text r.state r.rest t.rest token out one two so (subst (λ (b : List ℕ). IsToken b r.state r.rest t.rest token) same h.0) h.1 first then)

-- the text before the end of a token
pub token_ends : (text : List ℕ) (r t : Reading) (token : Token) → r.text ≡ text → TakesToken r t token → (x : List ℕ) × (rest : List ℕ) × (text ≡ x ++ rest) × (token.end ≡ byte_length x)
token_ends text r t token same taken =
    let c = taken.0.0 in (c.before ++ c.own, t.rest, sym same ∙ c.stands ∙ sym (append_assoc c.before c.own t.rest), c.place.2 ∙ sym (bytes_append c.before c.own))

pub all_lines : (bytes : List ℕ) (r : Reading) (out : List ℕ) → r.text ≡ chars bytes → HasLines (chars bytes) r.state r.rest out → EndsAfter r → IsTokensText bytes out
all_lines bytes r out same so last =
    let gs = last.3.0 in
    let gaps = last.3.1 in (
      so.0 ++ gap_pieces gs,
      (last.0, last.1, r.state, sym same ∙ last.2, cut_append start r.state r.state (chars bytes) r.rest last.1 so.0 (gap_pieces gs) so.1 (gaps_are_cut r.state r.rest last.1 gs gaps), last.4),
      so.2 gs last.1 gaps (ends_at_last r.state last.1 (byte_length last.0) last.4)
          ∙ ap (λ (t : List ℕ). lines_from 0 so.0 ++ t) (sym (lines_gaps (total so.0) gs)) ∙ lines_joined so.0 (gap_pieces gs),
    )

-- ---- the next token, or none

pub takes : (r t : Reading) (token : Token) → r.fault ≡ None → IsNext r t (Ok (Some token)) → TakesToken r t token
takes r t token none next = (next_advances r t (Ok (Some token)) none next, still_none r t (Some token) none next)

pub ends : (r t : Reading) → r.fault ≡ None → IsNext r t (Ok None) → EndsAfter r
ends r t none next =
    let h = next_advances r t (Ok None) none next in
    (r.text, [], sym (append-nil r.text), h.0.0, inl (refl, h.0.1))

pub next_answer : (r t : Reading) (o : Option Token) → r.fault ≡ None → IsNext r t (Ok o) → MatchOption o (EndsAfter r) (λ token. TakesToken r t token)
next_answer r t None none next = ends r t none next
next_answer r t (Some token) none next = takes r t token none next

pub stops : (r t : Reading) (f : ScriptFault) → r.fault ≡ None → IsNext r t (Err f) → (f ≡ fault.OutOfMemory → ⊥) → EndsAfter r
stops r t f none next other = by (next_advances r t (Err f) none next).2
  where
    by : (f ≡ fault.OutOfMemory) ⊎ Stops r.text r.state r.rest f → EndsAfter r
    by (inl memory) = absurd (other memory)
    by (inr h) = (h.0, h.1, h.2, h.3, inr (f, h.4))

pub shorter : (r t : Reading) (token : Token) → TakesToken r t token → length t.rest < length r.rest
shorter r t token taken = next_shorter r.text r.state r.rest t.state t.rest token taken.0

pub next_taken : (r t : Reading) (o : Option Token) (token : Token) → o ≡ Some token → MatchOption o (EndsAfter r) (λ k. TakesToken r t k) → TakesToken r t token
next_taken r t o token is next = subst (λ (p : Option Token). MatchOption p (EndsAfter r) (λ k. TakesToken r t k)) is next

pub next_ends : (r t : Reading) (o : Option Token) → o ≡ None → MatchOption o (EndsAfter r) (λ k. TakesToken r t k) → EndsAfter r
next_ends r t o is next = subst (λ (p : Option Token). MatchOption p (EndsAfter r) (λ k. TakesToken r t k)) is next
