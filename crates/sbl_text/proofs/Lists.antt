-- The tokens of a text, one after another.
use Rattle.std.proofs.Common.{◌≡◌, ℕ, ◌+◌, ◌<◌, ◌≤◌, List, [], ◌∷◌, ◌++◌, length, map, Option, Some, None, Result, Ok, Err, refl, sym, ap, subst, ◌∙◌, arith, ◌⊎◌, inl, inr, length-append}
use Rattle.std.specs.Prelude.{encode_utf8_all}
use Rattle.std.proofs.lemmas.Str.{encodes-append}
use Rattle.sbl_text.specs.declared.pieces.Shape.{Shape}
use Rattle.sbl_text.specs.declared.pieces.Shape.TheVariants as shape
use Rattle.sbl_text.specs.declared.escapes.Inserts.{Inserts}
use Rattle.sbl_text.specs.declared.fault.ScriptFault.{ScriptFault}
use Rattle.sbl_text.specs.declared.fault.ScriptFault.TheVariants as fault
use Rattle.sbl_token.specs.declared.token.Token.{Token}
use Rattle.sbl_text.specs.Literals.{byte_length}
use Rattle.sbl_text.specs.Pieces.{Has, IsPiece, Gap, AreGaps, AfterGaps}
use Rattle.std.specs.List.{All}
use Rattle.std.proofs.lemmas.List.Elements.{All-append, All-cons, All-nil}
use Rattle.sbl_token.specs.Lexemes.{Lexeme, lexeme_of, SaysFitting}
use Rattle.sbl_text.specs.Directives.{Directives, setting_of, after}
use Rattle.sbl_text.specs.Tokens.{Says, Piece, AreCut, piece_lexemes, AreTokensFrom, PlacedToken, placed_of, placed_from, ArePlacedFrom, IsFirstFaultFrom, Stops, IsAt, Advances, Reading, IsAnswer, IsNext}
use Rattle.sbl_text.specs.inside.TokenParts.{after_piece, and_more, put_placed}
use Rattle.sbl_text.proofs.Written.{sign_found_as}

pub append_nil : {X : Type 0} (xs : List X) → xs ++ [] ≡ xs
append_nil [] = refl
append_nil (x ∷ xs) = ap (λ t. x ∷ t) (append_nil xs)

pub map_append : {X Y : Type 0} (f : X → Y) (xs : List X) (x : X) → map f (xs ++ x ∷ []) ≡ map f xs ++ f x ∷ []
map_append f [] x = refl
map_append f (y ∷ xs) x = ap (λ t. f y ∷ t) (map_append f xs x)

-- ---- lists of pieces

pub cut_append : (s m t : Directives) (text mid rest : List ℕ) (ps qs : List Piece) → AreCut s text ps m mid → AreCut m mid qs t rest → AreCut s text (ps ++ qs) t rest
cut_append s m t text mid rest [] qs a b = subst (λ (u : Directives). AreCut u text qs t rest) (sym a.1) (subst (λ (x : List ℕ). AreCut m x qs t rest) (sym a.0) b)
cut_append s m t text mid rest (p ∷ ps) qs a b = (a.0, a.1, a.2, a.3, cut_append (after_piece s p.lexeme) m t a.0 mid rest ps qs a.4 b)

pub said_append : (ps qs : List Piece) → piece_lexemes (ps ++ qs) ≡ piece_lexemes ps ++ piece_lexemes qs
said_append [] qs = refl
said_append (p ∷ ps) qs = more p.lexeme (said_append ps qs)
  where
    more : (o : Option Lexeme) → piece_lexemes (ps ++ qs) ≡ piece_lexemes ps ++ piece_lexemes qs → and_more o (piece_lexemes (ps ++ qs)) ≡ and_more o (piece_lexemes ps) ++ piece_lexemes qs
    more None h = h
    more (Some l) h = ap (λ (t : List Lexeme). l ∷ t) h

-- how many bytes the pieces have
abbrev pub total : List Piece → ℕ
total [] = 0
total (p ∷ ps) = byte_length p.text + total ps

pub bytes_append : (x y : List ℕ) → byte_length (x ++ y) ≡ byte_length x + byte_length y
bytes_append x y = ap length (encodes-append x y) ∙ length-append (encode_utf8_all x) (encode_utf8_all y)

pub cut_total : (s t : Directives) (text rest : List ℕ) (ps : List Piece) → AreCut s text ps t rest → byte_length text ≡ total ps + byte_length rest
cut_total s t text rest [] h = let k = ap byte_length h.0 in omega arith
cut_total s t text rest (p ∷ ps) h =
    let k = ap byte_length h.1 ∙ bytes_append p.text h.0 in let r = cut_total (after_piece s p.lexeme) t h.0 rest ps h.4 in omega arith

placed_more : (place : ℕ) (x : List ℕ) (o : Option Lexeme) (xs ys zs : List PlacedToken) → zs ≡ xs ++ ys → put_placed place x o zs ≡ put_placed place x o xs ++ ys
placed_more place x None xs ys zs h = h
placed_more place x (Some l) xs ys zs h = ap (put_placed place x (Some l)) h

placed_append : (n m : ℕ) (ps qs : List Piece) → m ≡ n + total ps → placed_from n (ps ++ qs) ≡ placed_from n ps ++ placed_from m qs
placed_append n m [] qs h = let e : n ≡ m = omega arith in ap (λ (k : ℕ). placed_from k qs) e
placed_append n m (p ∷ ps) qs h =
    placed_more n p.text p.lexeme (placed_from (n + byte_length p.text) ps) (placed_from m qs) (placed_from (n + byte_length p.text) (ps ++ qs))
    (placed_append (n + byte_length p.text) m ps qs (omega arith))

-- ---- gaps

pub as_pieces : List Gap → List Piece
as_pieces [] = []
as_pieces (g ∷ gs) = record { shape = g.shape; text = g.text; lexeme = None } ∷ as_pieces gs

pub gaps_cut : (s : Directives) (text rest : List ℕ) (gs : List Gap) → AreGaps (setting_of s) text gs rest → AreCut s text (as_pieces gs) s rest
unfolding as_pieces
gaps_cut s text rest [] h = (h, refl)
gaps_cut s text rest (g ∷ gs) h = (h.0, h.1, h.2, h.3, gaps_cut s h.0 rest gs h.4)

pub said_gaps : (gs : List Gap) → piece_lexemes (as_pieces gs) ≡ []
unfolding as_pieces
said_gaps [] = refl
said_gaps (g ∷ gs) = said_gaps gs

placed_gaps : (n : ℕ) (gs : List Gap) → placed_from n (as_pieces gs) ≡ []
unfolding as_pieces
placed_gaps n [] = refl
placed_gaps n (g ∷ gs) = placed_gaps (n + byte_length g.text) gs

-- ---- the tokens so far

abbrev pub SoFar : Directives → List ℕ → Directives → List ℕ → List Token → Type 0
SoFar first source s rest ts = (ps : List Piece) × AreCut first source ps s rest × (map lexeme_of ts ≡ piece_lexemes ps) × (map placed_of ts ≡ placed_from 0 ps)

pub none_yet : (first : Directives) (source : List ℕ) (s : Directives) → s ≡ first → SoFar first source s source []
none_yet first source s h = ([], (refl, sym h), refl, refl)

pub over_gaps : (first : Directives) (source : List ℕ) (s : Directives) (rest at : List ℕ) (ts : List Token) → SoFar first source s rest ts → AfterGaps (setting_of s) rest at → SoFar first source s at ts
over_gaps first source s rest at ts b g = (
  b.0 ++ as_pieces g.0,
  cut_append first s s source rest at b.0 (as_pieces g.0) b.1 (gaps_cut s rest at g.0 g.1),
  b.2 ∙ sym (said_append b.0 (as_pieces g.0) ∙ ap (λ (t : List Lexeme). piece_lexemes b.0 ++ t) (said_gaps g.0) ∙ append_nil (piece_lexemes b.0)),
  b.3 ∙ sym (placed_append 0 (total b.0) b.0 (as_pieces g.0) (omega arith) ∙ ap (λ (t : List PlacedToken). placed_from 0 b.0 ++ t) (placed_gaps (total b.0) g.0) ∙ append_nil (placed_from 0 b.0)),
)

same_placed : (t : Token) (x before : List ℕ) (n : ℕ) → byte_length before ≡ n → IsAt before x t → placed_of t ∷ [] ≡ put_placed n x (Some (lexeme_of t)) []
same_placed t x before n h a =
    let make : List ℕ → ℕ → ℕ → List PlacedToken = λ b i j. record { lexeme = lexeme_of t; text = b; start = i; end = j } ∷ [] in
    ap (λ (b : List ℕ). make b t.start t.end) a.0 ∙ ap (λ (i : ℕ). make (encode_utf8_all x) i t.end) (a.1 ∙ h) ∙ ap (make (encode_utf8_all x) n) (a.2 ∙ ap (λ (m : ℕ). m + byte_length x) h)

one_more : (first : Directives) (source : List ℕ) (s : Directives) (at x rest before : List ℕ) (k : Shape) (t : Token) (ts : List Token) → SoFar first source s at ts → at ≡ x ++ rest → source ≡ before ++ at → IsPiece (setting_of s) k x rest
    → Says s k x (lexeme_of t) → IsAt before x t → SoFar first source (after s (lexeme_of t)) rest (ts ++ t ∷ [])
one_more first source s at x rest before k t ts b is prefix p says place =
    let n : byte_length before ≡ total b.0 = (let h = cut_total first s source at b.0 b.1 in let j = ap byte_length prefix ∙ bytes_append before at in omega arith) in
    let q : Piece = record { shape = k; text = x; lexeme = Some (lexeme_of t) } in (
      b.0 ++ q ∷ [],
      cut_append first s (after s (lexeme_of t)) source at rest b.0 (q ∷ []) b.1 (rest, is, p, says, (refl, refl)),
      map_append lexeme_of ts t ∙ ap (λ (l : List Lexeme). l ++ lexeme_of t ∷ []) b.2 ∙ sym (said_append b.0 (q ∷ [])),
      map_append placed_of ts t ∙ ap (λ (l : List PlacedToken). l ++ placed_of t ∷ []) b.3 ∙ ap (λ (l : List PlacedToken). placed_from 0 b.0 ++ l) (same_placed t x before (total b.0) n place)
          ∙ sym (placed_append 0 (total b.0) b.0 (q ∷ []) (omega arith)),
    )

pub with_next : (first : Directives) (source : List ℕ) (s : Directives) (from : List ℕ) (u : Directives) (rest : List ℕ) (t : Token) (ts : List Token) → SoFar first source s from ts → Advances source s from u rest (Ok (Some t)) → SoFar first source u rest (ts ++ t ∷ [])
with_next first source s from u rest t ts b h =
    let c = h.0 in
    subst (λ (v : Directives). SoFar first source v rest (ts ++ t ∷ [])) (sym h.2)
    (one_more first source s (c.own ++ rest) c.own rest c.before c.kind t ts (over_gaps first source s from (c.own ++ rest) ts b c.gaps) refl c.stands c.piece (c.told, h.1) c.place)

pub next_fits : (source : List ℕ) (s : Directives) (from : List ℕ) (u : Directives) (rest : List ℕ) (t : Token) (ts : List Token) → All SaysFitting ts → Advances source s from u rest (Ok (Some t)) → All SaysFitting (ts ++ t ∷ [])
next_fits source s from u rest t ts all h = let c = h.0 in All-append SaysFitting ts (t ∷ []) all (All-cons SaysFitting t [] c.fitting (All-nil SaysFitting))

pub all_tokens : (first : Directives) (source : List ℕ) (s : Directives) (from : List ℕ) (u : Directives) (rest : List ℕ) (ts : List Token) → SoFar first source s from ts → Advances source s from u rest (Ok None) → AreTokensFrom first source (map lexeme_of ts)
all_tokens first source s from u rest ts b h = let r = over_gaps first source s from [] ts b h.0.0 in (r.0, s, r.1, h.0.1, r.2)

pub all_placed : (first : Directives) (source : List ℕ) (s : Directives) (from : List ℕ) (u : Directives) (rest : List ℕ) (ts : List Token) → SoFar first source s from ts → Advances source s from u rest (Ok None) → ArePlacedFrom first source (map placed_of ts)
all_placed first source s from u rest ts b h = let r = over_gaps first source s from [] ts b h.0.0 in (r.0, s, r.1, h.0.1, r.3)

first_fault : (first : Directives) (source : List ℕ) (s : Directives) (from : List ℕ) (f : ScriptFault) (ts : List Token) → SoFar first source s from ts → (f ≡ fault.OutOfMemory) ⊎ Stops source s from f → (f ≡ fault.OutOfMemory) ⊎ IsFirstFaultFrom first source f
first_fault first source s from f ts b (inl h) = inl h
first_fault first source s from f ts b (inr h) = let r = over_gaps first source s from h.1 ts b h.3 in inr (h.0, h.1, r.0, s, h.2, r.1, h.4)

pub first_of_all : (first : Directives) (source : List ℕ) (s : Directives) (from : List ℕ) (u : Directives) (rest : List ℕ) (f : ScriptFault) (ts : List Token) → SoFar first source s from ts → Advances source s from u rest (Err f) → (f ≡ fault.OutOfMemory) ⊎ IsFirstFaultFrom first source f
first_of_all first source s from u rest f ts b h = first_fault first source s from f ts b h.2

-- ---- a token takes something

pub some_text : (e : Option Inserts) (k : Shape) (x : List ℕ) → Has e k x → 0 < length x
some_text e shape.Word x h = let l = ap length h.2 in omega arith
some_text e shape.Number x h = let l = ap length h.2 in omega arith
some_text e shape.Inserts x h = let l = ap length h.2 in omega arith
some_text e shape.MacroName x h = let l = ap length h.2 in omega arith
some_text e shape.Sign [] h = absurd (let k = sign_found_as [] h.0 h.1 in cc)
some_text e shape.Sign (c ∷ x) h = omega arith
some_text e _ x h = let l = ap length h.1 in omega arith

gaps_shorter : (s : Directives) (text rest : List ℕ) (gs : List Gap) → AreGaps (setting_of s) text gs rest → length rest ≤ length text
gaps_shorter s text rest [] h = let l = ap length h in omega arith
gaps_shorter s text rest (g ∷ gs) h =
    let l = ap length h.1 ∙ length-append g.text h.0 in let r = gaps_shorter s h.0 rest gs h.4 in omega arith

pub next_shorter : (source : List ℕ) (s : Directives) (from : List ℕ) (u : Directives) (rest : List ℕ) (t : Token) → Advances source s from u rest (Ok (Some t)) → length rest < length from
next_shorter source s from u rest t h =
    let c = h.0 in
    let l = gaps_shorter s from (c.own ++ rest) c.gaps.0 c.gaps.1 in
    let m = length-append c.own rest in
    let k = some_text s.escapes.inserts c.kind c.own c.piece.stands.has in omega arith

-- where no fault was answered
pub next_advances : (r t : Reading) (result : Result (Option Token) ScriptFault) → r.fault ≡ None → IsNext r t result → Advances r.text r.state r.rest t.state t.rest result
next_advances r t result none h = fresh result (subst (λ (o : Option ScriptFault). IsAnswer o r t result) none h)
  where
    met : (f : ScriptFault) → ((f ≡ fault.OutOfMemory) × (t.fault ≡ None)) ⊎ (Stops r.text r.state r.rest f × (t.fault ≡ Some f)) → (f ≡ fault.OutOfMemory) ⊎ Stops r.text r.state r.rest f
    met f (inl o) = inl o.0
    met f (inr o) = inr o.0

    fresh : (a : Result (Option Token) ScriptFault) → IsAnswer None r t a → Advances r.text r.state r.rest t.state t.rest a
    fresh (Ok o) k = k.0
    fresh (Err f) k = (k.0, k.1, met f k.2)

pub still_none : (r t : Reading) (o : Option Token) → r.fault ≡ None → IsNext r t (Ok o) → t.fault ≡ None
still_none r t o none h = (subst (λ (f : Option ScriptFault). IsAnswer f r t (Ok o)) none h).1
