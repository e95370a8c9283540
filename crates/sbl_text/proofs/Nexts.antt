-- What comes next in a text.
use Rattle.std.proofs.Common.{◌≡◌, ℕ, ◌+◌, ◌-◌, ◌*◌, ◌<◌, ◌≤◌, ◌^◌, Bool, true, false, List, [], ◌∷◌, ◌++◌, length, Option, Some, None, refl, sym, ap, subst, ◌∙◌, arith, append_assoc, ◌⊎◌, inl, inr, length-append}
use Rattle.std.specs.Prelude.{not, ◌||◌, ◌==◌, if◌then◌else◌, option_map, encode_utf8, encode_utf8_all}
use Rattle.std.proofs.lemmas.Bool.Decides.{nat_tests}
use Rattle.std.specs.Str.{chars, IsUtf8}
use Rattle.std.proofs.lemmas.Str.{encodes-append, encodes-chars, length-encode}
use Rattle.sbl_token.specs.declared.words.Word.{Word}
use Rattle.sbl_text.specs.declared.pieces.Shape.{Shape}
use Rattle.sbl_text.specs.declared.pieces.Shape.TheVariants as shape
use Rattle.sbl_text.specs.declared.pieces.Expectation.{Expectation}
use Rattle.sbl_text.specs.declared.pieces.Expectation.TheVariants as wanted
use Rattle.sbl_text.specs.declared.escapes.Inserts.{Inserts}
use Rattle.sbl_text.specs.declared.fault.ScriptFault.{ScriptFault}
use Rattle.sbl_text.specs.declared.fault.ScriptFault.TheVariants as fault
use Rattle.sbl_token.specs.declared.token.Token.{Token}
use Rattle.sbl_token.specs.Words.{word_of}
use Rattle.sbl_text.specs.Escapes.{InForce, opens, closes}
use Rattle.sbl_text.specs.Literals.{byte_length, Means, FirstWrong, is_closed}
use Rattle.sbl_text.specs.Pieces.{is_inner, Setting, NoPiece, Gap, AreGaps, AfterGaps}
use Rattle.sbl_text.specs.inside.PieceParts.{setting}
use Rattle.sbl_text.specs.Scan.{Piece_at}
use Rattle.sbl_token.specs.Lexemes.{Lexeme, literal, lexeme_of, SaysFitting}
use Rattle.sbl_text.specs.Directives.{Directives, Defining, setting_of, value_for}
use Rattle.sbl_text.specs.inside.DirectiveParts.{no_directive, defined_by}
use Rattle.sbl_text.specs.Tokens.{IsLexeme, MayEnd, IsRefused, fault_at, Stops, Comes}
use Rattle.sbl_text.specs.inside.TokenParts.{digits_value, word_or_name, LacksValue, pair_fault}

-- ---- numbers

pub digits_grow : (n : ℕ) (cs : List ℕ) → n ≤ digits_value n cs
digits_grow n [] = omega arith
digits_grow n (c ∷ cs) = let h = digits_grow (n * 10 + (c - 48)) cs in omega arith

pub too_large : (v d n total : ℕ) (text rest : List ℕ) → text ≡ d ∷ rest → digits_value v text ≡ total → n < v * 10 + (d - 48) → n < total
too_large v d n total text rest is whole above =
    let e : digits_value (v * 10 + (d - 48)) rest ≡ total = ap (digits_value v) (sym is) ∙ whole in
    let g = digits_grow (v * 10 + (d - 48)) rest in omega arith

-- ---- words

pub same_word_or_name : (text bytes : List ℕ) (o : Option Word) → bytes ≡ text → word_of text ≡ o → word_or_name o text ≡ word_or_name (word_of bytes) bytes
same_word_or_name text bytes o is found = ap (λ (p : Option Word). word_or_name p text) (sym found) ∙ ap (λ (t : List ℕ). word_or_name (word_of t) t) (sym is)

not_literal : (o : Option Word) (text spelling v : List ℕ) → literal spelling v ≡ word_or_name o text → ⊥
not_literal None text spelling v h = cc
not_literal (Some w) text spelling v h = cc

-- ---- places

gaps_prefix : (e : Setting) (text : List ℕ) (gs : List Gap) (rest : List ℕ) → AreGaps e text gs rest → (x : List ℕ) × (text ≡ x ++ rest)
gaps_prefix e text [] rest h = ([], h)
gaps_prefix e text (g ∷ gs) rest h =
    let r = gaps_prefix e h.0 gs rest h.4 in (g.text ++ r.0, h.1 ∙ ap (λ (t : List ℕ). g.text ++ t) r.1 ∙ sym (append_assoc g.text r.0 rest))

pub after_gaps : (e : Setting) (source from at : List ℕ) → (x : List ℕ) × (source ≡ x ++ from) → AfterGaps e from at → (x : List ℕ) × (source ≡ x ++ at)
after_gaps e source from at s h =
    let r = gaps_prefix e from h.0 at h.1 in (s.0 ++ r.0, s.1 ∙ ap (λ (t : List ℕ). s.0 ++ t) r.1 ∙ sym (append_assoc s.0 r.0 at))

pub after_piece : (source at x rest before : List ℕ) → source ≡ before ++ at → at ≡ x ++ rest → (y : List ℕ) × (source ≡ y ++ rest)
after_piece source at x rest before s h = (before ++ x, s ∙ ap (λ (t : List ℕ). before ++ t) h ∙ sym (append_assoc before x rest))

-- ---- what comes next

pub no_token : (s : Directives) (source from at : List ℕ) (place : ℕ) (f : ScriptFault) → (before : List ℕ) × (source ≡ before ++ at) → ((x : List ℕ) → source ≡ x ++ at → place ≡ byte_length x)
    → AfterGaps (setting_of s) from at → NoPiece (setting_of s) at → (at ≡ [] → s.wanted ≡ wanted.Inserts) × (f ≡ fault_at s.wanted at place) → Stops source s from f
no_token s source from at place f b p g n h = (b.0, at, b.1, g, inl (h.0, n, h.1 ∙ ap (fault_at s.wanted at) (p b.0 b.1)))

pub no_piece_refused : (s : Directives) (source from at rest text : List ℕ) (k : Shape) (place : ℕ) (f : ScriptFault) → (before : List ℕ) × (source ≡ before ++ at) → ((x : List ℕ) → source ≡ x ++ at → place ≡ byte_length x)
    → AfterGaps (setting_of s) from at → Piece_at (setting_of s) k at rest → ((x : List ℕ) → at ≡ x ++ rest → text ≡ x)
    → (f ≡ fault.OutOfMemory) ⊎ IsRefused s k text place f → (f ≡ fault.OutOfMemory) ⊎ Stops source s from f
no_piece_refused s source from at rest text k place f b p g c t (inl h) = inl h
no_piece_refused s source from at rest text k place f b p g c t (inr h) =
    inr (b.0, at, b.1, g, inr (k, c.0, rest, c.1, c.2, subst (λ (n : ℕ). IsRefused s k c.0 n f) (p b.0 b.1) (subst (λ (y : List ℕ). IsRefused s k y place f) (t c.0 c.1) h)))

pub comes_end : (s : Directives) (source from at : List ℕ) → AfterGaps (setting_of s) from at → at ≡ [] → MayEnd s → Comes source s from at None
comes_end s source from at g e m = (subst (AfterGaps (setting_of s) from) e g, m, e)

pub comes : (s : Directives) (source from at rest text : List ℕ) (k : Shape) (t : Token) → (before : List ℕ) × (source ≡ before ++ at) → ((x : List ℕ) → source ≡ x ++ at → t.start ≡ byte_length x)
    → ((x : List ℕ) → source ≡ x ++ rest → t.end ≡ byte_length x)
    → AfterGaps (setting_of s) from at → Piece_at (setting_of s) k at rest → ((x : List ℕ) → at ≡ x ++ rest → text ≡ x) → ((x : List ℕ) → at ≡ x ++ rest → t.text.now ≡ encode_utf8_all x)
    → IsLexeme s k text (lexeme_of t) → SaysFitting t → Comes source s from rest (Some t)
comes s source from at rest text k t b p q g c same bytes told fitting = record {
  before = b.0;
  own = c.0;
  kind = k;
  stands = b.1 ∙ ap (λ (y : List ℕ). b.0 ++ y) c.1;
  gaps = subst (AfterGaps (setting_of s) from) c.1 g;
  piece = c.2;
  told = subst (λ (y : List ℕ). IsLexeme s k y (lexeme_of t)) (same c.0 c.1) told;
  place = (
    bytes c.0 c.1,
    p b.0 b.1,
    q (b.0 ++ c.0) (b.1 ∙ ap (λ (y : List ℕ). b.0 ++ y) c.1 ∙ sym (append_assoc b.0 c.0 rest)) ∙ ap length (encodes-append b.0 c.0) ∙ length-append (encode_utf8_all b.0) (encode_utf8_all c.0),
  );
  fitting = fitting;
}

-- what is left after it ends the text
pub next_ends : (s : Directives) (source from rest : List ℕ) (o : Option Token) → (x : List ℕ) × (source ≡ x ++ from) → Comes source s from rest o → (x : List ℕ) × (source ≡ x ++ rest)
next_ends s source from rest None b h = let r = after_gaps (setting_of s) source from [] b h.0 in (r.0, r.1 ∙ ap (λ (t : List ℕ). r.0 ++ t) (sym h.2))
next_ends s source from rest (Some t) b h = (h.before ++ h.own, h.stands ∙ sym (append_assoc h.before h.own rest))

-- a literal that lacks a value for its macro
pub lacking : (s : Directives) (source from rest : List ℕ) (t : Token) (l : Lexeme) (f : ScriptFault) → lexeme_of t ≡ l → Comes source s from rest (Some t) → (f ≡ fault.OutOfMemory) ⊎ (LacksValue s l × (f ≡ fault.BadCode t.start))
    → (f ≡ fault.OutOfMemory) ⊎ Stops source s from f
lacking s source from rest t l f is c (inl h) = inl h
lacking s source from rest t (literal spelling v) f is c (inr h) =
    inr (c.before, c.own ++ rest, c.stands, c.gaps, inr (c.kind, c.own, rest, refl, c.piece, refused_as c.kind c.own spelling v (byte_length c.before) f (subst (IsLexeme s c.kind c.own) is c.told) h.0 (h.1 ∙ ap fault.BadCode c.place.1)))
  where
    refused_as : (k : Shape) (x spelling v : List ℕ) (n : ℕ) (f : ScriptFault) → IsLexeme s k x (literal spelling v) → value_for s.defining v ≡ None → f ≡ fault.BadCode n → IsRefused s k x n f
    refused_as shape.Literal x spelling v n f told none eq =
        let same : v ≡ told.1 = (let e = told.4 in cc) in
        (told.0, told.2, inr (told.1, told.3, ap (value_for s.defining) (sym same) ∙ none, eq))
    refused_as shape.Word x spelling v n f told none eq = absurd (not_literal (word_of (encode_utf8_all x)) (encode_utf8_all x) spelling v told)
    refused_as shape.Number x spelling v n f told none eq = absurd (let e = told.1 in cc)
    refused_as shape.Sign x spelling v n f told none eq = absurd (let e = told.2 in cc)
    refused_as shape.Inserts x spelling v n f told none eq = absurd (cc)
    refused_as shape.MacroName x spelling v n f told none eq = absurd (cc)
    refused_as _ x spelling v n f told none eq = absurd told
lacking s source from rest t _ f is c (inr h) = absurd h.0

-- ---- literals

inner_closed_at : (e : Option Inserts) (c : ℕ) (cs : List ℕ) (q n : Bool) → (c == 39) ≡ q → (c == 10) ≡ n → (is_inner e (opens e c) cs ≡ true → is_closed e (opens e c) cs ≡ true)
    → (if q || n then false else is_inner e (opens e c) cs) ≡ true → is_closed e false (c ∷ cs) ≡ true
inner_closed_at e c cs true n i j more h = absurd (cc)
inner_closed_at e c cs false true i j more h = absurd (cc)
inner_closed_at e c cs false false i j more h = rw (i, j) (more h)

pub inner_closed : (e : Option Inserts) (b : Bool) (cs : List ℕ) → is_inner e b cs ≡ true → is_closed e b cs ≡ true
inner_closed e b [] h = h
inner_closed e true (c ∷ cs) h = inner_closed e (not (closes e c)) cs h
inner_closed e false (c ∷ cs) h = inner_closed_at e c cs (c == 39) (c == 10) refl refl (inner_closed e (opens e c) cs) h

pub letters_closed : (e f : InForce) (letters inner : List ℕ) → f ≡ e → letters ≡ inner → is_inner e.inserts false inner ≡ true → is_closed f.inserts false letters ≡ true
letters_closed e f letters inner same is h =
    ap (λ (g : InForce). is_closed g.inserts false letters) same ∙ ap (is_closed e.inserts false) is ∙ inner_closed e.inserts false inner h

pub inner_room : (text letters inner : List ℕ) (place : ℕ) → IsUtf8 text → chars text ≡ 39 ∷ (inner ++ 39 ∷ []) → letters ≡ inner → place + length text < 2 ^ 64 → place + 1 + byte_length letters < 2 ^ 64
inner_room text letters inner place u is same h =
    let q : length (encode_utf8 39) ≡ 1 = length-encode 39 in
    let a : length text ≡ byte_length (39 ∷ (inner ++ 39 ∷ [])) = ap length (sym (encodes-chars text u)) ∙ ap byte_length is in
    let b = length-append (encode_utf8 39) (encode_utf8_all (inner ++ 39 ∷ [])) in
    let d = ap length (encodes-append inner (39 ∷ [])) ∙ length-append (encode_utf8_all inner) (encode_utf8_all (39 ∷ [])) in
    let c = ap byte_length same in omega (arith, a, b, c, d, h, q)

pub told_literal : (s : Directives) (f : InForce) (text spelling letters inner v : List ℕ) → f ≡ s.escapes → text ≡ 39 ∷ (inner ++ 39 ∷ []) → spelling ≡ encode_utf8_all inner → letters ≡ inner → Means f letters v
    → IsLexeme s shape.Literal text (literal spelling v)
told_literal s f text spelling letters inner v same is bytes l m =
    (inner, v, is, subst (λ (t : List ℕ). Means s.escapes t v) l (subst (λ (g : InForce). Means g letters v) same m), ap (λ (t : List ℕ). literal t v) bytes)

pub wrong_literal : (s : Directives) (e : InForce) (text letters inner : List ℕ) (place : ℕ) (f : ScriptFault) → e ≡ s.escapes → text ≡ 39 ∷ (inner ++ 39 ∷ []) → letters ≡ inner
    → (f ≡ fault.OutOfMemory) ⊎ FirstWrong e letters (place + 1) f → (f ≡ fault.OutOfMemory) ⊎ IsRefused s shape.Literal text place f
wrong_literal s e text letters inner place f same is l (inl h) = inl h
wrong_literal s e text letters inner place f same is l (inr h) =
    inr (inner, is, inl (subst (λ (t : List ℕ). FirstWrong s.escapes t (place + 1) f) l (subst (λ (g : InForce). FirstWrong g letters (place + 1) f) same h)))

-- ---- what is set

pub same_setting : (s : Directives) (f : InForce) (i : Option Inserts) (w : Expectation) → i ≡ f.inserts → f ≡ s.escapes → w ≡ s.wanted → setting i w ≡ setting_of s
same_setting s f i w a b c = ap (λ (j : Option Inserts). setting j w) (a ∙ ap (λ (g : InForce). g.inserts) b) ∙ ap (setting s.escapes.inserts) c

pub nothing_defined : (s t : Directives) (v : List ℕ) → s.defining ≡ None → t ≡ no_directive s.escapes → (w : List ℕ) × (value_for s.defining v ≡ Some w) × (t ≡ no_directive (defined_by s.escapes s.defining v))
nothing_defined s t v d h = (v, ap (λ (o : Option Defining). value_for o v) d, h ∙ ap (λ (o : Option Defining). no_directive (defined_by s.escapes o v)) (sym d))

pub end_undefined : {D : Type 0} (f : D → Defining) (s : Directives) (o : Option D) (e : InForce) (w : Expectation) → (let u : Directives = record { escapes = e; wanted = w; defining = option_map f o } in u) ≡ s → o ≡ None → s.defining ≡ None
end_undefined f s o e w is h = ap (λ (u : Directives). u.defining) (sym is) ∙ ap (option_map f) h

pub after_first : (text cs : List ℕ) (c place n : ℕ) → text ≡ c ∷ cs → (c ≡ 39 → ⊥) → n ≡ byte_length (c ∷ []) → fault.BadCharacter (place + n) ≡ pair_fault text place
after_first text cs c place n is q m =
    let b : (c == 39) ≡ false = grind (arith, nat_tests) in
    let r : pair_fault (c ∷ cs) place ≡ fault.BadCharacter (place + byte_length (c ∷ [])) = rw b refl in
    ap (λ (k : ℕ). fault.BadCharacter (place + k)) m ∙ sym r ∙ ap (λ (t : List ℕ). pair_fault t place) (sym is)
