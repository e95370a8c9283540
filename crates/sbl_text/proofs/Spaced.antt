-- Lexemes that are written apart are read again.
use Rattle.std.proofs.Common.{◌≡◌, ℕ, ◌+◌, ◌-◌, ◌*◌, ◌/◌, ◌%◌, ◌<◌, ◌≤◌, ◌^◌, Bool, true, false, List, [], ◌∷◌, ◌++◌, length, Option, Some, None, refl, sym, ap, subst, ◌∙◌, arith, rules, append_assoc, length-append}
use Rattle.std.specs.Prelude.{not, ◌||◌, ◌==◌, if◌then◌else◌, encode_utf8_all, find, option_map}
use Rattle.std.specs.Str.{chars, IsUtf8, bytes_eq, all_scalars}
use Rattle.std.specs.List.{list_all, AllByRecursion}
use Rattle.std.specs.Fmt.{decimal}
use Rattle.std.specs.Char.{is_ascii_digit}
use Rattle.std.proofs.lemmas.Bool.Decides.{nat_tests}
use Rattle.std.proofs.lemmas.Fmt.{decimal_by_steps, IsAscii-decimal}
use Rattle.std.proofs.lemmas.Nat.{div-add-mod'}
use lib.Utf8.{scalar, low_scalar}
use Rattle.std.proofs.lemmas.Slice.Eq.{bytes_eq-Decides}
use Rattle.std.proofs.lemmas.Str.{chars-nil, encodes-chars, encodes-append, encode_ascii, chars-append, chars_from_encodes, chars-IsAscii, IsUtf8-from_ascii, scalars-chars}
use Rattle.sbl_token.specs.declared.words.Word.{Word}
use Rattle.sbl_token.specs.declared.signs.Sign.{Sign}
use Rattle.sbl_token.specs.declared.signs.Sign.TheVariants as signs
use Rattle.sbl_text.specs.declared.pieces.Shape.{Shape}
use Rattle.sbl_text.specs.declared.pieces.Shape.TheVariants as shape
use Rattle.sbl_text.specs.declared.pieces.Expectation.{Expectation}
use Rattle.sbl_text.specs.declared.pieces.Expectation.TheVariants as wanted
use Rattle.sbl_text.specs.declared.escapes.Inserts.{Inserts}
use Rattle.sbl_text.specs.Classes.{is_white, is_word}
use Rattle.sbl_token.specs.Words.{word_text, words, word_of}
use Rattle.sbl_token.specs.Signs.{sign_text}
use Rattle.sbl_token.specs.SignCuts.{two, sign_of}
use Rattle.sbl_text.specs.Pieces.{Has, may_come, Stands, IsPiece, BeginsComment, is_gap}
use Rattle.sbl_text.specs.inside.PieceParts.{setting}
use Rattle.sbl_text.specs.Scan.{IsCutFrom, FirstPiece, cut_in, past_literal}
use Rattle.sbl_token.specs.Lexemes.{Lexeme, number}
use Rattle.sbl_text.specs.Directives.{Directives, after}
use Rattle.sbl_text.specs.Tokens.{number_of, IsLexeme, Says, Piece, AreCut, piece_lexemes, MayEnd, AreTokensFrom}
use Rattle.sbl_text.specs.inside.TokenParts.{digits_value, word_or_name, MaySay, after_piece, and_more}
use Rattle.sbl_text.specs.SpacedTokens.{lexeme_text, IsSaidBy, IsSaid, after_all, AreSaid, SpacedToken, lexemes_of, are_white, spaced_text}
use Rattle.sbl_text.proofs.Written.{sign_found_as}
use Rattle.sbl_text.proofs.Cuts.{and_left, and_right, literal_ends}
use Rattle.sbl_text.proofs.Whole.{no_eq, if_same, LeavesCut, longest, cut_is}

-- ---- a text says what it is written as

word_found : (ps : List (Word × List ℕ)) (t : List ℕ) (w : Word) → AllByRecursion (λ p. word_text p.0 ≡ p.1) ps → option_map (λ p. p.0) (find (λ p. bytes_eq p.1 t) ps) ≡ Some w → word_text w ≡ t
word_found [] t w a h = absurd cc
word_found (p ∷ ps) t w a h = at (bytes_eq p.1 t) refl (word_found ps t w a.1) h
  where
    at : (b : Bool) → bytes_eq p.1 t ≡ b → (option_map (λ p. p.0) (find (λ p. bytes_eq p.1 t) ps) ≡ Some w → word_text w ≡ t)
        → option_map (λ p. p.0) (if b then Some p else find (λ p. bytes_eq p.1 t) ps) ≡ Some w → word_text w ≡ t
    at true i more k = let e : p.0 ≡ w = cc in sym (ap word_text e) ∙ a.0 ∙ (bytes_eq-Decides p.1 t).0 i
    at false i more k = more k

word_is : (t : List ℕ) (w : Word) → word_of t ≡ Some w → word_text w ≡ t
unfolding word_of
word_is t w h = word_found words t w (search rules) h

one_byte : (a : ℕ) → a < 128 → encode_utf8_all (a ∷ []) ≡ a ∷ []
one_byte a h = ap (λ (t : List ℕ). t ++ []) (encode_ascii a h)

two_bytes : (a b : ℕ) → a < 128 → b < 128 → encode_utf8_all (a ∷ b ∷ []) ≡ a ∷ b ∷ []
two_bytes a b h k = ap (λ (t : List ℕ). t ++ encode_utf8_all (b ∷ [])) (encode_ascii a h) ∙ ap (λ (t : List ℕ). a ∷ t) (one_byte b k)

sign_bytes : (g : Sign) → encode_utf8_all (sign_text g) ≡ sign_text g
sign_bytes signs.Open = one_byte 40 (omega arith)
sign_bytes signs.Close = one_byte 41 (omega arith)
sign_bytes signs.LeftBracket = one_byte 91 (omega arith)
sign_bytes signs.RightBracket = one_byte 93 (omega arith)
sign_bytes signs.Dollar = one_byte 36 (omega arith)
sign_bytes signs.Plus = one_byte 43 (omega arith)
sign_bytes signs.Minus = one_byte 45 (omega arith)
sign_bytes signs.Star = one_byte 42 (omega arith)
sign_bytes signs.Slash = one_byte 47 (omega arith)
sign_bytes signs.Equals = one_byte 61 (omega arith)
sign_bytes signs.Question = one_byte 63 (omega arith)
sign_bytes signs.Less = one_byte 60 (omega arith)
sign_bytes signs.Greater = one_byte 62 (omega arith)
sign_bytes signs.Same = two_bytes 61 61 (omega arith) (omega arith)
sign_bytes signs.Differs = two_bytes 33 61 (omega arith) (omega arith)
sign_bytes signs.AtMost = two_bytes 60 61 (omega arith) (omega arith)
sign_bytes signs.AtLeast = two_bytes 62 61 (omega arith) (omega arith)
sign_bytes signs.LessMinus = two_bytes 60 45 (omega arith) (omega arith)
sign_bytes signs.LessPlus = two_bytes 60 43 (omega arith) (omega arith)
sign_bytes signs.Arrow = two_bytes 45 62 (omega arith) (omega arith)
sign_bytes signs.PlusEquals = two_bytes 43 61 (omega arith) (omega arith)
sign_bytes signs.MinusEquals = two_bytes 45 61 (omega arith) (omega arith)
sign_bytes signs.StarEquals = two_bytes 42 61 (omega arith) (omega arith)
sign_bytes signs.SlashEquals = two_bytes 47 61 (omega arith) (omega arith)
sign_bytes signs.EqualsGreater = two_bytes 61 62 (omega arith) (omega arith)

encode_quoted : (inner : List ℕ) → encode_utf8_all (39 ∷ (inner ++ 39 ∷ [])) ≡ 39 ∷ (encode_utf8_all inner ++ 39 ∷ [])
encode_quoted inner =
    ap (λ (t : List ℕ). t ++ encode_utf8_all (inner ++ 39 ∷ [])) (encode_ascii 39 (omega arith))
    ∙ ap (λ (t : List ℕ). 39 ∷ t) (encodes-append inner (39 ∷ []) ∙ ap (λ (t : List ℕ). encode_utf8_all inner ++ t) (one_byte 39 (omega arith)))

-- but for numbers, whose leading zeros are not kept
same_text : (s : Directives) (k : Shape) (t : List ℕ) (l : Lexeme) → IsUtf8 t → (k ≡ shape.Number → ⊥) → IsLexeme s k (chars t) l → t ≡ lexeme_text l
same_text s shape.Word t l u n told = word_case (word_of (encode_utf8_all (chars t))) refl
  where
    word_case : (o : Option Word) → word_of (encode_utf8_all (chars t)) ≡ o → t ≡ lexeme_text l
    word_case None h = sym (ap lexeme_text (told ∙ ap (λ (p : Option Word). word_or_name p (encode_utf8_all (chars t))) h) ∙ encodes-chars t u)
    word_case (Some w) h = sym (ap lexeme_text (told ∙ ap (λ (p : Option Word). word_or_name p (encode_utf8_all (chars t))) h) ∙ word_is (encode_utf8_all (chars t)) w h ∙ encodes-chars t u)
same_text s shape.Sign t l u n told = sym (ap lexeme_text told.2 ∙ sym (sign_bytes told.0) ∙ ap encode_utf8_all (sym told.1) ∙ encodes-chars t u)
same_text s shape.Literal t l u n told = sym (ap lexeme_text told.4 ∙ sym (encode_quoted told.0) ∙ ap encode_utf8_all (sym told.2) ∙ encodes-chars t u)
same_text s shape.Inserts t l u n told = sym (ap lexeme_text told.3 ∙ ap encode_utf8_all (sym told.2) ∙ encodes-chars t u)
same_text s shape.MacroName t l u n told = sym (ap lexeme_text told ∙ encodes-chars t u)
same_text s shape.Number t l u n told = absurd (n refl)
same_text s _ t l u n told = absurd told

-- ---- numbers

abbrev Digits : List ℕ → Type 0
Digits ds = (c : ℕ) × (cs : List ℕ) × (ds ≡ c ∷ cs) × (is_ascii_digit c ≡ true) × (list_all is_ascii_digit cs ≡ true)

all_more : (p : ℕ → Bool) (xs : List ℕ) (x : ℕ) → list_all p xs ≡ true → p x ≡ true → list_all p (xs ++ x ∷ []) ≡ true
all_more p [] x h k = rw k refl
all_more p (y ∷ xs) x h k = rw (and_left (p y) (list_all p xs) h) (all_more p xs x (and_right (p y) (list_all p xs) h) k)

digits_more : (m : ℕ) (ds : List ℕ) (d : ℕ) → digits_value m (ds ++ d ∷ []) ≡ digits_value m ds * 10 + (d - 48)
digits_more m [] d = refl
digits_more m (c ∷ ds) d = digits_more (m * 10 + (c - 48)) ds d

digit_is : (m : ℕ) → m < 10 → is_ascii_digit (48 + m) ≡ true
digit_is m h = grind (arith, nat_tests)

decimal_number : (n : ℕ) → n < 2 ^ 64 → Digits (decimal n) × (number_of (decimal n) ≡ n)
decimal_number n h = decimal_by_steps (λ m ds. Digits ds × (number_of ds ≡ m)) one more n h
  where
    one : (m : ℕ) → m < 10 → Digits ((48 + m) ∷ []) × (number_of ((48 + m) ∷ []) ≡ m)
    one m k = ((48 + m, [], refl, digit_is m k, refl), omega arith)

    more : (m : ℕ) (ds : List ℕ) → 10 ≤ m → Digits ds × (number_of ds ≡ m / 10) → Digits (ds ++ (48 + m % 10) ∷ []) × (number_of (ds ++ (48 + m % 10) ∷ []) ≡ m)
    more m ds k r =
        let small : m % 10 < 10 = omega arith in
        let split = div-add-mod' m 10 in
        let value : number_of ds * 10 + (48 + m % 10 - 48) ≡ m = omega (arith, r.1, split) in (
          (r.0.0, r.0.1 ++ (48 + m % 10) ∷ [], ap (λ (t : List ℕ). t ++ (48 + m % 10) ∷ []) r.0.2, r.0.3, all_more is_ascii_digit r.0.1 (48 + m % 10) r.0.4 (digit_is (m % 10) small)),
          digits_more 0 ds (48 + m % 10) ∙ value,
        )

number_written : (s : Directives) (n : ℕ) → n ≤ 2147483647 → may_come s.wanted shape.Number ≡ true → IsSaidBy s (number n) shape.Number (decimal n)
number_written s n small may =
    let big : n < 2 ^ 64 = omega arith in
    let d = decimal_number n big in
    let is = chars-IsAscii (decimal n) (IsAscii-decimal n big) in (
      IsUtf8-from_ascii (decimal n) (IsAscii-decimal n big),
      subst (Has s.escapes.inserts shape.Number) (sym is) d.0,
      may,
      (subst (λ (x : List ℕ). IsLexeme s shape.Number x (number n)) (sym is) (subst (λ (m : ℕ). m ≤ 2147483647) (sym d.1) small, ap number (sym d.1)), tt),
    )

-- ---- how a lexeme is written says it

no_gap : (s : Directives) (k : Shape) (x : List ℕ) (l : Lexeme) → IsLexeme s k x l → is_gap k ≡ false
no_gap s shape.Blank x l h = absurd h
no_gap s shape.LineComment x l h = absurd h
no_gap s shape.BlockComment x l h = absurd h
no_gap s _ x l h = refl

said_as_written : (s : Directives) (l : Lexeme) (k : Shape) (t : List ℕ) → IsSaidBy s l k t → IsSaidBy s l k (lexeme_text l)
said_as_written s l k t h = by k h
  where
    other : (j : Shape) → (j ≡ shape.Number → ⊥) → IsSaidBy s l j t → IsSaidBy s l j (lexeme_text l)
    other j n g = subst (IsSaidBy s l j) (same_text s j t l g.0 n g.3.0) g

    by : (j : Shape) → IsSaidBy s l j t → IsSaidBy s l j (lexeme_text l)
    by shape.Number g =
        let told = g.3.0 in
        subst (λ (m : Lexeme). IsSaidBy s m shape.Number (lexeme_text m)) (sym told.1) (number_written s (number_of (chars t)) told.0 g.2)
    by shape.Word g = other shape.Word (λ i. cc) g
    by shape.Sign g = other shape.Sign (λ i. cc) g
    by shape.Literal g = other shape.Literal (λ i. cc) g
    by shape.Inserts g = other shape.Inserts (λ i. cc) g
    by shape.MacroName g = other shape.MacroName (λ i. cc) g
    by shape.Blank g = other shape.Blank (λ i. cc) g
    by shape.LineComment g = other shape.LineComment (λ i. cc) g
    by shape.BlockComment g = other shape.BlockComment (λ i. cc) g

-- ---- a token goes over no white character

all_at : (p : ℕ → Bool) (xs : List ℕ) (c : ℕ) (zs : List ℕ) → list_all p (xs ++ c ∷ zs) ≡ true → p c ≡ true
all_at p [] c zs h = and_left (p c) (list_all p zs) h
all_at p (x ∷ xs) c zs h = all_at p xs c zs (and_right (p x) (list_all p (xs ++ c ∷ zs)) h)

past_first : (x xs y ys z : List ℕ) (a b c : ℕ) → x ≡ a ∷ xs → x ++ c ∷ z ≡ b ∷ ys → xs ++ c ∷ z ≡ ys
past_first x xs y ys z a b c h g = let e : a ∷ (xs ++ c ∷ z) ≡ b ∷ ys = ap (λ (t : List ℕ). t ++ c ∷ z) (sym h) ∙ g in cc

run_ends : (p : ℕ → Bool) (x xs ys z : List ℕ) (a b c : ℕ) → x ≡ a ∷ xs → x ++ c ∷ z ≡ b ∷ ys → list_all p ys ≡ true → p c ≡ true
run_ends p x xs ys z a b c h g all = all_at p xs c z (subst (λ (t : List ℕ). list_all p t ≡ true) (sym (past_first x xs [] ys z a b c h g)) all)

white_no_word : (c : ℕ) → is_white c ≡ true → is_word c ≡ false
white_no_word c h = grind (arith, nat_tests)

white_no_digit : (c : ℕ) → is_white c ≡ true → is_ascii_digit c ≡ false
white_no_digit c h = grind (arith, nat_tests)

two_white : (a c : ℕ) → is_white c ≡ true → two a c ≡ None
two_white a c h = simp (no_eq is_white c 61 h refl, no_eq is_white c 45 h refl, no_eq is_white c 43 h refl, no_eq is_white c 62 h refl, if_same)

sign_ends : (x : List ℕ) (c : ℕ) (z : List ℕ) (g f : Sign) → is_white c ≡ true → sign_of x ≡ Some g → sign_of (x ++ c ∷ z) ≡ Some f → ⊥
sign_ends [] c z g f w h k = absurd cc
sign_ends (a ∷ []) c [] g f w h k = let n = two_white a c w in absurd cc
sign_ends (a ∷ []) c (d ∷ z) g f w h k = absurd cc
sign_ends (a ∷ b ∷ []) c z g f w h k = absurd cc
sign_ends (a ∷ b ∷ d ∷ x) c z g f w h k = absurd cc

literal_stops : (e : Option Inserts) (x : List ℕ) (c : ℕ) (z : List ℕ) → Has e shape.Literal x → Has e shape.Literal (x ++ c ∷ z) → ⊥
literal_stops e x c z h g =
    let a : 39 ∷ ((h.0 ++ 39 ∷ []) ++ c ∷ z) ≡ 39 ∷ (g.0 ++ 39 ∷ []) = ap (λ (t : List ℕ). t ++ c ∷ z) (sym h.1) ∙ g.1 in
    let b : (h.0 ++ 39 ∷ []) ++ c ∷ z ≡ g.0 ++ 39 ∷ [] = cc in
    let d : h.0 ++ 39 ∷ (c ∷ z) ≡ g.0 ++ 39 ∷ [] = sym (append_assoc h.0 (39 ∷ []) (c ∷ z)) ∙ b in
    let f : Some (c ∷ z) ≡ Some [] = sym (literal_ends e false h.0 (c ∷ z) h.2) ∙ ap (past_literal e false) d ∙ literal_ends e false g.0 [] g.2 in
    absurd cc

no_longer : (e : Option Inserts) (k : Shape) (x : List ℕ) (c : ℕ) (z : List ℕ) → is_white c ≡ true → is_gap k ≡ false → Has e k x → Has e k (x ++ c ∷ z) → ⊥
no_longer e shape.Word x c z w i h g = let p = run_ends is_word x h.1 g.1 z h.0 g.0 c h.2 g.2 g.4 in let n = white_no_word c w in absurd (cc (sym p ∙ n))
no_longer e shape.Number x c z w i h g = let p = run_ends is_ascii_digit x h.1 g.1 z h.0 g.0 c h.2 g.2 g.4 in let n = white_no_digit c w in absurd (cc (sym p ∙ n))
no_longer e shape.MacroName x c z w i h g =
    let p = run_ends (λ d. not (is_white d)) x h.1 g.1 z h.0 g.0 c h.2 g.2 g.4 in let n : not (is_white c) ≡ false = ap not w in absurd (cc (sym p ∙ n))
no_longer e shape.Sign x c z w i h g = sign_ends x c z h.0 g.0 w (sign_found_as x h.0 h.1) (sign_found_as (x ++ c ∷ z) g.0 g.1)
no_longer e shape.Literal x c z w i h g = literal_stops e x c z h g
no_longer e shape.Inserts x c z w i h g = omega (arith, ap length h.2, ap length g.2, length-append x (c ∷ z))
no_longer e _ x c z w i h g = absurd cc

comment_no_white : (d : ℕ) → d == 47 || d == 42 ≡ true → is_white d ≡ false
comment_no_white d h = grind (arith, nat_tests)

two_comment : (d : ℕ) → d == 47 || d == 42 ≡ true → two 47 d ≡ None
two_comment d h = at (d == 47) refl
  where
    at : (b : Bool) → (d == 47) ≡ b → two 47 d ≡ None
    at true i = let e : d ≡ 47 = grind (arith, nat_tests) in ap (two 47) e
    at false i = let e : d ≡ 42 = grind (arith, nat_tests) in ap (two 47) e

sign_free : (x : List ℕ) (c : ℕ) (more : List ℕ) (g : Sign) → sign_of x ≡ Some g → is_white c ≡ true → BeginsComment (x ++ c ∷ more) → ⊥
sign_free [] c more g h w b = absurd cc
sign_free (a ∷ []) c more g h w b = let e : c ≡ b.0 = cc (b.2) in let n = comment_no_white b.0 b.3 in let m : is_white b.0 ≡ true = ap is_white (sym e) ∙ w in absurd (cc (sym m ∙ n))
sign_free (a ∷ d ∷ []) c more g h w b =
    let e : d ≡ b.0 = cc (b.2) in
    let f : a ≡ 47 = cc (b.2) in
    let n : two a d ≡ None = ap (λ (m : ℕ). two m d) f ∙ ap (two 47) e ∙ two_comment b.0 b.3 in
    absurd (cc (sym h ∙ n))
sign_free (a ∷ d ∷ f ∷ x) c more g h w b = absurd cc

-- ---- what stands alone is a piece

further : (x y r s : List ℕ) → x ++ r ≡ y ++ s → length s ≤ length r → (z : List ℕ) × (y ≡ x ++ z) × (r ≡ z ++ s)
further [] y r s h l = (y, refl, h)
further (c ∷ x) [] r s h l = absurd (omega (arith, ap length h, length-append x r, l))
further (c ∷ x) (d ∷ y) r s h l =
    let i : x ++ r ≡ y ++ s = cc in
    let j : c ≡ d = cc in
    let t = further x y r s i l in (t.0, ap (λ (u : List ℕ). d ∷ u) t.1 ∙ ap (λ (b : ℕ). b ∷ (x ++ t.0)) (sym j), t.2)

nothing_more : (x : List ℕ) → x ++ [] ≡ x
nothing_more [] = refl
nothing_more (c ∷ x) = ap (λ (t : List ℕ). c ∷ t) (nothing_more x)

alone : (i : Option Inserts) (w : Expectation) (k : Shape) (x rest : List ℕ) → Stands (setting i w) k x rest → ((d : ℕ) (z more : List ℕ) → rest ≡ d ∷ (z ++ more) → Has i k (x ++ d ∷ z) → ⊥) → IsPiece (setting i w) k x rest
alone i w k x rest st never = at (cut_in i w (x ++ rest)) (longest (setting i w) k x rest st) (cut_is i w (x ++ rest))
  where
    same : (j : Shape) (y z r : List ℕ) → j ≡ k → y ≡ x ++ z → rest ≡ z ++ r → IsPiece (setting i w) j y r → IsPiece (setting i w) k x rest
    same j y [] r a b c p =
        subst (λ (t : List ℕ). IsPiece (setting i w) k x t) (sym c)
        (subst (λ (t : List ℕ). IsPiece (setting i w) k t r) (b ∙ nothing_more x) (subst (λ (m : Shape). IsPiece (setting i w) m y r) a p))
    same j y (d ∷ z) r a b c p = absurd (never d z r c (subst (λ (t : List ℕ). Has i k t) b (subst (λ (m : Shape). Has i m y) a p.stands.has)))

    at : (o : FirstPiece) → LeavesCut k (length rest) o → IsCutFrom (setting i w) (x ++ rest) o → IsPiece (setting i w) k x rest
    at None l c = absurd l
    at (Some p) l c = let f = further x c.0 rest p.1 c.1 l.1 in same p.0 c.0 f.0 p.1 l.0 f.1 f.2 c.2

blank_comes : (w : Expectation) → may_come w shape.Blank ≡ true
blank_comes wanted.Token = refl
blank_comes wanted.Inserts = refl
blank_comes wanted.MacroName = refl

blank_piece : (i : Option Inserts) (w : Expectation) (c : ℕ) (more : List ℕ) → is_white c ≡ true → IsPiece (setting i w) shape.Blank (c ∷ []) more
blank_piece i w c more h =
    alone i w shape.Blank (c ∷ []) more (record { has = (c, refl, h); comes = blank_comes w; no_comment = λ j b. cc }) (λ d z m is g. let l = ap length g.1 in omega (arith, l))

said_piece : (i : Option Inserts) (w : Expectation) (k : Shape) (x : List ℕ) (c : ℕ) (more : List ℕ) → Has i k x → may_come w k ≡ true → is_gap k ≡ false → is_white c ≡ true → IsPiece (setting i w) k x (c ∷ more)
said_piece i w k x c more has may gap h =
    alone i w k x (c ∷ more) (record { has = has; comes = may; no_comment = free })
    (λ d z m is g. let e : c ≡ d = cc in no_longer i k x d z (ap is_white (sym e) ∙ h) gap has g)
  where
    free : k ≡ shape.Sign → BeginsComment (x ++ c ∷ more) → ⊥
    free is b = let g = subst (λ (j : Shape). Has i j x) is has in sign_free x c more g.0 (sign_found_as x g.0 g.1) h b

-- ---- the whole text

white_scalar : (c : ℕ) → is_white c ≡ true → all_scalars (c ∷ []) ≡ true
white_scalar c h = at (c == 0xFEFF) refl
  where
    at : (b : Bool) → (c == 0xFEFF) ≡ b → all_scalars (c ∷ []) ≡ true
    at true i = let e : c ≡ 0xFEFF = grind (arith, nat_tests) in ap (λ (n : ℕ). all_scalars (n ∷ [])) e
    at false i = let l : c < 55296 = grind (arith, nat_tests) in rw (low_scalar c l) refl

space_chars : (c : ℕ) (rest : List ℕ) → is_white c ≡ true → chars (encode_utf8_all (c ∷ []) ++ rest) ≡ c ∷ chars rest
space_chars c rest h =
    let u : IsUtf8 (encode_utf8_all (c ∷ [])) = (c ∷ [], (white_scalar c h, refl)) in
    chars-append (encode_utf8_all (c ∷ [])) rest u ∙ ap (λ (t : List ℕ). t ++ chars rest) (sym (chars_from_encodes (c ∷ []) (encode_utf8_all (c ∷ [])) u refl))

abbrev Read : Directives → List SpacedToken → Type 0
Read s ps = (qs : List Piece) × AreCut s (chars (spaced_text ps)) qs (after_all s (lexemes_of ps)) [] × (lexemes_of ps ≡ piece_lexemes qs)

read_spaced : (s : Directives) (ps : List SpacedToken) → are_white ps ≡ true → AreSaid s (lexemes_of ps) → Read s ps
read_spaced s [] w h = ([], (chars-nil, refl), refl)
read_spaced s (p ∷ ps) w h =
    let l = p.lexeme in
    let c = p.space in
    let white = and_left (is_white c) (are_white ps) w in
    let k = h.0.0 in
    let t = said_as_written s l k h.0.1 h.0.2 in
    let x = chars (lexeme_text l) in
    let r = read_spaced (after s l) ps (and_right (is_white c) (are_white ps) w) h.1 in
    let is : chars (spaced_text (p ∷ ps)) ≡ x ++ (c ∷ chars (spaced_text ps)) =
    chars-append (lexeme_text l) (encode_utf8_all (c ∷ []) ++ spaced_text ps) t.0 ∙ ap (λ (y : List ℕ). x ++ y) (space_chars c (spaced_text ps) white) in
    let token : Piece = record { shape = k; text = x; lexeme = Some l } in
    let blank : Piece = record { shape = shape.Blank; text = c ∷ []; lexeme = None } in (
      token ∷ blank ∷ r.0,
      (
        c ∷ chars (spaced_text ps),
        is,
        said_piece s.escapes.inserts s.wanted k x c (chars (spaced_text ps)) t.1 t.2 (no_gap s k x l t.3.0) white,
        t.3,
        (chars (spaced_text ps), refl, blank_piece (after s l).escapes.inserts (after s l).wanted c (chars (spaced_text ps)) white, refl, r.1),
      ),
      ap (λ (ls : List Lexeme). l ∷ ls) r.2,
    )

pub spaced_read : (s : Directives) (ps : List SpacedToken) → are_white ps ≡ true → AreSaid s (lexemes_of ps) → MayEnd (after_all s (lexemes_of ps)) → AreTokensFrom s (chars (spaced_text ps)) (lexemes_of ps)
spaced_read s ps w h end = let r = read_spaced s ps w h in (r.0, after_all s (lexemes_of ps), r.1, end, r.2)

-- ---- and what a text says is said

scalars_apart : (x y : List ℕ) → all_scalars (x ++ y) ≡ true → (all_scalars x ≡ true) × (all_scalars y ≡ true)
scalars_apart [] y h = (refl, h)
scalars_apart (c ∷ x) y h =
    let a = and_left (scalar c) (all_scalars (x ++ y)) h in
    let r = scalars_apart x y (and_right (scalar c) (all_scalars (x ++ y)) h) in (rw a r.0, r.1)

said_as : (s : Directives) (k : Shape) (x : List ℕ) (l : Lexeme) → all_scalars x ≡ true → Has s.escapes.inserts k x → may_come s.wanted k ≡ true → Says s k x l → IsSaid s l
said_as s k x l h has may says =
    let u : IsUtf8 (encode_utf8_all x) = (x, (h, refl)) in
    let e : x ≡ chars (encode_utf8_all x) = chars_from_encodes x (encode_utf8_all x) u refl in
    (k, encode_utf8_all x, (u, subst (Has s.escapes.inserts k) e has, may, subst (λ (y : List ℕ). Says s k y l) e says))

all_said : (s : Directives) (text : List ℕ) (ps : List Piece) (t : Directives) → all_scalars text ≡ true → AreCut s text ps t [] → AreSaid s (piece_lexemes ps) × (after_all s (piece_lexemes ps) ≡ t)
all_said s text [] t h c = (tt, c.1)
all_said s text (p ∷ ps) t h c = by p.lexeme c.3 (all_said (after_piece s p.lexeme) c.0 ps t parts.1 c.4)
  where
    parts : (all_scalars p.text ≡ true) × (all_scalars c.0 ≡ true)
    parts = scalars_apart p.text c.0 (ap all_scalars (sym c.1) ∙ h)

    by : (o : Option Lexeme) → MaySay s p.shape p.text o → AreSaid (after_piece s o) (piece_lexemes ps) × (after_all (after_piece s o) (piece_lexemes ps) ≡ t) → AreSaid s (and_more o (piece_lexemes ps)) × (after_all s (and_more o (piece_lexemes ps)) ≡ t)
    by None m r = r
    by (Some l) m r = ((said_as s p.shape p.text l parts.0 c.2.stands.has c.2.stands.comes m, r.0), r.1)

pub tokens_said : (s : Directives) (text : List ℕ) (ls : List Lexeme) → IsUtf8 text → AreTokensFrom s (chars text) ls → AreSaid s ls × MayEnd (after_all s ls)
tokens_said s text ls u h =
    let r = all_said s (chars text) h.0 h.1 (scalars-chars text u) h.2 in
    (subst (AreSaid s) (sym h.4) r.0, subst (λ (ms : List Lexeme). MayEnd (after_all s ms)) (sym h.4) (subst MayEnd (sym r.1) h.3))
