-- Where the faults of the grammar stand.
use Rattle.std.proofs.Common.{◌≡◌, ◌⊎◌, ◌≤◌, ℕ, List, [], ◌∷◌, ◌++◌, None, length, map, take, drop, refl, sym, ap, subst, ◌∙◌, inl, inr, Result, Ok, Err, IfErr, IfOk}
use Rattle.std.proofs.lemmas.List.{take-append-drop, map-append}
use Rattle.std.specs.Str.{IsUtf8, chars}
use Rattle.sbl_text.specs.declared.fault.ScriptFault.{ScriptFault}
use Rattle.sbl_text.specs.declared.fault.ScriptFault.TheVariants as fault
use Rattle.sbl_token.specs.declared.token.Token.{Token}
use Rattle.sbl_token.specs.Lexemes.{Lexeme, lexeme_of}
use Rattle.sbl_text.specs.Tokens.{ArePlacedFrom, PlacedToken, placed_of}
use Rattle.sbl_parser.specs.Reading.{IsSyntaxAt, IsTooDeepAt, IsOutOfProfileAt}
use Rattle.sbl_ast.specs.Texts.{Text, script}
use Rattle.sbl_text.specs.Directives.{start}
use Rattle.sbl_parser.specs.FaultOffsets as grammar
use Rattle.sbl_script.specs.Reading.{HasTokens, lexemes, place_of, IsFaultOf, IsUnread, first_left_out, max_script}

pub lexemes_same : (ts : List Token) → map lexeme_of ts ≡ lexemes (map placed_of ts)
lexemes_same [] = refl
lexemes_same (t ∷ ts) = ap (λ (r : List Lexeme). lexeme_of t ∷ r) (lexemes_same ts)

place_same : (ts : List Token) (end : ℕ) → grammar.place_of ts end ≡ place_of end (map placed_of ts)
place_same [] end = refl
place_same (t ∷ ts) end = refl

map_placed_cut : (ts : List Token) (n : ℕ) → map placed_of ts ≡ map placed_of (take n ts) ++ map placed_of (drop n ts)
map_placed_cut ts n = ap (map placed_of) (sym (take-append-drop n ts)) ∙ map-append placed_of (take n ts) (drop n ts)

lexemes_of_drop : (P : List Lexeme → List Lexeme → Type 0) (ts : List Token) (n : ℕ) → P (map lexeme_of ts) (map lexeme_of (drop n ts)) → P (lexemes (map placed_of ts)) (lexemes (map placed_of (drop n ts)))
lexemes_of_drop P ts n h =
    subst (λ (x : List Lexeme). P x (lexemes (map placed_of (drop n ts)))) (lexemes_same ts) (subst (λ (x : List Lexeme). P (map lexeme_of ts) x) (lexemes_same (drop n ts)) h)

-- the tokens, in a text of this length, form no tree, or one is too deep: the second part of `IsUnread`
abbrev pub IsGrammarFault : Text → List PlacedToken → ℕ → ScriptFault → Type 0
IsGrammarFault w ts end f =
    (before : List PlacedToken) × (rest : List PlacedToken) × (ts ≡ before ++ rest)
    × ((IsSyntaxAt w (lexemes ts) (lexemes rest) × (f ≡ fault.Syntax (place_of end rest)))
    ⊎ (IsTooDeepAt w (lexemes ts) (lexemes rest) × (f ≡ fault.TooDeep (place_of end rest)))
    ⊎ (IsOutOfProfileAt w (lexemes ts) (lexemes rest) × (f ≡ fault.OutOfProfile (place_of end rest))))

-- the grammar's fault of some tokens
pub grammar_fault_of : (w : Text) (ts : List Token) (end : ℕ) (f : ScriptFault) → grammar.IsFaultOf w ts end f → IsGrammarFault w (map placed_of ts) end f
grammar_fault_of w ts end (fault.Syntax place) (n, is, h) =
    (map placed_of (take n ts), map placed_of (drop n ts), map_placed_cut ts n, inl (lexemes_of_drop (IsSyntaxAt w) ts n h, ap fault.Syntax (is ∙ place_same (drop n ts) end)))
grammar_fault_of w ts end (fault.TooDeep place) (n, is, h) =
    (map placed_of (take n ts), map placed_of (drop n ts), map_placed_cut ts n, inr (inl (lexemes_of_drop (IsTooDeepAt w) ts n h, ap fault.TooDeep (is ∙ place_same (drop n ts) end))))
grammar_fault_of w ts end (fault.OutOfProfile place) (n, is, h) =
    (map placed_of (take n ts), map placed_of (drop n ts), map_placed_cut ts n, inr (inr (lexemes_of_drop (IsOutOfProfileAt w) ts n h, ap fault.OutOfProfile (is ∙ place_same (drop n ts) end))))
grammar_fault_of w ts end _ h = absurd h

pub unread : {X : Type 0} (w : Text) (r : Result X ScriptFault) (ts : List Token) (end : ℕ) → first_left_out (map placed_of ts) ≡ None
    → IfErr r (λ f. (f ≡ fault.OutOfMemory) ⊎ grammar.IsFaultOf w ts end f) → IfErr r (λ f. (f ≡ fault.OutOfMemory) ⊎ IsUnread w (map placed_of ts) end f)
unread w (Ok x) ts end offered h = h
unread w (Err f) ts end offered (inl e) = inl e
unread w (Err f) ts end offered (inr h) = inr (inr (offered, grammar_fault_of w ts end f h))

pub read_as : {X : Type 0} (r : Result X ScriptFault) (P : List Lexeme → X → Type 0) (ts : List Token) → IfOk r (λ x. P (map lexeme_of ts) x) → IfOk r (λ x. P (lexemes (map placed_of ts)) x)
read_as (Ok x) P ts h = subst (λ (t : List Lexeme). P t x) (lexemes_same ts) h
read_as (Err f) P ts h = h

pub offered_too : {X : Type 0} (r : Result X ScriptFault) (ts : List PlacedToken) → first_left_out ts ≡ None → IfOk r (λ x. first_left_out ts ≡ None)
offered_too (Ok x) ts h = h
offered_too (Err f) ts h = tt

-- what the code has of a text and a copy of its tokens holds of the bytes and the tokens
pub unread_bytes : (bytes text : List ℕ) (us ts : List Token) (f : ScriptFault) → text ≡ bytes → us ≡ ts → length bytes ≤ max_script → IsUtf8 bytes → ArePlacedFrom start (chars text) (map placed_of ts)
    → (f ≡ fault.OutOfMemory) ⊎ IsUnread script (map placed_of us) (length text) f → HasTokens start bytes (map placed_of ts) × ((f ≡ fault.OutOfMemory) ⊎ IsUnread script (map placed_of ts) (length bytes) f)
unread_bytes bytes text us ts f is same short utf8 cut told =
    let found = subst (λ (xs : List Token). (f ≡ fault.OutOfMemory) ⊎ IsUnread script (map placed_of xs) (length text) f) same told in (
      record { short = short; text = utf8; cut = subst (λ (x : List ℕ). ArePlacedFrom start (chars x) (map placed_of ts)) is cut },
      subst (λ (x : List ℕ). (f ≡ fault.OutOfMemory) ⊎ IsUnread script (map placed_of ts) (length x) f) is found,
    )

-- the fault of bytes whose tokens have no tree
pub unread_is_fault : (bytes external : List ℕ) (ts : List PlacedToken) (f : ScriptFault) → HasTokens start bytes ts
    → (f ≡ fault.OutOfMemory) ⊎ IsUnread script ts (length bytes) f → (f ≡ fault.OutOfMemory) ⊎ IsFaultOf bytes external f
unread_is_fault bytes external ts f tokens (inl m) = inl m
unread_is_fault bytes external ts f tokens (inr u) = inr (inr (inl (ts, tokens, u)))
