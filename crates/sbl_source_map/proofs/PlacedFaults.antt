-- Faults that have a place, and bytes that are not UTF-8.
use Rattle.std.proofs.Common.{◌≡◌, ◌⊎◌, ℕ, ◌+◌, Bool, true, false, ◌&&◌, ◌||◌, ◌==◌, List, [], ◌∷◌, Option, Some, None, is_some, Result, Ok, Err, refl, sym, ap, subst, ◌∙◌, inl, inr, if◌then◌else◌}
use Rattle.std.specs.List.{list_all}
use Rattle.std.specs.Prelude.{MatchOption}
use Rattle.std.specs.Str.{IsUtf8, chars}
use Rattle.sbl_text.specs.declared.escapes.Inserts.{Inserts}
use Rattle.sbl_text.specs.declared.fault.ScriptFault.{ScriptFault}
use Rattle.sbl_text.specs.declared.fault.ScriptFault.TheVariants as fault
use Rattle.sbl_text.specs.declared.pieces.Shape.{Shape}
use Rattle.sbl_text.specs.declared.pieces.Shape.TheVariants as shape
use Rattle.sbl_text.specs.declared.pieces.Expectation.{Expectation}
use Rattle.sbl_text.specs.declared.pieces.Expectation.TheVariants as wanted
use Rattle.sbl_text.specs.Classes.{is_white, quote, slash}
use Rattle.sbl_text.specs.Codes.{code_of}
use Rattle.sbl_text.specs.Directives.{Directives}
use Rattle.sbl_text.specs.Escapes.{InForce, opens, find}
use Rattle.sbl_text.specs.Literals.{byte_length, character_named, insertion_value, IsWrong}
use Rattle.sbl_text.specs.inside.LiteralParts.{Refusal, code_or_fault, value_or_character}
use Rattle.sbl_text.specs.Tokens.{PlacedToken, fault_at, IsRefused, IsFirstFaultFrom, ArePlaced}
use Rattle.sbl_text.specs.inside.TokenParts.{starts_star, pair_fault, token_fault}
use Rattle.sbl_ast.specs.Texts.{Text, script}
use Rattle.sbl_parser.specs.Reading.{IsSyntaxAt, IsTooDeepAt, IsOutOfProfileAt}
use Rattle.sbl_script.specs.Reading.{IsUnread, place_of, lexemes}
use Rattle.sbl_source_map.specs.FaultLists.{IsUnreadText}
use Rattle.sbl_source_map.specs.FaultPlaces.{place_in}
use Rattle.sbl_source_map.specs.FaultRanges.{IsEndAt, IsRange, IsRefusedEnd, StopsIn}
use Rattle.sbl_source_map.specs.LexerStops.{IsStopOf}
use Rattle.sbl_source_map.specs.declared.fault_ranges.Stop.{Stop}

abbrev pub is_placed : ScriptFault → Bool
is_placed f = is_some (place_in f)

-- ---- the faults of an insertion

-- the refusal has a place
abbrev Placed : {X : Type 0} → Result X Refusal → Type 0
Placed (Ok x) = Unit {0}
Placed (Err g) = (n : ℕ) → is_placed (g n) ≡ true

placed_if : {X : Type 0} (b : Bool) (x y : Result X Refusal) → Placed x → Placed y → Placed (if b then x else y)
placed_if true x y h j = h
placed_if false x y h j = j

placed_code : (o : Option ℕ) → Placed (code_or_fault o)
placed_code None = λ n. refl
placed_code (Some c) = tt

placed_named : (e : Option Inserts) (name : List ℕ) → Placed (character_named e name)
placed_named e [] = λ n. refl
placed_named e (c ∷ []) = placed_if (c == quote || opens e c) (Ok c) (Err fault.UnknownEscape) tt (λ n. refl)
placed_named e (c ∷ d ∷ cs) = placed_if (c == 85 && d == 43) (code_or_fault (code_of 16 6 cs)) (Err fault.UnknownEscape) (placed_code (code_of 16 6 cs)) (λ n. refl)

placed_value : (o : Option (List ℕ)) (r : Result ℕ Refusal) → Placed r → Placed (value_or_character o r)
placed_value (Some v) r h = tt
placed_value None (Ok c) h = tt
placed_value None (Err g) h = h

placed_inserted : (e : InForce) (name : List ℕ) → Placed (insertion_value e name)
placed_inserted e name =
    placed_if (list_all is_white name) (Ok []) (value_or_character (find e.macros name) (character_named e.inserts name)) tt
    (placed_value (find e.macros name) (character_named e.inserts name) (placed_named e.inserts name))

wrong : (e : InForce) (text : List ℕ) (place : ℕ) (f : ScriptFault) → IsWrong e text place f → is_placed f ≡ true
wrong e text place f (inl (more, is, same)) = ap is_placed same
wrong e text place f (inr (x, name, more, is, insertion, g, refusal_of_text, same)) = ap is_placed same ∙ subst (λ (r : Result (List ℕ) Refusal). Placed r) refusal_of_text (placed_inserted e name) place

-- ---- the faults of a text

pair : (text : List ℕ) (place : ℕ) → is_placed (pair_fault text place) ≡ true
pair [] place = refl
pair (c ∷ cs) place = go (c == quote) where
  go : (b : Bool) → is_placed (if b then fault.BadCharacter place else fault.BadCharacter (place + byte_length (c ∷ []))) ≡ true
  go true = refl
  go false = refl

token : (text : List ℕ) (place : ℕ) → is_placed (token_fault text place) ≡ true
token [] place = refl
token (c ∷ cs) place = go (c == quote) (c == slash && starts_star cs) where
  go : (a b : Bool) → is_placed (if a then fault.UnclosedString place else (if b then fault.UnclosedComment place else fault.BadCharacter place)) ≡ true
  go true b = refl
  go false true = refl
  go false false = refl

no_piece : (w : Expectation) (text : List ℕ) (place : ℕ) → is_placed (fault_at w text place) ≡ true
no_piece wanted.Inserts text place = pair text place
no_piece wanted.Token text place = token text place
no_piece wanted.MacroName text place = token text place

refusal_of_text : (s : Directives) (k : Shape) (x : List ℕ) (place : ℕ) (f : ScriptFault) → IsRefused s k x place f → is_placed f ≡ true
refusal_of_text s shape.Number x place f (large, same) = ap is_placed same
refusal_of_text s shape.Literal x place f (inner, is, inl (before, rest, ps, parts, are, h)) = wrong s.escapes rest (place + 1 + byte_length before) f h
refusal_of_text s shape.Literal x place f (inner, is, inr (v, means, none, same)) = ap is_placed same
refusal_of_text s _ x place f h = absurd h

pub of_tokens : (s : Directives) (text : List ℕ) (f : ScriptFault) → IsFirstFaultFrom s text f → is_placed f ≡ true
of_tokens s text f (before, rest, ps, t, parts, cut, inl (ends, none, same)) = ap is_placed same ∙ no_piece t.wanted rest (byte_length before)
of_tokens s text f (before, rest, ps, t, parts, cut, inr (k, x, more, is, piece, h)) = refusal_of_text t k x (byte_length before) f h

-- ---- the faults of the grammar

pub of_grammar : (w : Text) (ts : List PlacedToken) (end : ℕ) (f : ScriptFault) → IsUnread w ts end f → is_placed f ≡ true
of_grammar w ts end f (inl (place, first, same)) = ap is_placed same
of_grammar w ts end f (inr (offered, h)) = go h.3 where
  go : (IsSyntaxAt w (lexemes ts) (lexemes h.1) × (f ≡ fault.Syntax (place_of end h.1))) ⊎ (IsTooDeepAt w (lexemes ts) (lexemes h.1) × (f ≡ fault.TooDeep (place_of end h.1))) ⊎ (IsOutOfProfileAt w (lexemes ts) (lexemes h.1) × (f ≡ fault.OutOfProfile (place_of end h.1))) → is_placed f ≡ true
  go (inl a) = ap is_placed a.1
  go (inr (inl a)) = ap is_placed a.1
  go (inr (inr a)) = ap is_placed a.1

-- ---- bytes that are not read

-- bytes that are not read since they are not UTF-8
pub not_utf8 : (bytes : List ℕ) → IsUnreadText bytes fault.NotUtf8 → IsUtf8 bytes → ⊥
not_utf8 bytes (inl (inl (long, same))) utf8 = absurd cc
not_utf8 bytes (inl (inr (inl (short, not_text, same)))) utf8 = not_text utf8
not_utf8 bytes (inl (inr (inr (short, text, h)))) utf8 = let e : false ≡ true = of_tokens _ _ fault.NotUtf8 h in absurd (cc e)
not_utf8 bytes (inr (ts, tokens, h)) utf8 = let e : false ≡ true = of_grammar script ts _ fault.NotUtf8 h in absurd (cc e)

-- a text that is not read with a fault that has a place is UTF-8
pub is_text : (bytes : List ℕ) (f : ScriptFault) (place : ℕ) → IsUnreadText bytes f → place_in f ≡ Some place → IsUtf8 bytes
is_text bytes f place (inl (inl (long, same))) at = let e : None ≡ Some place = sym (ap place_in same) ∙ at in absurd (cc e)
is_text bytes f place (inl (inr (inl (short, not_text, same)))) at = let e : None ≡ Some place = sym (ap place_in same) ∙ at in absurd (cc e)
is_text bytes f place (inl (inr (inr (short, text, h)))) at = text
is_text bytes f place (inr (ts, tokens, h)) at = tokens.text

-- the range of a fault other than that of bytes that are not UTF-8
pub is_range : (bytes : List ℕ) (f : ScriptFault) (range : Option (ℕ × ℕ)) → (f ≡ fault.NotUtf8 → ⊥)
    → MatchOption (place_in f) (range ≡ None) (λ place. (end : ℕ) × IsEndAt (chars bytes) place end × (range ≡ Some (place, end))) → IsRange bytes f range
is_range bytes fault.NotUtf8 range other h = absurd (other refl)
is_range bytes _ range other h = h

-- ---- the end of what is at a place

pub by_stop : (text : List ℕ) (o : Option Stop) (stop : Stop) (place end : ℕ) → o ≡ Some stop → IsStopOf text o → IsRefusedEnd text stop.inserts stop.fault place end → IsEndAt text place end
by_stop text o stop place end is stops refused =
    let h : (s : Directives) × StopsIn text s stop.fault × (stop.inserts ≡ s.escapes.inserts) = rw is at stops in
    inr (h.0, stop.fault, h.1, subst (λ (i : Option Inserts). IsRefusedEnd text i stop.fault place end) h.2 refused)

pub by_none : (text : List ℕ) (o : Option Stop) (place end : ℕ) → o ≡ None → IsStopOf text o → ((ts : List PlacedToken) → ArePlaced text ts → ⊥) → IsEndAt text place end
by_none text o place end is stops none =
    let h : (ts : List PlacedToken) × ArePlaced text ts = rw is at stops in absurd (none h.0 h.1)

pub is_range_at : (bytes : List ℕ) (f : ScriptFault) (place end : ℕ) → (f ≡ fault.NotUtf8 → ⊥) → place_in f ≡ Some place → IsEndAt (chars bytes) place end → IsRange bytes f (Some (place, end))
is_range_at bytes f place end other is at =
    let pair : ℕ × ℕ = (place, end) in
    let range : Option (ℕ × ℕ) = Some pair in
    let P : Option ℕ → Type 0 = λ o. MatchOption o (range ≡ None) (λ p. (e : ℕ) × IsEndAt (chars bytes) p e × (range ≡ Some (p, e))) in
    is_range bytes f range other (subst P (sym is) (end, at, refl))
