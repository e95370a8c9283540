-- The tokens of a text up to the fault of the lexer, and the insert characters after them.
use Rattle.std.proofs.Common.{◌≡◌, ◌⊎◌, inl, inr, ◌<◌, ℕ, List, [], ◌∷◌, ◌++◌, length, map, Option, Some, None, Ok, Err, refl, sym, ap, subst, ◌∙◌}
use Rattle.sbl_token.specs.declared.token.Kind.{Kind}
use Rattle.sbl_token.specs.declared.token.Kind.TheVariants as kind
use Rattle.sbl_token.specs.declared.token.Token.{Token}
use Rattle.sbl_token.specs.declared.token.Value.{Value}
use Rattle.sbl_token.specs.declared.words.Word.{Word}
use Rattle.sbl_token.specs.declared.words.Word.TheVariants as words
use Rattle.sbl_token.specs.Lexemes.{lexeme_by, lexeme_of, word}
use Rattle.sbl_text.specs.Directives.{Defining, Directives, after, defined_as, start, value_for_macro}
use Rattle.sbl_text.specs.inside.DirectiveParts.{defined_by}
use Rattle.sbl_text.specs.Escapes.{InForce}
use Rattle.sbl_text.specs.declared.escapes.Inserts.{Inserts}
use Rattle.sbl_text.specs.Tokens.{Advances, ArePlaced, IsNext, PlacedToken, Reading, Stops, beginning, placed_of}
use Rattle.sbl_text.specs.declared.fault.ScriptFault.{ScriptFault}
use Rattle.sbl_text.specs.declared.fault.ScriptFault.TheVariants as fault
use Rattle.sbl_text.proofs.Lists.{SoFar, all_placed, next_advances, next_shorter, none_yet, over_gaps, still_none, with_next}
use Rattle.sbl_source_map.specs.FaultRanges.{StopsIn}
use Rattle.sbl_source_map.specs.LexerStops.{IsStep}
use Rattle.sbl_source_map.specs.declared.fault_ranges.Step.{Step}
use Rattle.sbl_source_map.specs.declared.fault_ranges.Step.TheVariants as step

-- ---- the next step

pub takes : (r t : Reading) (token : Token) → r.fault ≡ None → IsNext r t (Ok (Some token)) → IsStep r t (step.Next token)
takes r t token none next = (next_advances r t (Ok (Some token)) none next, still_none r t (Some token) none next)

pub ends : (r t : Reading) → r.fault ≡ None → IsNext r t (Ok None) → IsStep r t step.End
ends r t none next = next_advances r t (Ok None) none next

pub stops : (r t : Reading) (f : ScriptFault) → r.fault ≡ None → IsNext r t (Err f) → (f ≡ fault.OutOfMemory → ⊥) → IsStep r t (step.Fault f)
stops r t f none next other = by (next_advances r t (Err f) none next).2
  where
    by : (f ≡ fault.OutOfMemory) ⊎ Stops r.text r.state r.rest f → Stops r.text r.state r.rest f
    by (inl memory) = absurd (other memory)
    by (inr h) = h

pub shorter : (r t : Reading) (token : Token) → IsStep r t (step.Next token) → length t.rest < length r.rest
shorter r t token taken = next_shorter r.text r.state r.rest t.state t.rest token taken.0

-- ---- what was read so far

abbrev pub HasRead : List ℕ → Directives → List ℕ → Type 0
HasRead text s rest = (ts : List Token) × SoFar start text s rest ts

-- the same if a step takes a token
pub step_shorter : (r t : Reading) (token : Token) (s : Step) → s ≡ step.Next token → IsStep r t s → length t.rest < length r.rest
step_shorter r t token s is h = shorter r t token (subst (λ (x : Step). IsStep r t x) is h)

pub read_none : (text : List ℕ) (r : Reading) → r ≡ beginning start text → HasRead text r.state r.rest
read_none text r is = subst (λ (q : Reading). HasRead text q.state q.rest) (sym is) ([], none_yet start text start refl)

pub read_more : (text : List ℕ) (r t : Reading) (token : Token) → r.text ≡ text → HasRead text r.state r.rest → IsStep r t (step.Next token) → HasRead text t.state t.rest
read_more text r t token same h taken = (
  h.0 ++ token ∷ [],
  with_next start text r.state r.rest t.state t.rest token h.0 h.1
      (subst (λ (b : List ℕ). Advances b r.state r.rest t.state t.rest (Ok (Some token))) same taken.0),
)

-- a part of a text has been read, and these insert characters are set there
abbrev pub HasReadTo : List ℕ → Reading → Option Inserts → Type 0
HasReadTo text r i = (r.text ≡ text) × (r.fault ≡ None) × HasRead text r.state r.rest × (i ≡ r.state.escapes.inserts)

pub step_kept : (text : List ℕ) (r t : Reading) (token : Token) (s : Step) (i j : Option Inserts) → HasReadTo text r i → s ≡ step.Next token → IsStep r t s
    → t.text ≡ r.text → ((d : Directives) → d.escapes.inserts ≡ i → (after d (lexeme_of token)).escapes.inserts ≡ j) → HasReadTo text t j
step_kept text r t token s i j so is h same inserts =
    let taken = subst (λ (x : Step). IsStep r t x) is h in (
      same ∙ so.0,
      taken.1,
      read_more text r t token so.0 so.2 taken,
      sym (inserts r.state (sym so.3)) ∙ ap (λ (d : Directives). d.escapes.inserts) (sym taken.0.2),
    )

pub read_all : (text : List ℕ) (r t : Reading) → r.text ≡ text → HasRead text r.state r.rest → IsStep r t step.End → (ts : List PlacedToken) × ArePlaced text ts
read_all text r t same h last = (
  map placed_of h.0,
  all_placed start text r.state r.rest t.state t.rest h.0 h.1 (subst (λ (b : List ℕ). Advances b r.state r.rest t.state t.rest (Ok None)) same last),
)

pub stops_in : (text : List ℕ) (r t : Reading) (f : ScriptFault) → r.text ≡ text → HasRead text r.state r.rest → IsStep r t (step.Fault f) → StopsIn text r.state f
stops_in text r t f same h stops =
    let read = over_gaps start text r.state r.rest stops.1 h.0 h.1 stops.3 in
    (stops.0, stops.1, read.0, sym same ∙ stops.2, read.1, stops.4)

-- ---- insert characters

word_keeps : (s : Directives) (w : Word) → (after s (word w)).escapes.inserts ≡ s.escapes.inserts
word_keeps s words.StringEscapes = refl
word_keeps s words.StringDef = refl
word_keeps s words.Hex = refl
word_keeps s words.Decimal = refl
word_keeps s _ = refl

defined_keeps : (e : InForce) (d : Option Defining) (v : List ℕ) → (defined_by e d v).inserts ≡ e.inserts
defined_keeps e None v = refl
defined_keeps e (Some m) v = go (value_for_macro m.coding v) where
  go : (o : Option (List ℕ)) → (defined_as e m.name o).inserts ≡ e.inserts
  go None = refl
  go (Some w) = refl

pub same_inserts : (s : Directives) (k : Kind) (text : List ℕ) (v : Value) → (k ≡ kind.Inserts → ⊥) → (after s (lexeme_by k text v)).escapes.inserts ≡ s.escapes.inserts
same_inserts s (kind.Word w) text v other = word_keeps s w
same_inserts s kind.Literal text v other = defined_keeps s.escapes s.defining _
same_inserts s kind.Inserts text v other = absurd (other refl)
same_inserts s _ text v other = refl
