-- The token of a fault.
use Rattle.std.proofs.Common.{◌≡◌, ℕ, true, false, List, [], ◌∷◌, length, map, Option, Some, None, refl, sym, ap, subst, ◌∙◌, inl, inr}
use Rattle.std.specs.Prelude.{option_map}
use Rattle.std.specs.List.{slice_get}
use Rattle.std.specs.Str.{chars}
use Rattle.std.proofs.lemmas.Option.{slice_get-map}
use Rattle.sbl_text.specs.declared.fault.ScriptFault.{ScriptFault}
use Rattle.sbl_text.specs.Directives.{start}
use Rattle.sbl_text.specs.Tokens.{PlacedToken}
use Rattle.sbl_text.specs.Laws.{PlacesAreOne}
use Rattle.sbl_ast.specs.Tree.{Item}
use Rattle.sbl_ast.specs.Texts.{script}
use Rattle.sbl_ast.specs.Terminal.{Terminal, terminal_of}
use Rattle.sbl_ast.proofs.PlacedTokens.{places_tokens}
use Rattle.sbl_parser.proofs.Lexed.{T, text_back}
use Rattle.sbl_parser.specs.Reading.{IsReadAs}
use Rattle.sbl_parser.specs.Laws.{TreesAreOne}
use Rattle.sbl_resolver.specs.Occurrences.{occurrences_of}
use Rattle.sbl_resolver.specs.Checks.{fault_of}
use Rattle.sbl_resolver.specs.Laws.{IsFirst, FaultIsFirst, WellDeclaredPasses, EachPasses}
use Rattle.sbl_resolver.specs.Subjects.{Subject, IsFirstAfter}
use Rattle.sbl_script.specs.Reading.{HasTokens, first_left_out, lexemes}
use Rattle.sbl_source_map.specs.SubjectTokens.{SubjectToken, subject_tokens}
use Rattle.sbl_source_map.specs.FaultPlaces.{SubjectsAreTokens, IsFaultAt, TokenIsSubject, FaultIsAtOne, FaultAtIsFault, FaultIsAt, is_of_token}
use Rattle.sbl_source_map.proofs.Codes.{fault_of_token, not_of_text, not_of_grammar}
use Rattle.sbl_source_map.proofs.SubjectsAgree.{subjects_agree}
use Rattle.sbl_source_map.proofs.Firsts.{some_one, some_none, first_is_one, after_is_one, after_first, at_number}

terminals_are : (ts : List PlacedToken) → map (λ (t : PlacedToken). terminal_of t.lexeme) ts ≡ T (lexemes ts)
terminals_are [] = refl
terminals_are (t ∷ ts) = ap (λ (r : List Terminal). terminal_of t.lexeme ∷ r) (terminals_are ts)

pub are_tokens : SubjectsAreTokens
are_tokens ts items h = subjects_agree ts items (terminals_are ts ∙ ap T (sym h.0) ∙ sym (text_back script items) ∙ places_tokens items)

-- what is at the number of the fault
at_fault : (ts : List PlacedToken) (items : List Item) (n : ℕ) (f : ScriptFault) → IsReadAs script (lexemes ts) items → (h : IsFirstAfter (occurrences_of items) n f)
    → option_map (λ (m : SubjectToken). m.subject) (slice_get (subject_tokens ts) n) ≡ Some h.subject
at_fault ts items n f tree h =
    sym (slice_get-map (λ (m : SubjectToken). m.subject) (subject_tokens ts) n) ∙ ap (λ (xs : List Subject). slice_get xs n) (are_tokens ts items tree) ∙ at_number (occurrences_of items) n f h

pub has_token : (ts : List PlacedToken) (items : List Item) (n : ℕ) (f : ScriptFault) → IsReadAs script (lexemes ts) items → IsFirstAfter (occurrences_of items) n f
    → (t : SubjectToken) × (slice_get (subject_tokens ts) n ≡ Some t)
has_token ts items n f tree h = go (slice_get (subject_tokens ts) n) refl (at_fault ts items n f tree h) where
  go : (o : Option SubjectToken) → slice_get (subject_tokens ts) n ≡ o → option_map (λ (m : SubjectToken). m.subject) o ≡ Some h.subject → (t : SubjectToken) × (slice_get (subject_tokens ts) n ≡ Some t)
  go None is e = absurd cc
  go (Some t) is e = (t, is)

pub is_subject : TokenIsSubject
is_subject bytes f t h =
    some_one t.subject h.first.subject
    (ap (option_map (λ (m : SubjectToken). m.subject)) (sym h.token) ∙ at_fault h.placed h.items h.number f h.tree h.first)

pub is_at_one : PlacesAreOne → TreesAreOne → FaultIsAtOne
is_at_one places trees bytes f g t u h j =
    let placed : h.placed ≡ j.placed = places start (chars bytes) h.placed j.placed h.tokens.cut j.tokens.cut in
    let items : h.items ≡ j.items = trees script h.items j.items (h.tree.0 ∙ ap lexemes placed ∙ sym j.tree.0) in
    let first = subst (λ (is : List Item). IsFirstAfter (occurrences_of is) h.number f) items h.first in
    let same = after_is_one (occurrences_of j.items) h.number j.number f g first j.first in
    (same.0, some_one t u (sym h.token ∙ ap (λ (ts : List PlacedToken). slice_get (subject_tokens ts) h.number) placed ∙ ap (slice_get (subject_tokens j.placed)) same.1 ∙ j.token))

-- ---- the faults of a text

pub fails : (items : List Item) (f : ScriptFault) → IsFirst (occurrences_of items) f → EachPasses (occurrences_of items) → ⊥
fails items f h passes = some_none f _ (passes h.before h.after h.occurrence h.parts) h.fault

is_fault : FaultIsFirst → WellDeclaredPasses → (items : List Item) (external : List ℕ) (f : ScriptFault) → IsFirst (occurrences_of items) f → fault_of items external ≡ Some f
is_fault first passes items external f h = go (fault_of items external) refl where
  go : (o : Option ScriptFault) → fault_of items external ≡ o → fault_of items external ≡ Some f
  go None is = absurd (fails items f h (passes items external is).0)
  go (Some g) is = elim (first items external g is) [
    | inl j ↦ is ∙ ap Some (sym (first_is_one (occurrences_of items) f g h j).0)
    | inr x ↦ absurd (fails items f h x.0)
  ]

pub fault_at_is_fault : FaultIsFirst → WellDeclaredPasses → FaultAtIsFault
fault_at_is_fault first passes bytes external f t h =
    let i = h.first.first in (
      fault_of_token (occurrences_of h.items) i.before i.after i.occurrence f i.fault,
      inr (inr (h.placed, h.tokens, h.offered, (h.items, h.tree, is_fault first passes h.items external f i))),
    )

never : {X : Type 0} (f : ScriptFault) → is_of_token f ≡ true → is_of_token f ≡ false → X
never f h e = absurd cc

fault_of_check : FaultIsFirst → (bytes external : List ℕ) (ts : List PlacedToken) (f : ScriptFault) → is_of_token f ≡ true → HasTokens start bytes ts → first_left_out ts ≡ None → (h : (items : List Item) × IsReadAs script (lexemes ts) items × (fault_of items external ≡ Some f))
    → (t : SubjectToken) × IsFaultAt bytes f t
fault_of_check first bytes external ts f of_token tokens offered h = elim (first h.0 external f h.2) [
  | inl j ↦
      let a = after_first (occurrences_of h.0) f j in
      let t = has_token ts h.0 a.0 f h.1 a.1 in
      (t.0, record { placed = ts; tokens = tokens; offered = offered; items = h.0; tree = h.1; number = a.0; first = a.1; token = t.1 })
  | inr x ↦ never f of_token (ap is_of_token x.2)
]

pub fault_is_at : FaultIsFirst → FaultIsAt
fault_is_at first bytes external f of_token (inl h) = never f of_token (not_of_text start bytes f h)
fault_is_at first bytes external f of_token (inr (inl (ts, tokens, h))) = never f of_token (not_of_grammar script ts (length bytes) f h)
fault_is_at first bytes external f of_token (inr (inr (ts, tokens, offered, h))) = fault_of_check first bytes external ts f of_token tokens offered h
