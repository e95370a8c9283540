-- The token at which the checks find the fault of a text.
use Rattle.std.specs.Prelude.{◌≡◌, ℕ, Bool, true, false, List, Option, Some, None, MatchOption}
use Rattle.std.specs.List.{slice_get}
use Rattle.sbl_text.specs.declared.fault.ScriptFault.{ScriptFault}
use Rattle.sbl_text.specs.declared.fault.ScriptFault.TheVariants as fault
use Rattle.sbl_text.specs.Directives.{start}
use Rattle.sbl_text.specs.Tokens.{PlacedToken}
use Rattle.sbl_ast.specs.Tree.{Item}
use Rattle.sbl_ast.specs.Texts.{script}
use Rattle.sbl_parser.specs.Reading.{IsReadAs}
use Rattle.sbl_resolver.specs.Occurrences.{occurrences_of}
use Rattle.sbl_resolver.specs.Subjects.{subjects_of, IsFirstAfter}
use Rattle.sbl_script.specs.Reading.{HasTokens, IsFaultOf, first_left_out, lexemes}
use Rattle.sbl_source_map.specs.SubjectTokens.{SubjectToken, subject_tokens, subjects}
use Rattle.sbl_source_map.specs.declared.fault_places.FaultPlace.{FaultPlace}

-- ---- the law of places

-- what the checks look at in a tree are, one for one and in order, the subject tokens of the text that is read as it
abbrev pub SubjectsAreTokens : Type 0
SubjectsAreTokens =
    (ts : List PlacedToken) (items : List Item) → IsReadAs script (lexemes ts) items
    → subjects (subject_tokens ts) ≡ subjects_of (occurrences_of items)

-- ---- the token of a fault

-- The bytes have tokens, all of them supported, that form a tree. The first fault of its checks is f, and t is the
-- subject token with as many subject tokens before it as tokens that the checks look at before the fault.
pub record IsFaultAt (bytes : List ℕ) (f : ScriptFault) (t : SubjectToken) : Type 0 where
  pub placed : List PlacedToken
  pub tokens : HasTokens start bytes placed
  pub offered : first_left_out placed ≡ None
  pub items : List Item
  pub tree : IsReadAs script (lexemes placed) items
  pub number : ℕ
  pub first : IsFirstAfter (occurrences_of items) number f
  pub token : slice_get (subject_tokens placed) number ≡ Some t

-- these bytes have no fault at a token
abbrev pub HasNoFaultAt : List ℕ → Type 0
HasNoFaultAt bytes = (f : ScriptFault) (t : SubjectToken) → IsFaultAt bytes f t → ⊥

-- the fault of these bytes is at a token, and its place is that of the token
pub record IsPlaceIn (bytes : List ℕ) (p : FaultPlace) : Type 0 where
  pub token : SubjectToken
  pub fault : IsFaultAt bytes p.fault token
  pub begin : p.begin ≡ token.token.start
  pub end : p.end ≡ token.token.end

-- ---- the offset of a fault

-- the byte offset of the token at which the checks find this fault, if it is what they find in these bytes
abbrev pub IsTokenOffset : List ℕ → ScriptFault → Option ℕ → Type 0
IsTokenOffset bytes f o =
    MatchOption o ((t : SubjectToken) → IsFaultAt bytes f t → ⊥) (λ offset. (t : SubjectToken) × IsFaultAt bytes f t × (offset ≡ t.token.start))

-- the place that a fault itself has
abbrev pub place_in : ScriptFault → Option ℕ
place_in (fault.BadCharacter place) = Some place
place_in (fault.UnclosedString place) = Some place
place_in (fault.UnclosedComment place) = Some place
place_in (fault.UnknownEscape place) = Some place
place_in (fault.BadCode place) = Some place
place_in (fault.NumberTooLarge place) = Some place
place_in (fault.Syntax place) = Some place
place_in (fault.TooDeep place) = Some place
place_in (fault.OutOfProfile place) = Some place
place_in _ = None

-- the byte offset of a fault: its place, or that of its token in these bytes if it has no place
abbrev pub IsOffset : List ℕ → ScriptFault → Option ℕ → Type 0
IsOffset bytes f o = MatchOption (place_in f) (IsTokenOffset bytes f o) (λ place. o ≡ Some place)

-- ---- laws

-- the token is what the checks look at in the occurrence with the fault
abbrev pub TokenIsSubject : Type 0
TokenIsSubject = (bytes : List ℕ) (f : ScriptFault) (t : SubjectToken) (is : IsFaultAt bytes f t) → t.subject ≡ is.first.subject

-- bytes have at most one fault at a token, at one token
abbrev pub FaultIsAtOne : Type 0
FaultIsAtOne = (bytes : List ℕ) (f g : ScriptFault) (t u : SubjectToken) → IsFaultAt bytes f t → IsFaultAt bytes g u → (f ≡ g) × (t ≡ u)

-- faults 9 to 19
abbrev pub is_of_token : ScriptFault → Bool
is_of_token (fault.DeclaredTwice item) = true
is_of_token (fault.Undeclared item) = true
is_of_token (fault.WrongKind item) = true
is_of_token (fault.DefinedTwice item) = true
is_of_token (fault.Undefined item) = true
is_of_token (fault.WrongMode item) = true
is_of_token (fault.Substring item) = true
is_of_token (fault.Starter item) = true
is_of_token (fault.RepeatedString item) = true
is_of_token (fault.EmptyAmong item) = true
is_of_token (fault.NestedBackwards item) = true
is_of_token _ = false

-- a fault at a token is one of these, and it is the fault of the bytes, with each external
abbrev pub FaultAtIsFault : Type 0
FaultAtIsFault =
    (bytes external : List ℕ) (f : ScriptFault) (t : SubjectToken) → IsFaultAt bytes f t → (is_of_token f ≡ true) × IsFaultOf bytes external f

-- if the fault of the bytes is one of these, it is at a token
abbrev pub FaultIsAt : Type 0
FaultIsAt = (bytes external : List ℕ) (f : ScriptFault) → is_of_token f ≡ true → IsFaultOf bytes external f → (t : SubjectToken) × IsFaultAt bytes f t
