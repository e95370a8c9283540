-- All faults of a text, with the ranges that they are at.
use Rattle.std.specs.Prelude.{◌≡◌, ◌⊎◌, ℕ, List, [], ◌∷◌, length, map, Option, Some, None, option_map}
use Rattle.std.specs.List.{slice_get}
use Rattle.sbl_text.specs.Directives.{start}
use Rattle.sbl_text.specs.Tokens.{PlacedToken}
use Rattle.sbl_text.specs.declared.fault.ScriptFault.{ScriptFault}
use Rattle.sbl_ast.specs.Source.{Source}
use Rattle.sbl_ast.specs.Texts.{script}
use Rattle.sbl_ast.specs.Tree.{Item}
use Rattle.sbl_parser.specs.Reading.{IsReadAs}
use Rattle.sbl_resolver.specs.AllFaults.{faults_of}
use Rattle.sbl_script.specs.Reading.{HasTokens, IsFaultOf, IsScriptOf, IsTextFault, IsUnread, first_left_out, lexemes}
use Rattle.sbl_source_map.specs.FaultRanges.{IsRange}
use Rattle.sbl_source_map.specs.SubjectTokens.{SubjectToken, subject_tokens}
use Rattle.sbl_source_map.specs.declared.fault_lists.PlacedFault.{PlacedFault}

-- a text that is read: its tokens, all of them supported, and its tree
abbrev pub IsReadText : List ℕ → List PlacedToken → List Item → Type 0
IsReadText bytes ts items = HasTokens start bytes ts × (first_left_out ts ≡ None) × IsReadAs script (lexemes ts) items

-- a text that is not read, and why: its first fault before any check
abbrev pub IsUnreadText : List ℕ → ScriptFault → Type 0
IsUnreadText bytes f = IsTextFault start bytes f ⊎ ((ts : List PlacedToken) × HasTokens start bytes ts × IsUnread script ts (length bytes) f)

-- the range of the subject token with this number, from 0; none if there are not so many
abbrev pub range_of : List SubjectToken → ℕ → Option (ℕ × ℕ)
range_of ms number = option_map (λ (m : SubjectToken). (m.token.start, m.token.end)) (slice_get ms number)

-- A fault of the checks, given how many subject tokens are before its token. The fault of the external is after all of them.
abbrev pub fault_at : List SubjectToken → ℕ × ScriptFault → PlacedFault
fault_at ms x = record { fault = x.1; range = range_of ms x.0 }

-- the faults of the checks of a tree with these tokens
abbrev pub check_faults : List PlacedToken → List Item → List ℕ → List PlacedFault
check_faults ts items external = map (fault_at (subject_tokens ts)) (faults_of items external)

-- All faults of these bytes as a script with this external. If they are read, these are all faults of the checks, in text order:
-- one for each token at which a check fails, last that of the external. Otherwise it is the one fault why they are not read.
abbrev pub AreFaultsOf : (bytes external : List ℕ) → List PlacedFault → Type 0
AreFaultsOf bytes external faults =
    ((ts : List PlacedToken) × (items : List Item) × IsReadText bytes ts items × (faults ≡ check_faults ts items external))
    ⊎ ((f : ScriptFault) × (range : Option (ℕ × ℕ)) × IsUnreadText bytes f × IsRange bytes f range
    × (faults ≡ record { fault = f; range = range } ∷ []))

-- ---- laws

-- the first of all faults is the fault of the bytes
abbrev pub FirstIsFault : Type 0
FirstIsFault =
    (bytes external : List ℕ) (x : PlacedFault) (xs : List PlacedFault) → AreFaultsOf bytes external (x ∷ xs) → IsFaultOf bytes external x.fault

-- there is no fault exactly if the bytes are a script
abbrev pub NoneIsScript : Type 0
NoneIsScript = (bytes external : List ℕ) → AreFaultsOf bytes external [] → (s : Source) × IsScriptOf bytes external s

abbrev pub ScriptHasNone : Type 0
ScriptHasNone = (bytes external : List ℕ) (s : Source) (xs : List PlacedFault) → IsScriptOf bytes external s → AreFaultsOf bytes external xs → xs ≡ []
