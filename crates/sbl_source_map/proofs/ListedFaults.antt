-- The first of all faults, and texts without one.
use Rattle.std.proofs.Common.{◌≡◌, ◌⊎◌, ℕ, List, [], ◌∷◌, map, Option, Some, None, refl, sym, ap, subst, ◌∙◌, inl, inr}
use Rattle.sbl_text.specs.Tokens.{PlacedToken}
use Rattle.sbl_text.specs.declared.fault.ScriptFault.{ScriptFault}
use Rattle.sbl_ast.specs.Source.{Source}
use Rattle.sbl_ast.specs.Tree.{Item}
use Rattle.sbl_resolver.specs.AllFaults.{FaultIsFirstOfAll, faults_of, first_of}
use Rattle.sbl_resolver.specs.Checks.{fault_of}
use Rattle.sbl_script.specs.OneReading.{ScriptOrFault}
use Rattle.sbl_script.specs.Reading.{IsFaultOf, IsScriptOf}
use Rattle.sbl_source_map.specs.FaultLists.{AreFaultsOf, FirstIsFault, IsReadText, IsUnreadText, NoneIsScript, ScriptHasNone, check_faults, fault_at}
use Rattle.sbl_source_map.specs.SubjectTokens.{SubjectToken, subject_tokens}
use Rattle.sbl_source_map.specs.declared.fault_lists.PlacedFault.{PlacedFault}

-- the first fault of the checks of a tree
first_of_checks : (ms : List SubjectToken) (all : List (ℕ × ScriptFault)) (x : PlacedFault) (xs : List PlacedFault) → x ∷ xs ≡ map (fault_at ms) all → first_of all ≡ Some x.fault
first_of_checks ms [] x xs is = absurd cc
first_of_checks ms (y ∷ ys) x xs is =
    let same : x ≡ fault_at ms y = cc in ap (λ (z : PlacedFault). Some z.fault) (sym same)

no_checks : (ms : List SubjectToken) (all : List (ℕ × ScriptFault)) → [] ≡ map (fault_at ms) all → first_of all ≡ None
no_checks ms [] is = refl
no_checks ms (y ∷ ys) is = absurd cc

unread_is_fault : (bytes external : List ℕ) (f : ScriptFault) → IsUnreadText bytes f → IsFaultOf bytes external f
unread_is_fault bytes external f (inl h) = inl h
unread_is_fault bytes external f (inr h) = inr (inl h)

pub first_is_fault : FaultIsFirstOfAll → FirstIsFault
first_is_fault first bytes external x xs (inl (ts, items, read, is)) =
    inr (inr (
      ts,
      read.0,
      read.1,
      (items, read.2, sym (first items external) ∙ first_of_checks (subject_tokens ts) (faults_of items external) x xs is),
    ))
first_is_fault first bytes external x xs (inr (f, range, unread, at, is)) =
    let same : f ≡ x.fault = cc in subst (IsFaultOf bytes external) same (unread_is_fault bytes external f unread)

pub none_is_script : FaultIsFirstOfAll → NoneIsScript
none_is_script first bytes external (inl (ts, items, read, is)) = (
  record { items = items; external = external },
  record {
    placed = ts;
    tokens = read.0;
    offered = read.1;
    tree = read.2;
    external_is = refl;
    well_declared = sym (first items external) ∙ no_checks (subject_tokens ts) (faults_of items external) is;
  },
)
none_is_script first bytes external (inr (f, range, unread, at, is)) = absurd cc

pub script_has_none : FaultIsFirstOfAll → ScriptOrFault → ScriptHasNone
script_has_none first either bytes external s [] script faults = refl
script_has_none first either bytes external s (x ∷ xs) script faults =
    absurd (either bytes external s x.fault script (first_is_fault first bytes external x xs faults))
