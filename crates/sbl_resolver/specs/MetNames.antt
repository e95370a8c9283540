-- What the checks remember of the occurrences so far.
use Rattle.std.specs.Prelude.{◌≡◌, ℕ, Bool, true, false, List, Option, Some, None, Result, Ok, Err, ◌⊎◌, ◌||◌}
use Rattle.std.specs.Ordering.{nat_cmp, ordering_then}
use Rattle.std.specs.Cmp.Lexicographic.{slice_cmp}
use Rattle.std.specs.Option.{option_or}
use Rattle.std.specs.BTreeMap.{BTreeMap, get_by}
use Rattle.std.specs.BTreeSet.{BTreeSet, contains_by}
use denote.Ref.{Bor}
use Rattle.sbl_text.specs.declared.fault.ScriptFault.{ScriptFault}
use Rattle.sbl_text.specs.declared.fault.ScriptFault.TheVariants as fault
use Rattle.sbl_ast.specs.declared.tree.DeclarationKind.{DeclarationKind}
use Rattle.sbl_resolver.specs.declared.occurrences.Site.{Site}
use Rattle.sbl_resolver.specs.declared.checks.CheckState.{CheckState}
use Rattle.sbl_resolver.specs.Occurrences.{Occurrence}
use Rattle.sbl_resolver.specs.Checks.{kind_of, definition_of, is_awaited, is_text_of, is_routine, is_grouping}
use Rattle.sbl_resolver.specs.inside.CheckParts.{declared_as, waits_after}
use Rattle.sbl_resolver.specs.inside.CheckParts.{has_text}

-- the value of a map at a name
abbrev pub at_name : {X : Type 0} → BTreeMap (Bor (List ℕ)) X → List ℕ → Option X
at_name m n = get_by (λ k. slice_cmp nat_cmp n k.now) m

-- the set contains this string of this among of this item
abbrev pub has_string : BTreeSet (ℕ × ℕ × Bor (List ℕ)) → ℕ → ℕ → List ℕ → Bool
has_string s item k text = contains_by (λ x. ordering_then (ordering_then (nat_cmp item x.0) (nat_cmp k x.1)) (slice_cmp nat_cmp text x.2.now)) s

-- the map has the site of the first definition of each name
abbrev pub HasPlaces : BTreeMap (Bor (List ℕ)) Site → List Occurrence → Type 0
HasPlaces m ms = (n : List ℕ) → at_name m n ≡ definition_of n ms

-- the kinds of the names, the strings of the amongs, and whether a substring is still without its among
pub record HasMet (met : CheckState) (ms : List Occurrence) : Type 0 where
  pub kinds : (n : List ℕ) → at_name met.kinds n ≡ kind_of n ms
  pub strings : (item k : ℕ) (text : List ℕ) → has_string met.strings item k text ≡ has_text item k text ms
  pub waits : met.waits ≡ is_awaited ms false

-- what is remembered after one more occurrence
pub record Notes (old new : CheckState) (m : Occurrence) : Type 0 where
  pub kinds : (n : List ℕ) → at_name new.kinds n ≡ option_or (at_name old.kinds n) (declared_as n m.notice)
  pub strings : (item k : ℕ) (text : List ℕ) → has_string new.strings item k text ≡ (has_string old.strings item k text || is_text_of item k text m)
  pub waits : new.waits ≡ waits_after m.notice old.waits

-- whether a name of a kind can be defined as a grouping, or as a routine
abbrev pub may_define_as : Bool → DeclarationKind → Bool
may_define_as true = is_grouping
may_define_as false = is_routine

-- the result is this fault, or `OutOfMemory`
abbrev pub Finds : {X : Type 0} → Result X ScriptFault → Option ScriptFault → Type 0
Finds (Ok x) found = found ≡ None
Finds (Err e) found = (e ≡ fault.OutOfMemory) ⊎ (found ≡ Some e)
