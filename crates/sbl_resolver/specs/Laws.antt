-- Laws of the checks.
use Rattle.std.specs.Prelude.{◌≡◌, ◌⊎◌, ℕ, true, false, List, ◌∷◌, ◌++◌, Some, None}
use Rattle.sbl_text.specs.declared.fault.ScriptFault.{ScriptFault}
use Rattle.sbl_text.specs.declared.fault.ScriptFault.TheVariants as fault
use Rattle.sbl_ast.specs.Tree.{Item}
use Rattle.sbl_ast.specs.declared.tree.DeclarationKind.{DeclarationKind}
use Rattle.sbl_ast.specs.declared.mode.Mode.{Mode}
use Rattle.sbl_resolver.specs.declared.occurrences.Site.{Site}
use Rattle.sbl_resolver.specs.declared.occurrences.Use.{Use}
use Rattle.sbl_resolver.specs.Occurrences.{Occurrence, uses, substring, occurrences_of}
use Rattle.sbl_resolver.specs.Checks.{kind_of, definition_of, may_be, needs_definition, is_routine, is_mode}
use Rattle.sbl_resolver.specs.Checks.{is_followed, fault_at, fault_of, has_external, WellDeclared}

-- no check fails at any occurrence
abbrev pub EachPasses : List Occurrence → Type 0
EachPasses all = (before after : List Occurrence) (m : Occurrence) → all ≡ before ++ m ∷ after → fault_at all before m after ≡ None

-- an occurrence has this fault, and no check fails at an earlier occurrence
pub record IsFirst (all : List Occurrence) (f : ScriptFault) : Type 0 where
  pub before : List Occurrence
  pub occurrence : Occurrence
  pub after : List Occurrence
  pub parts : all ≡ before ++ occurrence ∷ after
  pub fault : fault_at all before occurrence after ≡ Some f
  pub none_before : (b c : List Occurrence) (x : Occurrence) → before ≡ b ++ x ∷ c → fault_at all b x (c ++ occurrence ∷ after) ≡ None

-- if a script is well declared, no check fails, and its external is declared and defined
abbrev pub WellDeclaredPasses : Type 0
WellDeclaredPasses =
    (items : List Item) (external : List ℕ) → WellDeclared items external →
    EachPasses (occurrences_of items) × (has_external items external (occurrences_of items) ≡ true)

-- the fault of a script is the fault of the first occurrence at which a check fails; the fault of the external comes
-- last
abbrev pub FaultIsFirst : Type 0
FaultIsFirst = (items : List Item) (external : List ℕ) (f : ScriptFault) → fault_of items external ≡ Some f →
    IsFirst (occurrences_of items) f
    ⊎ (EachPasses (occurrences_of items) × (has_external items external (occurrences_of items) ≡ false) × (f ≡ fault.NoExternal))

-- the name is declared and its kind is allowed in this use; if the kind needs a definition, there is one; the
-- definition of a routine is in this mode
pub record Resolves (all : List Occurrence) (u : Use) (n : List ℕ) (mode : Mode) : Type 0 where
  pub kind : DeclarationKind
  pub declared : kind_of n all ≡ Some kind
  pub allowed : may_be u kind ≡ true
  pub defined : needs_definition kind ≡ true → (p : Site) × (definition_of n all ≡ Some p)
  pub same_mode : is_routine kind ≡ true → (p : Site) → definition_of n all ≡ Some p → is_mode mode p.mode ≡ true

-- each name that is used in a well declared script resolves
abbrev pub NamesResolve : Type 0
NamesResolve =
    (items : List Item) (external : List ℕ) → WellDeclared items external → (before after : List Occurrence) (p : Site) (u : Use) (n : List ℕ)
    → occurrences_of items ≡ before ++ (record { site = p; notice = uses u n }) ∷ after → Resolves (occurrences_of items) u n p.mode

-- each substring in a well declared script has its among
abbrev pub SubstringsArePaired : Type 0
SubstringsArePaired = (items : List Item) (external : List ℕ) → WellDeclared items external → (before after : List Occurrence) (p : Site)
    → occurrences_of items ≡ before ++ (record { site = p; notice = substring }) ∷ after → is_followed p.mode after ≡ true
