-- Scripts: their checks, what the checks come to, and what two scripts have in common.
use Rattle.std.specs.Prelude.{◌≡◌, ℕ, Bool, false, List, ◌∷◌, ◌++◌, map, Some}
use Rattle.std.specs.List.{list_any}
use Rattle.sbl_ast.specs.Order.{in_order}
use Rattle.sbl_ast.specs.Source.{Source}
use Rattle.sbl_ast.specs.Tree.{Item}
use Rattle.sbl_text.specs.declared.fault.ScriptFault.{ScriptFault}
use Rattle.sbl_compiler.specs.Laws.{names_in}
use Rattle.sbl_compiler.specs.NumberedNames.{number_of}
use Rattle.sbl_machine.specs.NamesStand.{StandsFor}
use Rattle.sbl_resolver.specs.Checks.{WellDeclared, fault_at}
use Rattle.sbl_resolver.specs.Occurrences.{Notice, Occurrence, occurrences_of}
use Rattle.sbl_resolver.specs.declared.occurrences.Site.{Site}
use Rattle.sbl_resolver.specs.declared.occurrences.Use.{Use}
use Rattle.sbl_semantics.specs.Items.{body_named}
use Rattle.sbl_semantics.specs.Outcome.{touches_of}
use Rattle.sbl_semantics.specs.TouchedItems.{item_of_touch, names_of}
use Rattle.sbl_ast.specs.NamedParts.{Part'}

abbrev pub PassesChecks : Source → Type 0
PassesChecks script = WellDeclared script.items script.external

-- the checks come to this notice at this site, between the occurrences before it and those after it
abbrev pub ComesTo : List Item → List Occurrence → Site → Notice → List Occurrence → Type 0
ComesTo items before p n after = occurrences_of items ≡ before ++ (record { site = p; notice = n }) ∷ after

-- after the occurrences in `before` comes one with this fault
pub record HasFaultIn (items : List Item) (before : List Occurrence) (f : ScriptFault) : Type 0 where
  pub occurrence : Occurrence
  pub after : List Occurrence
  pub parts : occurrences_of items ≡ before ++ occurrence ∷ after
  pub fault : fault_at (occurrences_of items) before occurrence after ≡ Some f

-- at this site, a use of n names something of the script
abbrev pub NamesSomething : Source → Use → List ℕ → Site → Type 0
NamesSomething script u n p = StandsFor (in_order script.items) u n p.mode

-- the routine n has the same body in both scripts, or is in none
abbrev pub HasOneBody : List Item → List Item → List ℕ → Type 0
HasOneBody items items' n = body_named (in_order items) n ≡ body_named (in_order items') n

-- the number of the grouping n
abbrev pub grouping_number : List Item → List ℕ → ℕ
grouping_number items n = number_of (names_in items).groupings n

-- the run of a word touches none of the picked items
abbrev pub TouchesNone : (Part' → Bool) → Source → List ℕ → ℕ → Type 0
TouchesNone picked s word limit = list_any picked (map (item_of_touch (names_of s)) (touches_of s word limit)) ≡ false
