-- What the names in a well-declared script mean.
use Rattle.std.specs.Prelude.{◌≡◌, ◌⊎◌, ℕ, true, List, ◌∷◌, ◌++◌, Some}
use Rattle.sbl_ast.specs.Order.{ItemInMode, in_order}
use Rattle.sbl_ast.specs.declared.tree.DeclarationKind.TheVariants as kinds
use Rattle.sbl_ast.specs.declared.mode.Mode.{Mode}
use Rattle.sbl_semantics.specs.Items.{Body, body_named, known_in, is_member}
use Rattle.sbl_resolver.specs.Checks.{WellDeclared}
use Rattle.sbl_resolver.specs.Occurrences.{Occurrence, uses, occurrences_of}
use Rattle.sbl_ast.specs.Source.{Source}
use Rattle.sbl_resolver.specs.declared.occurrences.Site.{Site}
use Rattle.sbl_resolver.specs.declared.occurrences.Use.{Use}
use Rattle.sbl_resolver.specs.declared.occurrences.Use.TheVariants as use_as

-- the script has a routine with this name, defined in this mode
abbrev pub HasBody : List ItemInMode → List ℕ → Mode → Type 0
HasBody items n m = (b : Body) × (body_named items n ≡ Some b) × (b.mode ≡ m)

-- a name, used in this way in a command of this mode, means an existing variable, grouping or routine
abbrev pub StandsFor : List ItemInMode → Use → List ℕ → Mode → Type 0
StandsFor items use_as.String n m = is_member (known_in items kinds.Strings) n ≡ true
StandsFor items use_as.Integer n m = is_member (known_in items kinds.Integers) n ≡ true
StandsFor items use_as.Boolean n m = is_member (known_in items kinds.Booleans) n ≡ true
StandsFor items use_as.Excluded n m = is_member (known_in items kinds.Groupings) n ≡ true
StandsFor items use_as.Term n m = is_member (known_in items kinds.Groupings) n ≡ true
StandsFor items use_as.Condition n m = HasBody items n m
StandsFor items use_as.Command n m =
    (is_member (known_in items kinds.Strings) n ≡ true) ⊎
    ((is_member (known_in items kinds.Booleans) n ≡ true) ⊎ ((is_member (known_in items kinds.Groupings) n ≡ true) ⊎ HasBody items n m))

-- In a well-declared script each name that is used means something that exists, and a routine is called in the mode in
-- which it is defined. So the cases of the definition of a run for other names do not arise.
abbrev pub NamesStand : Type 0
NamesStand =
    (script : Source) → WellDeclared script.items script.external → (before after : List Occurrence) (p : Site) (u : Use) (n : List ℕ) →
    occurrences_of script.items ≡ before ++ (record { site = p; notice = uses u n }) ∷ after → StandsFor (in_order script.items) u n p.mode
