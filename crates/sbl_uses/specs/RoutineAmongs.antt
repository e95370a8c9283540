-- The amongs of a routine.
use Rattle.std.specs.Prelude.{◌≡◌, ℕ, List, ◌∷◌, ◌++◌, Option, Some}
use Rattle.sbl_semantics.specs.Items.{Body, DeclaredNames, place_of}
use Rattle.sbl_semantics.specs.Landmarks.{Among, Landmark, among, amongs_in, landmarks, landmarks_in_others}
use Rattle.sbl_ast.specs.declared.tree.DeclarationKind.TheVariants as kinds

-- an among is one of those in a routine's body: it is one of its landmarks
abbrev pub IsInBody : Among → Body → Type 0
IsInBody a b = (before : List Landmark) × (rest : List Landmark) × (a.number ≡ amongs_in before)
    × (landmarks b.mode b.first ++ landmarks_in_others b.mode b.others ≡ before ++ among a.mode a.groups ∷ rest)

-- the routine with this number has this among, given the names of the script and the bodies of its routines
abbrev pub HasAmong : DeclaredNames → (List ℕ → Option Body) → ℕ → Among → Type 0
HasAmong ns bodies i a = (n : List ℕ) × (b : Body) × (place_of (ns kinds.Routines) n ≡ i) × (bodies n ≡ Some b) × IsInBody a b
