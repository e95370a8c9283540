-- The amongs of a routine, command by command. RoutineAmongs.antt says the same by its landmarks.
use Rattle.std.specs.Prelude.{◌≡◌, ◌⊎◌, ℕ, suc, List, Option, Some}
use Rattle.sbl_semantics.specs.Items.{Body, DeclaredNames, place_of}
use Rattle.sbl_semantics.specs.Regions.{among_at, number_after, number_after_others, number_after_rows, number_after_starter}
use Rattle.sbl_semantics.specs.Landmarks.{Among, mode_under}
use Rattle.sbl_ast.specs.Tree as trees
use Rattle.sbl_ast.specs.Tree.{bracket, simple_, literal_, name_, non_, prefixed, counted, move_, named, splice_, setlimit_, assign_, compare_}
use Rattle.sbl_ast.specs.Tree.{compare_values_, among_, no_rows, row, no_others, joined, no_starter, starter, bare, group}
use Rattle.sbl_ast.specs.declared.tree.DeclarationKind.TheVariants as kinds
use Rattle.sbl_ast.specs.declared.mode.Mode.{Mode}

-- an among is one of those in a command; r is the mode of the command's place, and k amongs of the routine come before it
abbrev mutual
  pub IsIn : Among → Mode → ℕ → trees.Command → Type 0
  IsIn a r k (bracket rs) = IsInRows a r k rs
  IsIn a r k (prefixed x c) = IsIn a (mode_under x r) k c
  IsIn a r k (counted x e c) = IsIn a r k c
  IsIn a r k (setlimit_ b c) = IsIn a r k b ⊎ IsIn a r (number_after b k) c
  IsIn a r k (among_ st gs) = (a ≡ among_at r k gs) ⊎ (IsInStarter a r (suc k) st ⊎ IsInGroups a r (number_after_starter st (suc k)) gs)
  IsIn a r k (simple_ x) = ⊥
  IsIn a r k (literal_ q) = ⊥
  IsIn a r k (name_ n) = ⊥
  IsIn a r k (non_ b n) = ⊥
  IsIn a r k (move_ x e) = ⊥
  IsIn a r k (named x n) = ⊥
  IsIn a r k (splice_ x y) = ⊥
  IsIn a r k (assign_ n o e) = ⊥
  IsIn a r k (compare_ n o e) = ⊥
  IsIn a r k (compare_values_ e o f) = ⊥

  pub IsInRows : Among → Mode → ℕ → trees.Rows → Type 0
  IsInRows a r k no_rows = ⊥
  IsInRows a r k (row c os rs) = IsIn a r k c ⊎ (IsInOthers a r (number_after c k) os ⊎ IsInRows a r (number_after_others os (number_after c k)) rs)

  pub IsInOthers : Among → Mode → ℕ → trees.Others → Type 0
  IsInOthers a r k no_others = ⊥
  IsInOthers a r k (joined j c os) = IsIn a r k c ⊎ IsInOthers a r (number_after c k) os

  pub IsInStarter : Among → Mode → ℕ → trees.Starter → Type 0
  IsInStarter a r k no_starter = ⊥
  IsInStarter a r k (starter rs) = IsInRows a r k rs

  pub IsInGroups : Among → Mode → ℕ → trees.Groups → Type 0
  IsInGroups a r k (bare es) = ⊥
  IsInGroups a r k (group e es rs gs) = IsInRows a r k rs ⊎ IsInGroups a r (number_after_rows rs k) gs

-- an among is one of those in a routine's body
abbrev pub IsInBody : Among → Body → Type 0
IsInBody a b = IsIn a b.mode 0 b.first ⊎ IsInOthers a b.mode (number_after b.first 0) b.others

-- the routine with this number has this among, given the names of the script and the bodies of its routines
abbrev pub HasAmong : DeclaredNames → (List ℕ → Option Body) → ℕ → Among → Type 0
HasAmong ns bodies i a = (n : List ℕ) × (b : Body) × (place_of (ns kinds.Routines) n ≡ i) × (bodies n ≡ Some b) × IsInBody a b
