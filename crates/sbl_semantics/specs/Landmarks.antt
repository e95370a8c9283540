-- The landmarks of a routine: its `substring`s, its amongs, and the ends of the regions inside it, in the order of the text. A routine's
-- body, a group's command and a starter are a region each, and a `substring` belongs to the next `among` of its own region.
use Rattle.std.specs.Prelude.{ℕ, suc, Bool, true, false, List, [], ◌∷◌, ◌++◌, Option, Some, None}
use Rattle.std.specs.List.{fold}
use Rattle.sbl_ast.specs.declared.tree.Prefix.{Prefix}
use Rattle.sbl_ast.specs.declared.tree.Prefix.TheVariants as prefixes
use Rattle.sbl_ast.specs.declared.tree.Simple.TheVariants as simples
use Rattle.sbl_ast.specs.Tree as trees
use Rattle.sbl_ast.specs.Tree.{bracket, simple_, prefixed, counted, setlimit_, among_, no_rows}
use Rattle.sbl_ast.specs.Tree.{row, no_others, joined, no_starter, starter, bare, group}
use Rattle.sbl_ast.specs.declared.mode.Mode.{Mode}
use Rattle.sbl_ast.specs.declared.mode.Mode.TheVariants.{Backward}

-- an among has the mode at its place, and its groups
pub data Landmark : Type 0 where
  substring region_end : Landmark
  among : Mode → trees.Groups → Landmark

-- the mode of a command after a prefix
abbrev pub mode_under : Prefix → Mode → Mode
mode_under prefixes.Backwards m = Backward
mode_under x m = m

-- the landmarks of a command in this mode
abbrev mutual
  pub landmarks : Mode → trees.Command → List Landmark
  landmarks m (bracket rs) = landmarks_in_rows m rs
  landmarks m (simple_ simples.Substring) = substring ∷ []
  landmarks m (prefixed x c) = landmarks (mode_under x m) c
  landmarks m (counted x e c) = landmarks m c
  landmarks m (setlimit_ b c) = landmarks m b ++ landmarks m c
  landmarks m (among_ s gs) = among m gs ∷ (landmarks_in_starter m s ++ landmarks_in_groups m gs)
  landmarks m t = []

  pub landmarks_in_rows : Mode → trees.Rows → List Landmark
  landmarks_in_rows m no_rows = []
  landmarks_in_rows m (row c os rs) = landmarks m c ++ (landmarks_in_others m os ++ landmarks_in_rows m rs)

  pub landmarks_in_others : Mode → trees.Others → List Landmark
  landmarks_in_others m no_others = []
  landmarks_in_others m (joined j c os) = landmarks m c ++ landmarks_in_others m os

  pub landmarks_in_starter : Mode → trees.Starter → List Landmark
  landmarks_in_starter m no_starter = []
  landmarks_in_starter m (starter rs) = landmarks_in_rows m rs ++ region_end ∷ []

  pub landmarks_in_groups : Mode → trees.Groups → List Landmark
  landmarks_in_groups m (bare es) = []
  landmarks_in_groups m (group e es rs gs) = landmarks_in_rows m rs ++ region_end ∷ landmarks_in_groups m gs

-- an among: the number of amongs before it in its routine, the mode at its position, and its groups
pub record Among : Type 0 where
  pub number : ℕ
  pub mode : Mode
  pub groups : trees.Groups

-- how many of these landmarks are amongs
abbrev pub amongs_in : List Landmark → ℕ
amongs_in [] = 0
amongs_in (among m gs ∷ ls) = suc (amongs_in ls)
amongs_in (_ ∷ ls) = amongs_in ls

-- the last of these landmarks is a `substring`
abbrev pub ends_in_substring : List Landmark → Bool
ends_in_substring ls = fold (λ w l. elim l [ substring ↦ true | region_end ↦ false | among m gs ↦ false ]) false ls

-- the next among of the region whose landmarks come next; k amongs of the routine come before them
abbrev pub next_among : ℕ → List Landmark → Option Among
next_among k (among m gs ∷ ls) = Some (record { number = k; mode = m; groups = gs })
next_among k (substring ∷ ls) = next_among k ls
next_among k _ = None
