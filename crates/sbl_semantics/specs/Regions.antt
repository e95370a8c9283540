-- The regions of a routine, command by command: the number of amongs, whether a `substring` waits for one, and which comes next.
use Rattle.std.specs.Prelude.{ℕ, suc, Bool, true, false, Option, Some}
use Rattle.sbl_ast.specs.declared.tree.Simple.TheVariants as simples
use Rattle.sbl_ast.specs.Tree as trees
use Rattle.sbl_ast.specs.Tree.{bracket, simple_, prefixed, counted, setlimit_, among_, no_rows}
use Rattle.sbl_ast.specs.Tree.{row, no_others, joined, no_starter, starter, bare, group}
use Rattle.sbl_ast.specs.declared.mode.Mode.{Mode}
use Rattle.sbl_semantics.specs.Landmarks.{Among, mode_under}

-- the number of the next among after a command, if it is k before the command
abbrev mutual
  pub number_after : trees.Command → ℕ → ℕ
  number_after (bracket rs) k = number_after_rows rs k
  number_after (prefixed x c) k = number_after c k
  number_after (counted n e c) k = number_after c k
  number_after (setlimit_ b c) k = number_after c (number_after b k)
  number_after (among_ s gs) k = number_after_groups gs (number_after_starter s (suc k))
  number_after t k = k

  pub number_after_rows : trees.Rows → ℕ → ℕ
  number_after_rows no_rows k = k
  number_after_rows (row c os rs) k = number_after_rows rs (number_after_others os (number_after c k))

  pub number_after_others : trees.Others → ℕ → ℕ
  number_after_others no_others k = k
  number_after_others (joined j c os) k = number_after_others os (number_after c k)

  pub number_after_starter : trees.Starter → ℕ → ℕ
  number_after_starter no_starter k = k
  number_after_starter (starter rs) k = number_after_rows rs k

  pub number_after_groups : trees.Groups → ℕ → ℕ
  number_after_groups (bare es) k = k
  number_after_groups (group e es rs gs) k = number_after_groups gs (number_after_rows rs k)

-- a `substring` waits after a command
abbrev mutual
  pub waits : trees.Command → Bool → Bool
  waits (bracket rs) w = waits_rows rs w
  waits (simple_ simples.Substring) w = true
  waits (prefixed x c) w = waits c w
  waits (counted n e c) w = waits c w
  waits (setlimit_ b c) w = waits c (waits b w)
  waits (among_ s gs) w = false
  waits t w = w

  pub waits_rows : trees.Rows → Bool → Bool
  waits_rows no_rows w = w
  waits_rows (row c os rs) w = waits_rows rs (waits_others os (waits c w))

  pub waits_others : trees.Others → Bool → Bool
  waits_others no_others w = w
  waits_others (joined j c os) w = waits_others os (waits c w)

abbrev mutual
  -- the first among of a command, with k amongs before the command in the routine; or else the next one of the region
  -- after it, if there is one
  pub first : Mode → trees.Command → ℕ → Option Among → Option Among
  first m (bracket rs) k n = first_rows m rs k n
  first m (prefixed x c) k n = first (mode_under x m) c k n
  first m (counted x e c) k n = first m c k n
  first m (setlimit_ b c) k n = first m b k (first m c (number_after b k) n)
  first m (among_ s gs) k n = Some (record { number = k; mode = m; groups = gs })
  first m t k n = n

  pub first_rows : Mode → trees.Rows → ℕ → Option Among → Option Among
  first_rows m no_rows k n = n
  first_rows m (row c os rs) k n = first m c k (first_others m os (number_after c k) (first_rows m rs (number_after_others os (number_after c k)) n))

  pub first_others : Mode → trees.Others → ℕ → Option Among → Option Among
  first_others m no_others k n = n
  first_others m (joined j c os) k n = first m c k (first_others m os (number_after c k) n)

-- ---- names for parts of these definitions, which proofs use

abbrev pub among_at : Mode → ℕ → trees.Groups → Among
among_at m k gs = record { number = k; mode = m; groups = gs }
