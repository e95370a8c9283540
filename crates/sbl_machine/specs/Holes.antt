-- A script with holes in place of some of its items. Of an among the hole keeps only how many amongs it holds; of a
-- routine or a grouping, only the name.
use Rattle.std.specs.Prelude.{ℕ, suc, Bool, [], map, None, if◌then◌else◌}
use Rattle.sbl_ast.specs.NamedParts.{Part', Routine, Among, Grouping}
use Rattle.sbl_semantics.specs.Regions.{number_after, number_after_others, number_after_rows, number_after_starter}
use Rattle.sbl_ast.specs.Source.{Source}
use Rattle.sbl_ast.specs.Tree.{QuotedText, Plain, Item, bracket, prefixed, counted, setlimit_, among_, no_rows, row, no_others, joined}
use Rattle.sbl_ast.specs.Tree.{no_starter, starter, bare, group, entry, written_out, routine, grouping, plain, backward}
use Rattle.sbl_ast.specs.Tree as trees

-- an empty among
abbrev pub blank : trees.Command
blank = among_ no_starter (bare [])

-- the amongs of a command, each made empty, as rows followed by `rest`
abbrev mutual
  pub blanks : trees.Command → trees.Rows → trees.Rows
  blanks (bracket rs) rest = blanks_rows rs rest
  blanks (prefixed x c) rest = blanks c rest
  blanks (counted n e c) rest = blanks c rest
  blanks (setlimit_ b c) rest = blanks b (blanks c rest)
  blanks (among_ s gs) rest = row blank no_others (blanks_starter s (blanks_groups gs rest))
  blanks c rest = rest

  pub blanks_rows : trees.Rows → trees.Rows → trees.Rows
  blanks_rows no_rows rest = rest
  blanks_rows (row c os rs) rest = blanks c (blanks_others os (blanks_rows rs rest))

  pub blanks_others : trees.Others → trees.Rows → trees.Rows
  blanks_others no_others rest = rest
  blanks_others (joined j c os) rest = blanks c (blanks_others os rest)

  pub blanks_starter : trees.Starter → trees.Rows → trees.Rows
  blanks_starter no_starter rest = rest
  blanks_starter (starter rs) rest = blanks_rows rs rest

  pub blanks_groups : trees.Groups → trees.Rows → trees.Rows
  blanks_groups (bare es) rest = rest
  blanks_groups (group e es rs gs) rest = blanks_rows rs (blanks_groups gs rest)

abbrev pub nothing : QuotedText
nothing = record { spelling = []; value = [] }

-- an among that keeps only how many amongs it holds
abbrev pub hole : trees.Starter → trees.Groups → trees.Command
hole s gs = among_ no_starter (group (entry nothing None) [] (blanks_starter s (blanks_groups gs no_rows)) (bare []))

-- a command with holes in place of the amongs whose numbers are picked; k amongs of its routine come before it
module _ (picked : ℕ → Bool) where
  abbrev mutual
    pub with_holes : ℕ → trees.Command → trees.Command
    with_holes k (bracket rs) = bracket (rows_with_holes k rs)
    with_holes k (prefixed x c) = prefixed x (with_holes k c)
    with_holes k (counted n e c) = counted n e (with_holes k c)
    with_holes k (setlimit_ b c) = setlimit_ (with_holes k b) (with_holes (number_after b k) c)
    with_holes k (among_ s gs) =
        if picked (suc k) then hole s gs else among_ (starter_with_holes (suc k) s) (groups_with_holes (number_after_starter s (suc k)) gs)
    with_holes k c = c

    pub rows_with_holes : ℕ → trees.Rows → trees.Rows
    rows_with_holes k no_rows = no_rows
    rows_with_holes k (row c os rs) =
        row (with_holes k c) (others_with_holes (number_after c k) os) (rows_with_holes (number_after_others os (number_after c k)) rs)

    pub others_with_holes : ℕ → trees.Others → trees.Others
    others_with_holes k no_others = no_others
    others_with_holes k (joined j c os) = joined j (with_holes k c) (others_with_holes (number_after c k) os)

    pub starter_with_holes : ℕ → trees.Starter → trees.Starter
    starter_with_holes k no_starter = no_starter
    starter_with_holes k (starter rs) = starter (rows_with_holes k rs)

    pub groups_with_holes : ℕ → trees.Groups → trees.Groups
    groups_with_holes k (bare es) = bare es
    groups_with_holes k (group e es rs gs) = group e es (rows_with_holes k rs) (groups_with_holes (number_after_rows rs k) gs)

-- a script with holes in place of the picked items
module _ (picked : Part' → Bool) where
  abbrev pub holed_plain : Plain → Plain
  holed_plain (routine n c os) =
      if picked (Routine n) then routine n (bracket no_rows) no_others
      else routine n (with_holes (λ k. picked (Among n k)) 0 c) (others_with_holes (λ k. picked (Among n k)) (number_after c 0) os)
  holed_plain (grouping n a ts) = if picked (Grouping n) then grouping n (written_out nothing) [] else grouping n a ts
  holed_plain x = x

  abbrev pub holed_item : Item → Item
  holed_item (plain x) = plain (holed_plain x)
  holed_item (backward xs) = backward (map holed_plain xs)

  abbrev pub holed_script : Source → Source
  holed_script s = record { items = map holed_item s.items; external = s.external }
