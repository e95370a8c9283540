-- The parts of a script that a run can use: its items, and the strings of its amongs.
use Rattle.std.specs.Prelude.{ℕ, suc, List, [], ◌∷◌, ◌++◌, map}
use Rattle.std.specs.BTreeMap.{insert_entry}
use Rattle.std.specs.List.{flat_map}
use Rattle.sbl_tree_amongs.specs.Amongs.{AmongContents, amongs_of_body}
use Rattle.sbl_semantics.specs.TouchedItems.{item_cmp}
use Rattle.sbl_ast.specs.NamedParts.{Part', Routine, Among, Grouping}
use Rattle.sbl_ast.specs.Source.{Source}
use Rattle.sbl_ast.specs.Order.{in_order}
use Rattle.sbl_ast.specs.Tree.{Entry, entry, Groups, bare, group, Plain, routine, grouping}

-- the string of an entry of an among
abbrev pub string_of : Entry → List ℕ
string_of (entry q condition) = q.value

-- the strings of an among, in the order of the text
abbrev pub strings_of : Groups → List (List ℕ)
strings_of (bare es) = map string_of es
strings_of (group e es rs gs) = string_of e ∷ (map string_of es ++ strings_of gs)

-- an item and, if it is an among, its strings
abbrev pub Part : Type 0
Part = Part' × List (List ℕ)

-- the amongs of a routine, of which the first has number k
abbrev pub amongs_from : ℕ → List ℕ → List Groups → List Part
amongs_from k n [] = []
amongs_from k n (gs ∷ rest) = (Among n k, strings_of gs) ∷ amongs_from (suc k) n rest

-- the groups of amongs
abbrev pub groups_held : List AmongContents → List Groups
groups_held hs = map (λ (h : AmongContents). h.2) hs

-- the parts that a definition adds: a routine and its amongs in the order of their words `among`, or a grouping
abbrev pub parts_by : Plain → List Part
parts_by (routine n c os) = (Routine n, []) ∷ amongs_from 1 n (groups_held (amongs_of_body (c, os)))
parts_by (grouping n a ts) = (Grouping n, []) ∷ []
parts_by x = []

-- some parts, each put after the others at its place in the order of items
abbrev pub put_in_order : List Part → List Part → List Part
put_in_order parts [] = parts
put_in_order parts (p ∷ more) = put_in_order (insert_entry item_cmp parts p.0 p.1) more

-- the parts of a script in the order of items: routines by name, amongs by name and number, groupings by name
abbrev pub parts_of : Source → List Part
parts_of script = put_in_order [] (flat_map (λ x. parts_by x.plain) (in_order script.items))
