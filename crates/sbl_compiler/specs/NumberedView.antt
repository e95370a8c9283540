-- The parts of the compiler's data without memory addresses.
use Rattle.std.specs.Prelude.{◌≡◌, ℕ, false, List, length, map, drop}
use Rattle.sbl_ast.specs.Tree as trees
use Rattle.sbl_ast.specs.View.{RowView, view_expression}
use Rattle.sbl_ast.specs.inside.ViewParts.{view_groups}
use Rattle.sbl_ast.specs.declared.mode.Mode.{Mode}
use Rattle.sbl_ast.specs.declared.tree.Expression.{Expression}
use Rattle.sbl_ast.specs.declared.tree.Group.{Group}
use Rattle.sbl_program.specs.declared.among.AmongStrings.{AmongStrings}
use Rattle.sbl_compiler.specs.declared.names.SymbolTable.{SymbolTable}
use Rattle.sbl_compiler.specs.NumberedAmongs as amongs
use Rattle.sbl_compiler.specs.NumberedNames as names
use Rattle.sbl_compiler.specs.NumberedNumbers as numbers
use Rattle.sbl_compiler.specs.NumberedItems as numbered
use Rattle.sbl_program.specs.declared.node.Candidate.{Candidate}
use Rattle.sbl_program.specs.declared.node.JoinedNode.{JoinedNode}
use Rattle.sbl_program.specs.declared.node.Node.{Node}
use Rattle.sbl_program.specs.declared.node.Routine.{Routine}
use Rattle.sbl_program.specs.FoundView.{listing_found, strings_at}
use Rattle.sbl_program.specs.Chains.{JoinedView}
use Rattle.sbl_program.specs.Program as programs
use Rattle.sbl_program.specs.ProgramOf.{view_next_command, view_node, view_routine}
use Rattle.sbl_compiler.specs.declared.compiler.Compiler.{Compiler}
use Rattle.sbl_compiler.specs.declared.place.Standing.{Standing}

abbrev pub view_names : SymbolTable → names.Names
view_names n = record {
  strings = n.strings;
  integers = n.integers;
  booleans = n.booleans;
  groupings = n.groupings;
  routines = n.routines;
}

abbrev pub view_found : AmongStrings → amongs.AmongStrings
view_found f = record { number = f.number; strings = listing_found f; entries = f.entries.items }

abbrev pub view_place : List AmongStrings → Standing → numbered.Position
view_place fs p = record { coming = map view_found (drop p.next fs); following = p.following; waits = p.waits }

-- the new amongs are what a function of the definitions makes of the old ones
abbrev pub Finds : List AmongStrings → List AmongStrings → (List amongs.AmongStrings → List amongs.AmongStrings) → Type 0
Finds old new found = map view_found new ≡ found (map view_found old)

-- the amongs of a row, after those found so far
abbrev pub found_row : names.Names → ℕ → Mode → RowView → List amongs.AmongStrings → List amongs.AmongStrings
found_row ns first m r sofar = amongs.found_others ns first m r.1 (amongs.found_command ns first m r.0 sofar)

-- the candidates of groups were added: with those of any strings after the groups, they are those of both
abbrev pub AddsGroups : names.Names → List Group → List Candidate → List Candidate → Type 0
AddsGroups ns groups old new =
    (bare : List trees.Entry) → amongs.entries_in ns (length groups) bare new ≡ amongs.entries_after ns 0 (view_groups groups bare) old

-- the position before the first command of a script
abbrev pub at_start : Standing
at_start = record { next = 0; following = 0; waits = false }

-- a row, compiled
abbrev pub numbered_row : names.Names → RowView → numbered.Position → programs.Node
numbered_row ns r p = numbered.numbered_others ns r.1 (numbered.past r.0 p) (numbered.numbered_command ns r.0 p)

-- what an among with this starter does before the command of the chosen group
abbrev pub numbered_before : names.Names → trees.Starter → numbered.Position → List programs.Node
numbered_before ns s p = numbered.search_first p (numbered.numbered_starter ns s (numbered.inside p))

-- ---- names, positions and commands by what the compiler has of the script

abbrev pub names_in : Compiler → names.Names
names_in c = view_names c.names.now

abbrev pub integer_in : Compiler → List ℕ → ℕ
integer_in c n = names.number_of (names_in c).integers n

abbrev pub expression_in : Compiler → Expression → programs.Arithmetic
expression_in c e = numbers.expression (names_in c) (view_expression e)

abbrev pub place_in : Compiler → Standing → numbered.Position
place_in c p = view_place c.amongs.now.items p

abbrev pub node_in : Compiler → Node → programs.Node
node_in c n = view_node (strings_at c.amongs.now.items) n

abbrev pub joined_in : Compiler → JoinedNode → JoinedView
joined_in c n = view_next_command (strings_at c.amongs.now.items) n

abbrev pub routine_in : Compiler → Routine → programs.Routine
routine_in c r = view_routine (strings_at c.amongs.now.items) r

abbrev pub routines_in : Compiler → List Routine → List programs.Routine
routines_in c rs = map (routine_in c) rs
