-- The parts of a program without memory addresses.
use Rattle.std.specs.Prelude.{ℕ, List, [], ◌∷◌, map}
use Rattle.sbl_program.specs.declared.action.StringTerm.{StringTerm}
use Rattle.sbl_program.specs.declared.action.StringTerm.TheVariants as terms
use Rattle.sbl_program.specs.declared.action.Arithmetic.{Arithmetic}
use Rattle.sbl_program.specs.declared.action.Arithmetic.TheOpen.{Arithmetic-F, Addend-F, Multiplicand-F}
use Rattle.sbl_program.specs.declared.action.Arithmetic.TheOpen as sums
use Rattle.sbl_program.specs.declared.action.Arithmetic.TheFolds.{fold-Arithmetic, fold-Addend, fold-Multiplicand}
use Rattle.sbl_program.specs.declared.action.Addend.{Addend}
use Rattle.sbl_program.specs.declared.action.Multiplicand.{Multiplicand}
use Rattle.sbl_program.specs.declared.action.Action.{Action}
use Rattle.sbl_program.specs.declared.action.Action.TheVariants as actions
use Rattle.sbl_program.specs.declared.node.Node.{Node}
use Rattle.sbl_program.specs.declared.node.Node.TheOpen.{Node-F, JoinedNode-F}
use Rattle.sbl_program.specs.declared.node.Node.TheOpen as nodes
use Rattle.sbl_program.specs.declared.node.Node.TheFolds.{fold-Node, fold-JoinedNode}
use Rattle.sbl_program.specs.declared.node.JoinedNode.{JoinedNode}
use Rattle.sbl_program.specs.declared.node.Program.{Program}
use Rattle.sbl_program.specs.declared.node.Routine.{Routine}
use Rattle.sbl_program.specs.CharacterClasses.{members}
use Rattle.sbl_program.specs.Chains.{AddedView, JoinedView, ScaledView, all_sums, row_node, all_products}
use Rattle.sbl_program.specs.AmongStrings.{Listing}
use Rattle.sbl_program.specs.Program as programs

abbrev pub view_text : StringTerm → programs.StringTerm
view_text (terms.Literal cs) = programs.literal cs.items
view_text (terms.Variable x) = programs.variable x

-- one level, with the view of each child
abbrev pub number_step : Arithmetic-F programs.Arithmetic AddedView ScaledView → programs.Arithmetic
number_step (sums.Number n) = programs.number n
number_step (sums.Integer x) = programs.integer x
number_step sums.Cursor = programs.cursor
number_step sums.Limit = programs.limit
number_step sums.Length = programs.len
number_step (sums.LengthOf t) = programs.lenof (view_text t)
number_step sums.Greatest = programs.maxint
number_step sums.Least = programs.minint
number_step (sums.Negative a) = programs.negative a.value
number_step (sums.Sum a others) = all_sums others.items a.value
number_step (sums.Product a others) = all_products others.items a.value

abbrev pub added_step : Addend-F programs.Arithmetic AddedView ScaledView → AddedView
added_step a = (a.operator, a.number)

abbrev pub scaled_step : Multiplicand-F programs.Arithmetic AddedView ScaledView → ScaledView
scaled_step a = (a.operator, a.number)

abbrev pub view_number : Arithmetic → programs.Arithmetic
view_number = fold-Arithmetic programs.Arithmetic AddedView ScaledView number_step added_step scaled_step

abbrev pub view_next_product : Addend → AddedView
view_next_product = fold-Addend programs.Arithmetic AddedView ScaledView number_step added_step scaled_step

abbrev pub view_next_factor : Multiplicand → ScaledView
view_next_factor = fold-Multiplicand programs.Arithmetic AddedView ScaledView number_step added_step scaled_step

abbrev pub view_action : Action → programs.Action
view_action (actions.Match t) = programs.match (view_text t)
view_action (actions.Grouping g) = programs.grouping g
view_action (actions.NonGrouping g) = programs.non g
view_action actions.Next = programs.next
view_action (actions.Hop a) = programs.hop (view_number a)
view_action actions.ToLimit = programs.tolimit
view_action actions.AtLimit = programs.atlimit
view_action (actions.SetMark x) = programs.setmark x
view_action (actions.AtMark a) = programs.atmark (view_number a)
view_action (actions.ToMark a) = programs.tomark (view_number a)
view_action (actions.Set x) = programs.set x
view_action (actions.Unset x) = programs.unset x
view_action (actions.Boolean x) = programs.boolean x
view_action actions.LeftBracket = programs.left_bracket
view_action actions.RightBracket = programs.right_bracket
view_action (actions.Replace t) = programs.replace (view_text t)
view_action actions.Delete = programs.delete
view_action (actions.Keep x) = programs.keep x
view_action (actions.Insert t) = programs.insert (view_text t)
view_action (actions.Attach t) = programs.attach (view_text t)
view_action (actions.Assign x change a) = programs.assign x change (view_number a)
view_action (actions.Compare a relation b) = programs.compare (view_number a) relation (view_number b)
view_action actions.True = programs.t
view_action actions.False = programs.f

abbrev pub commands_of : List programs.Node → programs.Nodes
commands_of [] = programs.no_commands
commands_of (c ∷ cs) = programs.command c (commands_of cs)

-- `tables` has the strings of each table
abbrev pub node_step : (ℕ → Listing) → Node-F programs.Node JoinedView → programs.Node
node_step tables (nodes.Act a) = programs.act (view_action a)
node_step tables (nodes.Sequence cs) = programs.sequence (commands_of cs.items)
node_step tables (nodes.Row a others) = row_node a.value others.items
node_step tables (nodes.Not a) = programs.not a.value
node_step tables (nodes.Test a) = programs.test a.value
node_step tables (nodes.Try a) = programs.try a.value
node_step tables (nodes.Do a) = programs.do_ a.value
node_step tables (nodes.Fail a) = programs.fail a.value
node_step tables (nodes.Repeat a) = programs.repeat a.value
node_step tables (nodes.Loop n a) = programs.loop (view_number n) a.value
node_step tables (nodes.AtLeast n a) = programs.atleast (view_number n) a.value
node_step tables (nodes.Goto a) = programs.goto a.value
node_step tables (nodes.GoPast a) = programs.gopast a.value
node_step tables (nodes.Backwards a) = programs.backwards a.value
node_step tables (nodes.SetLimit a b) = programs.setlimit a.value b.value
node_step tables (nodes.Call i) = programs.call i
node_step tables (nodes.Search k table entries) = programs.search k (tables table) entries.items
node_step tables (nodes.Among k before bodies) = programs.among k (commands_of before.items) (commands_of bodies.items)

abbrev pub joined_step : JoinedNode-F programs.Node JoinedView → JoinedView
joined_step o = (o.joiner, o.command)

abbrev pub view_node : (ℕ → Listing) → Node → programs.Node
view_node tables = fold-Node programs.Node JoinedView (node_step tables) joined_step

abbrev pub view_next_command : (ℕ → Listing) → JoinedNode → JoinedView
view_next_command tables = fold-JoinedNode programs.Node JoinedView (node_step tables) joined_step

abbrev pub view_nodes : (ℕ → Listing) → List Node → programs.Nodes
view_nodes tables ns = commands_of (map (view_node tables) ns)

abbrev pub view_routine : (ℕ → Listing) → Routine → programs.Routine
view_routine tables r = record { body = view_node tables r.body; amongs = r.amongs }

abbrev pub program_of : (ℕ → Listing) → Program → programs.Program
program_of tables p = record {
  integers = p.integers;
  booleans = p.booleans;
  strings = p.strings;
  groupings = map members p.groupings.items;
  routines = map (view_routine tables) p.routines.items;
  external = p.external;
}
