-- The program of a script: numbers for names, each `substring` linked to its among, groupings as classes of characters.
use Rattle.std.specs.Prelude.{ℕ, ◌-◌, nat_lt, Bool, true, false, List, [], ◌∷◌, ◌++◌, length, drop, if◌then◌else◌}
use Rattle.sbl_ast.specs.Order.{ItemInMode, in_order}
use Rattle.sbl_ast.specs.declared.tree.Simple.{Simple}
use Rattle.sbl_ast.specs.declared.tree.Simple.TheVariants as simples
use Rattle.sbl_ast.specs.declared.tree.Prefix.{Prefix}
use Rattle.sbl_ast.specs.declared.tree.Prefix.TheVariants as prefixes
use Rattle.sbl_ast.specs.declared.tree.Count.{Count}
use Rattle.sbl_ast.specs.declared.tree.Count.TheVariants as counts
use Rattle.sbl_ast.specs.declared.tree.Move.{Move}
use Rattle.sbl_ast.specs.declared.tree.Move.TheVariants as moves
use Rattle.sbl_ast.specs.declared.tree.Naming.{Naming}
use Rattle.sbl_ast.specs.declared.tree.Naming.TheVariants as namings
use Rattle.sbl_ast.specs.declared.tree.Splice.{Splice}
use Rattle.sbl_ast.specs.declared.tree.Splice.TheVariants as splices
use Rattle.sbl_ast.specs.declared.tree.Assignment.{Assignment}
use Rattle.sbl_ast.specs.declared.tree.Assignment.TheVariants as assignments
use Rattle.sbl_ast.specs.declared.tree.Comparison.{Comparison}
use Rattle.sbl_ast.specs.declared.tree.Comparison.TheVariants as comparisons
use Rattle.sbl_ast.specs.Tree as trees
use Rattle.sbl_ast.specs.Tree.{bracket, simple_, literal_, name_, non_, prefixed, counted, move_, named, splice_}
use Rattle.sbl_ast.specs.Tree.{setlimit_, assign_, compare_, compare_values_, among_, no_rows, row, no_others, joined}
use Rattle.sbl_ast.specs.Tree.{no_starter, starter, bare, group, declaration, escapes, macro, routine, grouping}
use Rattle.sbl_ast.specs.declared.mode.Mode.TheVariants.{Forward}
use Rattle.sbl_program.specs.declared.action.Change.{Change}
use Rattle.sbl_program.specs.declared.action.Change.TheVariants as changes
use Rattle.sbl_program.specs.declared.action.Relation.{Relation}
use Rattle.sbl_program.specs.declared.action.Relation.TheVariants as relations
use Rattle.sbl_program.specs.Chains.{JoinedView, join_all}
use Rattle.sbl_program.specs.AmongStrings.{listing}
use Rattle.sbl_compiler.specs.NumberedAmongs.{AmongStrings, found_after}
use Rattle.sbl_compiler.specs.NumberedNames.{Names, is_one_of, names_after, no_names, number_of}
use Rattle.sbl_compiler.specs.NumberedNumbers.{expression, text}
use Rattle.sbl_compiler.specs.NumberedClasses.{numbered_classes}
use Rattle.sbl_program.specs.Program as programs
use Rattle.sbl_program.specs.ProgramOf.{commands_of}

-- The position of a command: the amongs whose words are still to come, how many of them are after its region, and
-- whether a `substring` waits for the next of them. A routine's body, a group's command and a starter are a region
-- each.
pub record Position : Type 0 where
  pub coming : List AmongStrings
  pub following : ℕ
  pub waits : Bool

-- the next among
abbrev pub next_of : List AmongStrings → AmongStrings
next_of [] = record { number = 0; strings = listing Forward []; entries = [] }
next_of (f ∷ fs) = f

-- inside an among, after its word
abbrev pub inside : Position → Position
inside p = record p { coming = drop 1 p.coming; waits = false }

-- no `substring` waits: at the beginning of a region, and after an among
abbrev pub end_waiting : Position → Position
end_waiting p = record p { waits = false }

-- ---- the position after a command

abbrev pub past_simple : Simple → Position → Position
past_simple simples.Substring p = record p { waits = true }
past_simple simples.LeftBracket p = p
past_simple simples.RightBracket p = p
past_simple simples.Next p = p
past_simple simples.ToLimit p = p
past_simple simples.AtLimit p = p
past_simple simples.Delete p = p
past_simple simples.True p = p
past_simple simples.False p = p

abbrev mutual
  pub past : trees.Command → Position → Position
  past (bracket rs) p = past_rows rs p
  past (simple_ s) p = past_simple s p
  past (literal_ q) p = p
  past (name_ n) p = p
  past (non_ b n) p = p
  past (prefixed x c) p = past c p
  past (counted n e c) p = past c p
  past (move_ x e) p = p
  past (named x n) p = p
  past (splice_ x a) p = p
  past (setlimit_ b c) p = past c (past b p)
  past (assign_ n o e) p = p
  past (compare_ n o e) p = p
  past (compare_values_ e o f) p = p
  past (among_ s gs) p = end_waiting (past_groups gs (past_starter s (inside p)))

  pub past_rows : trees.Rows → Position → Position
  past_rows no_rows p = p
  past_rows (row c os rs) p = past_rows rs (past_others os (past c p))

  pub past_others : trees.Others → Position → Position
  past_others no_others p = p
  past_others (joined j c os) p = past_others os (past c p)

  pub past_starter : trees.Starter → Position → Position
  past_starter no_starter p = p
  past_starter (starter rs) p = past_rows rs p

  pub past_groups : trees.Groups → Position → Position
  past_groups (bare es) p = p
  past_groups (group e es rs gs) p = past_groups gs (past_rows rs (end_waiting p))

-- at the beginning of a region, if q is the position after the region
abbrev pub begin_region : Position → Position → Position
begin_region p q = record { coming = p.coming; following = length q.coming; waits = false }

-- inside parentheses that are a region of their own
abbrev pub region : trees.Rows → Position → Position
region rs p = begin_region p (past_rows rs (end_waiting p))

-- ---- commands

-- the search of the next among
abbrev pub search_next : Position → programs.Node
search_next p = programs.search (next_of p.coming).number (next_of p.coming).strings (next_of p.coming).entries

-- the search for a `substring`: f if its region has no among ahead
abbrev pub search_ahead : Position → programs.Node
search_ahead p = if nat_lt p.following (length p.coming) then search_next p else programs.act programs.f

abbrev pub simple : Simple → Position → programs.Node
simple simples.LeftBracket p = programs.act programs.left_bracket
simple simples.RightBracket p = programs.act programs.right_bracket
simple simples.Substring p = search_ahead p
simple simples.Next p = programs.act programs.next
simple simples.ToLimit p = programs.act programs.tolimit
simple simples.AtLimit p = programs.act programs.atlimit
simple simples.Delete p = programs.act programs.delete
simple simples.True p = programs.act programs.t
simple simples.False p = programs.act programs.f

-- a name that is a command
abbrev pub name_alone : Names → List ℕ → programs.Node
name_alone ns n =
    if is_one_of ns.strings n then programs.act (programs.match (programs.variable (number_of ns.strings n))) else
    if is_one_of ns.booleans n then programs.act (programs.boolean (number_of ns.booleans n)) else
    if is_one_of ns.groupings n then programs.act (programs.grouping (number_of ns.groupings n)) else
    programs.call (number_of ns.routines n)

abbrev pub after_prefix : Prefix → programs.Node → programs.Node
after_prefix prefixes.Not c = programs.not c
after_prefix prefixes.Test c = programs.test c
after_prefix prefixes.Try c = programs.try c
after_prefix prefixes.Do c = programs.do_ c
after_prefix prefixes.Fail c = programs.fail c
after_prefix prefixes.Repeat c = programs.repeat c
after_prefix prefixes.GoTo c = programs.goto c
after_prefix prefixes.GoPast c = programs.gopast c
after_prefix prefixes.Backwards c = programs.backwards c

abbrev pub after_count : Count → programs.Arithmetic → programs.Node → programs.Node
after_count counts.Loop n c = programs.loop n c
after_count counts.AtLeast n c = programs.atleast n c

abbrev pub move : Move → programs.Arithmetic → programs.Action
move moves.Hop n = programs.hop n
move moves.AtMark n = programs.atmark n
move moves.ToMark n = programs.tomark n

abbrev pub change_named : Names → Naming → List ℕ → programs.Action
change_named ns namings.SetMark n = programs.setmark (number_of ns.integers n)
change_named ns namings.Set n = programs.set (number_of ns.booleans n)
change_named ns namings.Unset n = programs.unset (number_of ns.booleans n)
change_named ns namings.Arrow n = programs.keep (number_of ns.strings n)

-- `<+` is `insert`
abbrev pub edit : Splice → programs.StringTerm → programs.Action
edit splices.Replace t = programs.replace t
edit splices.InsertSign t = programs.insert t
edit splices.Insert t = programs.insert t
edit splices.Attach t = programs.attach t

abbrev pub change_of : Assignment → Change
change_of assignments.Equals = changes.Becomes
change_of assignments.Plus = changes.Plus
change_of assignments.Minus = changes.Minus
change_of assignments.Times = changes.Times
change_of assignments.Over = changes.Over

abbrev pub relation_of : Comparison → Relation
relation_of comparisons.Same = relations.Equal
relation_of comparisons.Differs = relations.Unequal
relation_of comparisons.Less = relations.Less
relation_of comparisons.AtMost = relations.LessOrEqual
relation_of comparisons.Greater = relations.Greater
relation_of comparisons.AtLeast = relations.GreaterOrEqual

-- an among does its search itself, followed by its starter, unless a `substring` waits for it
abbrev pub search_first : Position → List programs.Node → List programs.Node
search_first p cs = if p.waits then [] else search_next p ∷ cs

abbrev mutual
  pub numbered_command : Names → trees.Command → Position → programs.Node
  numbered_command ns (bracket rs) p = programs.sequence (commands_of (numbered_rows ns rs p))
  numbered_command ns (simple_ s) p = simple s p
  numbered_command ns (literal_ q) p = programs.act (programs.match (programs.literal q.value))
  numbered_command ns (name_ n) p = name_alone ns n
  numbered_command ns (non_ b n) p = programs.act (programs.non (number_of ns.groupings n))
  numbered_command ns (prefixed x c) p = after_prefix x (numbered_command ns c p)
  numbered_command ns (counted x e c) p = after_count x (expression ns e) (numbered_command ns c p)
  numbered_command ns (move_ x e) p = programs.act (move x (expression ns e))
  numbered_command ns (named x n) p = programs.act (change_named ns x n)
  numbered_command ns (splice_ x a) p = programs.act (edit x (text ns a))
  numbered_command ns (setlimit_ b c) p = programs.setlimit (numbered_command ns b p) (numbered_command ns c (past b p))
  numbered_command ns (assign_ n o e) p = programs.act (programs.assign (number_of ns.integers n) (change_of o) (expression ns e))
  numbered_command ns (compare_ n o e) p =
      programs.act (programs.compare (programs.integer (number_of ns.integers n)) (relation_of o) (expression ns e))
  numbered_command ns (compare_values_ e o f) p = programs.act (programs.compare (expression ns e) (relation_of o) (expression ns f))
  numbered_command ns (among_ s gs) p =
      programs.among (next_of p.coming).number (commands_of (search_first p (numbered_starter ns s (inside p))))
      (commands_of (numbered_groups ns gs (past_starter s (inside p))))

  -- the rows in parentheses
  pub numbered_rows : Names → trees.Rows → Position → List programs.Node
  numbered_rows ns no_rows p = []
  numbered_rows ns (row c os rs) p = join_all (joins_in ns os (past c p)) (numbered_command ns c p) ∷ numbered_rows ns rs (past_others os (past c p))

  -- the commands of a row after the first
  pub joins_in : Names → trees.Others → Position → List JoinedView
  joins_in ns no_others p = []
  joins_in ns (joined j c os) p = (j, numbered_command ns c p) ∷ joins_in ns os (past c p)

  pub numbered_starter : Names → trees.Starter → Position → List programs.Node
  numbered_starter ns no_starter p = []
  numbered_starter ns (starter rs) p = programs.sequence (commands_of (numbered_rows ns rs (region rs p))) ∷ []

  -- the commands of the groups; a last group may have none
  pub numbered_groups : Names → trees.Groups → Position → List programs.Node
  numbered_groups ns (bare es) p = []
  numbered_groups ns (group e es rs gs) p =
      programs.sequence (commands_of (numbered_rows ns rs (region rs p))) ∷ numbered_groups ns gs (past_rows rs (end_waiting p))

-- commands joined from left to right to the one so far
abbrev pub numbered_others : Names → trees.Others → Position → programs.Node → programs.Node
numbered_others ns os p sofar = join_all (joins_in ns os p) sofar

-- ---- routines

-- the position after a body, and at its beginning
abbrev pub past_body : trees.Command → trees.Others → Position → Position
past_body c os p = past_others os (past c (end_waiting p))

abbrev pub begin_body : trees.Command → trees.Others → Position → Position
begin_body c os p = begin_region p (past_body c os p)

abbrev pub routine_of : Names → trees.Command → trees.Others → Position → programs.Routine
routine_of ns c os p = record {
  body = numbered_others ns os (past c (begin_body c os p)) (numbered_command ns c (begin_body c os p));
  amongs = length p.coming - length (past_body c os p).coming;
}

abbrev pub past_plain : trees.Plain → Position → Position
past_plain (routine n c os) p = past_body c os p
past_plain (declaration k xs) p = p
past_plain (escapes a b) p = p
past_plain (macro n b q) p = p
past_plain (grouping n a ts) p = p

-- the routines, and the routine of an item after them
abbrev pub with_routine : Names → trees.Plain → Position → List programs.Routine → List programs.Routine
with_routine ns (routine n c os) p sofar = sofar ++ routine_of ns c os p ∷ []
with_routine ns (declaration k xs) p sofar = sofar
with_routine ns (escapes a b) p sofar = sofar
with_routine ns (macro n b q) p sofar = sofar
with_routine ns (grouping n a ts) p sofar = sofar

abbrev pub routines_after : Names → List ItemInMode → Position → List programs.Routine → List programs.Routine
routines_after ns [] p sofar = sofar
routines_after ns (x ∷ xs) p sofar = routines_after ns xs (past_plain x.plain p) (with_routine ns x.plain p sofar)

-- ---- a script

-- given its names, its items and its amongs
abbrev pub program_by : Names → List ItemInMode → List AmongStrings → List ℕ → programs.Program
program_by ns items amongs external = record {
  integers = length ns.integers;
  booleans = length ns.booleans;
  strings = length ns.strings;
  groupings = numbered_classes ns items [];
  routines = routines_after ns items (record { coming = amongs; following = 0; waits = false }) [];
  external = number_of ns.routines external;
}

abbrev pub plan_with : Names → List ItemInMode → List ℕ → programs.Program
plan_with ns items external = program_by ns items (found_after ns items []) external

abbrev pub plan_in : List ItemInMode → List ℕ → programs.Program
plan_in items external = plan_with (names_after items no_names) items external

unfoldable pub numbered_items : List trees.Item → List ℕ → programs.Program
numbered_items items external = plan_in (in_order items) external
