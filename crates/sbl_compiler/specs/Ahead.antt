-- The program of a routine in terms of its names, its mode and its own tree: a `substring` looks ahead for the next
-- among of its region.
use Rattle.std.specs.Prelude.{ℕ, suc, Bool, true, false, List, [], ◌∷◌, Option, Some, None}
use Rattle.sbl_ast.specs.Order.{ItemInMode}
use Rattle.sbl_ast.specs.declared.tree.Simple.{Simple}
use Rattle.sbl_ast.specs.declared.tree.Simple.TheVariants as simples
use Rattle.sbl_ast.specs.Tree as trees
use Rattle.sbl_ast.specs.Tree.{bracket, simple_, literal_, name_, non_, prefixed, counted, move_, named, splice_}
use Rattle.sbl_ast.specs.Tree.{setlimit_, assign_, compare_, compare_values_, among_, no_rows, row, no_others, joined}
use Rattle.sbl_ast.specs.Tree.{no_starter, starter, bare, group, declaration, escapes, macro, routine, grouping}
use Rattle.sbl_program.specs.AmongStrings.{listing}
use Rattle.sbl_program.specs.Chains.{join}
use Rattle.sbl_compiler.specs.NumberedItems.{name_alone, after_prefix, after_count, move, change_named, edit, change_of, relation_of}
use Rattle.sbl_compiler.specs.NumberedAmongs.{AmongStrings, strings_after, entries_after}
use Rattle.sbl_compiler.specs.NumberedNames.{Names, number_of}
use Rattle.sbl_compiler.specs.NumberedNumbers.{expression, text}
use Rattle.sbl_program.specs.Program as programs
use Rattle.sbl_semantics.specs.Regions.{among_at, number_after, number_after_rows, number_after_others}
use Rattle.sbl_semantics.specs.Landmarks.{Among}
use Rattle.sbl_semantics.specs.Regions.{number_after_starter, first, first_rows, first_others, waits, waits_others}
use Rattle.sbl_semantics.specs.Landmarks.{mode_under}
use Rattle.sbl_ast.specs.declared.mode.Mode.{Mode}

abbrev pub found_as : Names → Among → AmongStrings
found_as ns a = record { number = a.number; strings = listing a.mode (strings_after a.groups []); entries = entries_after ns 0 a.groups [] }

abbrev pub search_of : AmongStrings → programs.Node
search_of f = programs.search f.number f.strings f.entries

-- an among does its search itself, followed by its starter, unless a `substring` waits for it
abbrev pub search_then : Names → Bool → Among → programs.Nodes → programs.Nodes
search_then ns true a cs = programs.no_commands
search_then ns false a cs = programs.command (search_of (found_as ns a)) cs

-- f if the region has no among ahead
abbrev pub search_next : Names → Option Among → programs.Node
search_next ns None = programs.act programs.f
search_next ns (Some a) = search_of (found_as ns a)

abbrev pub simple_by : Names → Simple → Option Among → programs.Node
simple_by ns simples.LeftBracket n = programs.act programs.left_bracket
simple_by ns simples.RightBracket n = programs.act programs.right_bracket
simple_by ns simples.Substring n = search_next ns n
simple_by ns simples.Next n = programs.act programs.next
simple_by ns simples.ToLimit n = programs.act programs.tolimit
simple_by ns simples.AtLimit n = programs.act programs.atlimit
simple_by ns simples.Delete n = programs.act programs.delete
simple_by ns simples.True n = programs.act programs.t
simple_by ns simples.False n = programs.act programs.f

module _ (ns : Names) where
  abbrev mutual
    pub made_command : Mode → ℕ → Bool → Option Among → trees.Command → programs.Node
    made_command m k w next (bracket rs) = programs.sequence (made_rows m k w next rs)
    made_command m k w next (simple_ s) = simple_by ns s next
    made_command m k w next (literal_ q) = programs.act (programs.match (programs.literal q.value))
    made_command m k w next (name_ n) = name_alone ns n
    made_command m k w next (non_ b n) = programs.act (programs.non (number_of ns.groupings n))
    made_command m k w next (prefixed x c) = after_prefix x (made_command (mode_under x m) k w next c)
    made_command m k w next (counted x e c) = after_count x (expression ns e) (made_command m k w next c)
    made_command m k w next (move_ x e) = programs.act (move x (expression ns e))
    made_command m k w next (named x n) = programs.act (change_named ns x n)
    made_command m k w next (splice_ x a) = programs.act (edit x (text ns a))
    made_command m k w next (setlimit_ b c) =
        programs.setlimit (made_command m k w (first m c (number_after b k) next) b)
        (made_command m (number_after b k) (waits b w) next c)
    made_command m k w next (assign_ n o e) = programs.act (programs.assign (number_of ns.integers n) (change_of o) (expression ns e))
    made_command m k w next (compare_ n o e) =
        programs.act (programs.compare (programs.integer (number_of ns.integers n)) (relation_of o) (expression ns e))
    made_command m k w next (compare_values_ e o f) = programs.act (programs.compare (expression ns e) (relation_of o) (expression ns f))
    made_command m k w next (among_ s gs) =
        programs.among k (search_then ns w (among_at m k gs) (made_starter m (suc k) s))
        (made_groups m (number_after_starter s (suc k)) gs)

    pub made_rows : Mode → ℕ → Bool → Option Among → trees.Rows → programs.Nodes
    made_rows m k w next no_rows = programs.no_commands
    made_rows m k w next (row c os rs) =
        programs.command
        (made_others m (number_after c k) (waits c w) (first_rows m rs (number_after_others os (number_after c k)) next) os
        (made_command m k w (first_others m os (number_after c k) (first_rows m rs (number_after_others os (number_after c k)) next)) c))
        (made_rows m (number_after_others os (number_after c k)) (waits_others os (waits c w)) next rs)

    -- commands joined from left to right to the one so far
    pub made_others : Mode → ℕ → Bool → Option Among → trees.Others → programs.Node → programs.Node
    made_others m k w next no_others sofar = sofar
    made_others m k w next (joined j c os) sofar =
        made_others m (number_after c k) (waits c w) next os (join j sofar (made_command m k w (first_others m os (number_after c k) next) c))

    pub made_starter : Mode → ℕ → trees.Starter → programs.Nodes
    made_starter m k no_starter = programs.no_commands
    made_starter m k (starter rs) = programs.command (programs.sequence (made_rows m k false None rs)) programs.no_commands

    pub made_groups : Mode → ℕ → trees.Groups → programs.Nodes
    made_groups m k (bare es) = programs.no_commands
    made_groups m k (group e es rs gs) =
        programs.command (programs.sequence (made_rows m k false None rs)) (made_groups m (number_after_rows rs k) gs)

  -- a routine of this mode
  abbrev pub routine_made : Mode → trees.Command → trees.Others → programs.Routine
  routine_made m c os = record {
    body = made_others m (number_after c 0) (waits c false) None os (made_command m 0 false (first_others m os (number_after c 0) None) c);
    amongs = number_after_others os (number_after c 0);
  }

-- the routine of an item, if it has one, before others
abbrev pub routine_in : Names → Mode → trees.Plain → List programs.Routine → List programs.Routine
routine_in ns m (routine n c os) rs = routine_made ns m c os ∷ rs
routine_in ns m (declaration k xs) rs = rs
routine_in ns m (escapes a b) rs = rs
routine_in ns m (macro n b q) rs = rs
routine_in ns m (grouping n a ts) rs = rs

-- the routines of these items, in their order
abbrev pub routines_in : Names → List ItemInMode → List programs.Routine
routines_in ns [] = []
routines_in ns (x ∷ xs) = routine_in ns x.mode x.plain (routines_in ns xs)
