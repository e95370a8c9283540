-- The amongs of a script in the order of their words `among`: the number of each in its routine, its strings with the
-- mode at its position, and the candidate of each string.
use Rattle.std.specs.Prelude.{ℕ, ◌+◌, ◌-◌, List, [], ◌∷◌, ◌++◌, length, Option, Some, None}
use Rattle.sbl_ast.specs.Order.{ItemInMode}
use Rattle.sbl_ast.specs.Tree as trees
use Rattle.sbl_ast.specs.Tree.{bracket, simple_, literal_, name_, non_, prefixed, counted, move_, named, splice_}
use Rattle.sbl_ast.specs.Tree.{setlimit_, assign_, compare_, compare_values_, among_, no_rows, row, no_others, joined}
use Rattle.sbl_ast.specs.Tree.{no_starter, starter, bare, group, declaration, escapes, macro, routine, grouping}
use Rattle.sbl_ast.specs.declared.mode.Mode.{Mode}
use Rattle.sbl_program.specs.declared.node.Candidate.{Candidate}
use Rattle.sbl_program.specs.AmongStrings.{Listing, listing}
use Rattle.sbl_compiler.specs.NumberedNames.{Names, number_of}
use Rattle.sbl_semantics.specs.Landmarks.{mode_under}

pub record AmongStrings : Type 0 where
  pub number : ℕ
  pub strings : Listing
  pub entries : List Candidate

-- Each of the following takes the list so far and returns it with its own part added at the end.

-- the strings of an among
abbrev pub strings_in : List trees.Entry → List (List ℕ) → List (List ℕ)
strings_in [] sofar = sofar
strings_in (trees.entry q c ∷ es) sofar = strings_in es (sofar ++ q.value ∷ [])

abbrev pub strings_after : trees.Groups → List (List ℕ) → List (List ℕ)
strings_after (bare es) sofar = strings_in es sofar
strings_after (group e es rs gs) sofar = strings_after gs (strings_in es (strings_in (e ∷ []) sofar))

-- the candidate of a string in the g-th group: the routine that has to signal t, and the length of the string
abbrev pub condition_of : Names → Option (List ℕ) → Option ℕ
condition_of ns None = None
condition_of ns (Some n) = Some (number_of ns.routines n)

abbrev pub entry_of : Names → ℕ → trees.Entry → Candidate
entry_of ns g (trees.entry q c) = record { condition = condition_of ns c; group = g; length = length q.value }

abbrev pub entries_in : Names → ℕ → List trees.Entry → List Candidate → List Candidate
entries_in ns g [] sofar = sofar
entries_in ns g (e ∷ es) sofar = entries_in ns g es (sofar ++ entry_of ns g e ∷ [])

-- the groups are counted from 0; the strings of a last group without a command have the number of groups
abbrev pub entries_after : Names → ℕ → trees.Groups → List Candidate → List Candidate
entries_after ns g (bare es) sofar = entries_in ns g es sofar
entries_after ns g (group e es rs gs) sofar = entries_after ns (g + 1) gs (entries_in ns g es (entries_in ns g (e ∷ []) sofar))

-- an among of a routine that has this many amongs of other routines before it
abbrev pub found_of : Names → ℕ → Mode → trees.Groups → List AmongStrings → AmongStrings
found_of ns first m gs sofar =
    record { number = length sofar - first; strings = listing m (strings_after gs []); entries = entries_after ns 0 gs [] }

abbrev mutual
  -- the amongs of a command
  pub found_command : Names → ℕ → Mode → trees.Command → List AmongStrings → List AmongStrings
  found_command ns first m (bracket rs) sofar = found_rows ns first m rs sofar
  found_command ns first m (simple_ s) sofar = sofar
  found_command ns first m (literal_ q) sofar = sofar
  found_command ns first m (name_ n) sofar = sofar
  found_command ns first m (non_ b n) sofar = sofar
  found_command ns first m (prefixed x c) sofar = found_command ns first (mode_under x m) c sofar
  found_command ns first m (counted n e c) sofar = found_command ns first m c sofar
  found_command ns first m (move_ x e) sofar = sofar
  found_command ns first m (named x n) sofar = sofar
  found_command ns first m (splice_ x a) sofar = sofar
  found_command ns first m (setlimit_ b c) sofar = found_command ns first m c (found_command ns first m b sofar)
  found_command ns first m (assign_ n o e) sofar = sofar
  found_command ns first m (compare_ n o e) sofar = sofar
  found_command ns first m (compare_values_ e o f) sofar = sofar
  found_command ns first m (among_ s gs) sofar =
      found_groups ns first m gs (found_starter ns first m s (sofar ++ found_of ns first m gs sofar ∷ []))

  pub found_rows : Names → ℕ → Mode → trees.Rows → List AmongStrings → List AmongStrings
  found_rows ns first m no_rows sofar = sofar
  found_rows ns first m (row c os rs) sofar = found_rows ns first m rs (found_others ns first m os (found_command ns first m c sofar))

  pub found_others : Names → ℕ → Mode → trees.Others → List AmongStrings → List AmongStrings
  found_others ns first m no_others sofar = sofar
  found_others ns first m (joined j c os) sofar = found_others ns first m os (found_command ns first m c sofar)

  pub found_starter : Names → ℕ → Mode → trees.Starter → List AmongStrings → List AmongStrings
  found_starter ns first m no_starter sofar = sofar
  found_starter ns first m (starter rs) sofar = found_rows ns first m rs sofar

  pub found_groups : Names → ℕ → Mode → trees.Groups → List AmongStrings → List AmongStrings
  found_groups ns first m (bare es) sofar = sofar
  found_groups ns first m (group e es rs gs) sofar = found_groups ns first m gs (found_rows ns first m rs sofar)

-- the amongs of an item, and of all
abbrev pub found_plain : Names → Mode → trees.Plain → List AmongStrings → List AmongStrings
found_plain ns m (routine n c os) sofar = found_others ns (length sofar) m os (found_command ns (length sofar) m c sofar)
found_plain ns m (declaration k xs) sofar = sofar
found_plain ns m (escapes a b) sofar = sofar
found_plain ns m (macro n b q) sofar = sofar
found_plain ns m (grouping n a ts) sofar = sofar

abbrev pub found_after : Names → List ItemInMode → List AmongStrings → List AmongStrings
found_after ns [] sofar = sofar
found_after ns (x ∷ xs) sofar = found_after ns xs (found_plain ns x.mode x.plain sofar)
