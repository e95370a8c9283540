-- The strings of a linked table.
use Rattle.std.specs.Prelude.{ℕ, List, map}
use Rattle.sbl_ast.specs.declared.mode.Mode.{Mode}
use Rattle.sbl_semantics.specs.Fitting.{read_all}
use Rattle.sbl_program.specs.declared.linked.LinkedTable.{LinkedTable}

abbrev pub entries_of : LinkedTable → List (List ℕ)
entries_of t = map (λ v. v.items) t.strings.items

abbrev pub mode_of : LinkedTable → Mode
mode_of t = t.direction

-- the strings as read in the mode of the table
abbrev pub strings_of : LinkedTable → List (List ℕ)
strings_of t = read_all (mode_of t) (entries_of t)
