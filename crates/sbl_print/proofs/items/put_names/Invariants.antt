use Rattle.std.proofs.Common.{◌≡◌, ◌++◌, List, drop, map, string_bytes}
use Rattle.sbl_ast.specs.Terminal.{Terminal}
use Rattle.sbl_ast.specs.Spelled.{spelled_names}
use Rattle.sbl_print.specs.Adding.{more}
use Rattle.sbl_print.proofs.items.put_names.Given as goal

abbrev pub invariant-loop-name : goal.invariant-loop-name
invariant-loop-name l =
    (rest : List Terminal) → string_bytes l.out ++ more (spelled_names (map string_bytes (drop l.name-index l.names.items)) rest) ≡ string_bytes l.initial.out ++ more (spelled_names (map string_bytes l.names.items) rest)
