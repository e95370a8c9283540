use Rattle.std.proofs.Common.{◌≡◌, ◌++◌, drop, map, string_bytes}
use Rattle.std.specs.List.{flat_map}
use Rattle.sbl_ast.specs.View.{view_plain}
use Rattle.sbl_print.specs.Canonical.{plain_text}
use Rattle.sbl_print.proofs.items.put_plains.Given as goal

abbrev pub invariant-loop-plain : goal.invariant-loop-plain
invariant-loop-plain l =
    string_bytes l.out ++ flat_map plain_text (map view_plain (drop l.plain-index l.plains.items)) ≡ string_bytes l.initial.out ++ flat_map plain_text (map view_plain l.plains.items)
