use Rattle.std.proofs.Common.{◌≡◌, drop, map, string_bytes}
use Rattle.std.specs.Cmp.Lexicographic.{pointwise}
use Rattle.std.specs.Str.{bytes_eq}
use Rattle.sbl_tree_diff.proofs.same.same_names.Given as goal

abbrev pub invariant-loop-first : goal.invariant-loop-first
invariant-loop-first l = pointwise bytes_eq (map string_bytes (drop l.first-index l.one.items)) (map string_bytes l.others) ≡ pointwise bytes_eq (map string_bytes l.one.items) (map string_bytes l.other.items)
