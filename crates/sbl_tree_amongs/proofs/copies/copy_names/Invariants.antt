use Rattle.std.proofs.Common.{◌≡◌, ◌++◌, drop, map, string_bytes}
use Rattle.sbl_tree_amongs.proofs.copies.copy_names.Given as goal

abbrev pub invariant-loop-name : goal.invariant-loop-name
invariant-loop-name l = map string_bytes l.copies.items ++ map string_bytes (drop l.name-index l.names.items) ≡ map string_bytes l.names.items
