use Rattle.std.proofs.Common.{◌≡◌, ◌++◌, drop, map, string_bytes}
use Rattle.sbl_explain.proofs.integers.add_names.Given as goal

abbrev pub invariant-loop-name : goal.invariant-loop-name
invariant-loop-name l = l.names ++ map string_bytes (drop l.name-index l.more.items) ≡ l.initial.names ++ map string_bytes l.more.items
