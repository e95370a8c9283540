use Rattle.std.proofs.Common.{◌≡◌, ◌++◌, drop, map, string_bytes}
use Rattle.sbl_io.specs.Records.{records_text}
use Rattle.sbl_explain.specs.Integers as spec
use Rattle.sbl_explain.proofs.integers.push_values.Given as goal

-- the lines so far and those of the other values are those of all values
abbrev pub invariant-loop-number : goal.invariant-loop-number
invariant-loop-number l =
    l.out.items ++ records_text (spec.value_rows (map string_bytes l.names) l.number (drop l.number l.values))
    ≡ l.initial.out.items ++ records_text (spec.value_rows (map string_bytes l.names) 0 l.values)
