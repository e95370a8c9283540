use Rattle.std.proofs.Common.{map, pos, rules, string_bytes}
use Rattle.sbl_explain.proofs.IntegerLines.{one_more}
use Rattle.sbl_explain.proofs.integers.push_values.Goals as goal

pub loop-number-preserved : goal.loop-number-preserved
loop-number-preserved c =
    one_more (map string_bytes c.args.names.now) c.args.values.now c.loop-number.number (pos 0) _ c.loop-number.out.items c.push_value.new.out.items _
    c.loop-number-test.true (search rules) c.in_ok-push_value.ensures c.loop-number.invariant
