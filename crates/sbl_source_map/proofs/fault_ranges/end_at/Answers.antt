use Rattle.std.specs.Str.{chars}
use Rattle.sbl_source_map.proofs.PlacedFaults.{by_none}
use Rattle.sbl_source_map.proofs.fault_ranges.end_at.Goals as goal

pub returns-in-None : goal.returns-in-None
returns-in-None c =
    by_none (chars c.args.text.now) c.in_ok-stop.field-0 c.args.place c.args.place c.in-None.is c.in_ok-stop.ensures (rw c.in_default.is at c.in_ok-tokens.ensures.placed)
