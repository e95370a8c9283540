use Rattle.std.proofs.Common.{◌≡◌, map, drop}
use Rattle.sbl_text.specs.Tokens.{placed_of}
use Rattle.sbl_source_map.specs.FaultRanges.{token_end}
use Rattle.sbl_source_map.proofs.fault_ranges.token_end.Given as goal

abbrev pub invariant-loop-token : goal.invariant-loop-token
invariant-loop-token l = token_end l.place (map placed_of (drop l.token-index l.tokens)) ≡ token_end l.place (map placed_of l.tokens)
