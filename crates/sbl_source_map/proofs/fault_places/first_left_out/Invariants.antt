use Rattle.std.proofs.Common.{◌≡◌, map, drop}
use Rattle.sbl_text.specs.Tokens.{placed_of}
use Rattle.sbl_script.specs.Reading.{first_left_out}
use Rattle.sbl_source_map.proofs.fault_places.first_left_out.Given as goal

abbrev pub invariant-loop-token : goal.invariant-loop-token
invariant-loop-token l = first_left_out (map placed_of (drop l.token-index l.tokens)) ≡ first_left_out (map placed_of l.tokens)
