use Rattle.std.proofs.Common.{◌≡◌, ◌≤◌, ◌+◌, drop, length, map}
use Rattle.sbl_text.specs.Tokens.{placed_of}
use Rattle.sbl_source_map.specs.PartTokens.{until_closed}
use Rattle.sbl_source_map.proofs.parts.count_until_closed.Given as goal

abbrev pub invariant-loop-token : goal.invariant-loop-token
invariant-loop-token l =
    (l.count ≡ l.token-index) × (l.depth ≤ l.token-index)
    × (l.count + length (until_closed l.depth (map placed_of (drop l.token-index l.tokens))) ≡ length (until_closed 0 (map placed_of l.tokens)))
