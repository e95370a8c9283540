use Rattle.std.proofs.Common.{◌≡◌, drop, map}
use Rattle.sbl_text.specs.Tokens.{placed_of}
use Rattle.sbl_source_map.specs.PartTokens.{from_among}
use Rattle.sbl_source_map.proofs.parts.among_tokens.Given as goal

abbrev pub invariant-loop-i : goal.invariant-loop-i
invariant-loop-i l = from_among l.left (map placed_of (drop l.i l.tokens)) ≡ from_among l.k (map placed_of l.tokens)
