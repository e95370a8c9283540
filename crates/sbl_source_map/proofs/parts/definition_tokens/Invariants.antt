use Rattle.std.proofs.Common.{◌≡◌, drop, map}
use Rattle.sbl_text.specs.Tokens.{placed_of}
use Rattle.sbl_source_map.specs.PartTokens.{after_first_head}
use Rattle.sbl_source_map.proofs.parts.definition_tokens.Given as goal

abbrev pub invariant-loop-i : goal.invariant-loop-i
invariant-loop-i l = after_first_head l.is_routine l.name (map placed_of (drop l.i l.tokens)) ≡ after_first_head l.is_routine l.name (map placed_of l.tokens)
