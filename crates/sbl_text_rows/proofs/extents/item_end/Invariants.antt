use Rattle.std.proofs.Common.{◌≡◌, ◌≤◌, drop, map}
use Rattle.sbl_text.specs.Tokens.{placed_of}
use Rattle.sbl_source_map.specs.PartTokens.{until_end}
use Rattle.sbl_text_rows.specs.PlaceRows.{end_after}
use Rattle.sbl_text_rows.proofs.extents.item_end.Given as goal

abbrev pub invariant-loop-token : goal.invariant-loop-token
invariant-loop-token l =
    (l.depth ≤ l.token-index)
    × (end_after l.end (until_end l.depth (map placed_of (drop l.token-index l.tokens))) ≡ end_after l.first (until_end 0 (map placed_of l.tokens)))
