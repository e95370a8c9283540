use Rattle.std.proofs.Common.{◌≡◌, map, take}
use Rattle.sbl_program.specs.Listing.{listed_of}
use Rattle.sbl_program.specs.FoundView.{listing_found}
use Rattle.sbl_run_state.proofs.table.tables_of.Given as goal

abbrev pub invariant-loop-among : goal.invariant-loop-among
invariant-loop-among g l =
    map (listed_of _ g.S.AmongSearch.entries g.S.AmongSearch.mode) l.tables.items ≡ take l.among-index (map listing_found l.amongs)
