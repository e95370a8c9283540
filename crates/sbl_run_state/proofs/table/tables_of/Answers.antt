use Rattle.std.proofs.Common.{◌≤◌, ◌++◌, ◌∷◌, [], ℕ, length, map, sym, ap, ◌∙◌, arith, Vec, Global}
use Rattle.std.proofs.lemmas.List.{map-append}
use Rattle.sbl_program.specs.Listing.{listed_of}
use Rattle.sbl_program.specs.FoundView.{listing_found}
use Rattle.sbl_run_state.proofs.NumberingTables.{same_listing, table_all, table_more}
use Rattle.sbl_run_state.proofs.table.tables_of.Goals as goal

pub loop-among-preserved : goal.loop-among-preserved
loop-among-preserved g c =
    let L = listed_of _ g.S.AmongSearch.entries g.S.AmongSearch.mode in
    let t = c.in_ok-build.field-0 in
    let x = c.among-item.result in
    let made = c.in_ok-build.ensures in
    let same = same_listing (g.S.AmongSearch.mode t) x.mode (g.S.AmongSearch.entries t) (map (λ (v : Vec ℕ Global). v.items) x.strings.items) made.1 (made.0 ∙ ap (map (λ (v : Vec ℕ Global). v.items)) c.deref.ensures.value) in
    ap (map L) c.in_ok-push.ensures.items ∙ map-append L c.loop-among.tables.items (t ∷ []) ∙ ap (λ ls. ls ++ (L t ∷ [])) c.loop-among.invariant ∙ table_more listing_found c.args.amongs.now c.loop-among.among-index x (L t) c.loop-among-test.true c.among-item.is (sym same)

pub returns : goal.returns
returns g c =
    let past : length c.args.amongs.now ≤ c.loop-among.among-index = omega (arith, c.loop-among-test.false) in
    c.loop-among.invariant ∙ table_all listing_found c.args.amongs.now c.loop-among.among-index past
