use Rattle.std.proofs.Common.{rules, ◌≡◌}
use Rattle.sbl_bench.specs.KeptRuns.{contents_of}
use Rattle.sbl_history.specs.Desks.{state_of, text_in}
use Rattle.sbl_text_rows.specs.PlaceRows.{IsPlacesText}
use Rattle.sbl_work.proofs.TextReplyFacts.{rows_held, rows_memory}
use Rattle.sbl_work.proofs.text_replies.places_reply.Goals as goal

pub returns-in-Ok : goal.returns-in-Ok
returns-in-Ok c =
    let s = contents_of c.args.bench.now in
    let d = state_of c.args.desk.now in
    let same : c.deref.result.now ≡ text_in s d.text = search rules in
    rows_held IsPlacesText s d c.deref.result.now (text_in s d.text) c.places_of.result same (c.places_of.ensures s d)

pub returns-in-Err : goal.returns-in-Err
returns-in-Err c =
    let s = contents_of c.args.bench.now in
    let d = state_of c.args.desk.now in
    rows_memory IsPlacesText s d (text_in s d.text) c.report.result c.report.ensures.refused
