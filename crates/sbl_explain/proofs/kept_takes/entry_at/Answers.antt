use Rattle.std.proofs.Common.{length, refl}
use Rattle.std.proofs.lemmas.Option.{slice_get_read}
use Rattle.sbl_explain.proofs.KeptFacts.{kept_at}
use Rattle.sbl_explain.proofs.kept_takes.entry_at.Goals as goal

pub returns-in-Some : goal.returns-in-Some
returns-in-Some c = λ u are.
    let kept = c.args.kept.now in
    let k = c.in-Some.entry.now in
    kept_at u kept c.args.place k are (slice_get_read kept (length kept) c.args.place k refl c.in-Some.ensures.lookup.3.0 c.in-Some.ensures.lookup.1)
