use Rattle.std.proofs.Common.{rules, ◌≡◌, ◌-◌, Some, length, sym}
use Rattle.std.specs.List.{slice_get}
use Rattle.sbl_text.specs.Tokens.{placed_of}
use Rattle.sbl_source_map.proofs.PartFacts.{last_end_some}
use Rattle.sbl_source_map.proofs.parts.end_of.Goals as goal

pub returns-in-Some : goal.returns-in-Some
returns-in-Some c =
    let at : slice_get c.args.others.now (length c.args.others.now - 1) ≡ Some c.in-Some.last.now = search rules in
    sym (last_end_some (placed_of c.args.first.now) c.args.others.now c.in-Some.last.now at)
