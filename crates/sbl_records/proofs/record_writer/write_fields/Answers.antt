use Rattle.std.proofs.Common.{rules, arith}
use Rattle.std.proofs.lemmas.Grind.{common_steps}
use Rattle.sbl_records.proofs.record_writer.write_fields.Goals as goal

pub returns : goal.returns
returns c = λ text has.
    let before = has.told in
    let setup = has.setup in
    let none = has.fields in
    let clean = has.clean in
    record { told = grind (arith, common_steps); setup = search rules; fields = search rules; clean = search rules }
