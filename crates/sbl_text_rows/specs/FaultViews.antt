-- What the row of a fault has, without memory addresses.
use Rattle.std.specs.Prelude.{string_bytes}
use Rattle.sbl_text_rows.specs.FaultRows.{FaultFields}
use Rattle.sbl_text_rows.specs.declared.fault_rows.FaultRow.{FaultRow}

abbrev pub view_fault : FaultRow → FaultFields
view_fault r = record { number = r.number; name = r.name.now; range = r.range; sentence = string_bytes r.sentence }
