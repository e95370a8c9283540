use Rattle.std.proofs.Common.{◌≤◌, arith, length, refl}
use Rattle.sbl_io.specs.Reports.{max_count}
use Rattle.sbl_io.proofs.ReportFacts.{plain_field, quoted_field}
use Rattle.sbl_io.proofs.report.field_length.Goals as goal

pub returns-then-is_quoted : goal.returns-then-is_quoted
returns-then-is_quoted c =
    quoted_field c.args.field.now c.is_quoted.result c.quote_count.result (length c.args.field.now) _ _ c.is_quoted.ensures c.if-is_quoted.true refl c.quote_count.ensures
    c.saturating_add.ensures c.saturating_add-then-is_quoted.ensures

pub returns : goal.returns
returns c =
    let fits : length c.args.field.now ≤ max_count = omega arith in
    plain_field c.args.field.now c.is_quoted.result (length c.args.field.now) c.is_quoted.ensures c.if-is_quoted.false refl fits
