use Rattle.std.proofs.Common.{◌≤◌, ◌∙◌, ℕ, List, ap, arith, length, min, sym}
use Rattle.std.proofs.lemmas.List.{take_all}
use Rattle.std.specs.Option.{option_map}
use Rattle.csv.specs.Records.{fields_of}
use Rattle.sbl_io.specs.Reports.{max_count}
use Rattle.sbl_io.proofs.ReportFacts.{counted_field, counted_long, counted_none, counted_short, total}
use Rattle.sbl_io.proofs.report.line_length.Goals.{in-Some, in-None}
use Rattle.sbl_io.proofs.report.line_length.Goals as goal

pub loop-i-preserved : goal.loop-i-preserved
loop-i-preserved c =
    let fields = fields_of c.args.csv_record.now in
    elim c.match-get.branch [
      | in-Some w ↦
          w.length-is ∙ counted_field fields c.loop-i.i c.loop-i.length w.field_length.result w.saturating_add.result w.saturating_add-length.result _
          (sym c.get.ensures.value ∙ ap (option_map (λ s. s.now)) w.in-Some.is) c.loop-i.invariant w.field_length.ensures w.saturating_add.ensures w.saturating_add-length.ensures
      | in-None w ↦
          w.length-is ∙ counted_none fields c.loop-i.i c.loop-i.length (sym c.get.ensures.value ∙ ap (option_map (λ s. s.now)) w.in-None.is) c.loop-i.invariant
    ]

pub returns-then-length-lt2 : goal.returns-then-length-lt2
returns-then-length-lt2 c =
    let fields = fields_of c.args.csv_record.now in
    let le : length fields ≤ c.loop-i.i = omega (arith, c.len-i-end.ensures, c.loop-i-test.false) in
    counted_short fields c.loop-i.length (c.loop-i.invariant ∙ ap (λ (l : List (List ℕ)). min (total l) max_count) (take_all c.loop-i.i fields le)) c.if-length-lt2.true

pub returns-else-length-lt2 : goal.returns-else-length-lt2
returns-else-length-lt2 c =
    let fields = fields_of c.args.csv_record.now in
    let le : length fields ≤ c.loop-i.i = omega (arith, c.len-i-end.ensures, c.loop-i-test.false) in
    counted_long fields c.loop-i.length (c.loop-i.invariant ∙ ap (λ (l : List (List ℕ)). min (total l) max_count) (take_all c.loop-i.i fields le)) c.if-length-lt2.false
