use Rattle.std.proofs.Common.{◌≡◌, ◌∙◌, List, Ok, ap, map, sym, true}
use Rattle.std.specs.Result.{result_map_both}
use Rattle.sbl_bench.specs.KeptRuns.{setting_of}
use Rattle.sbl_rows.specs.Rows.{Row, view_row}
use Rattle.sbl_io.specs.Records.{records_text}
use Rattle.sbl_records.specs.RowRecords.{row_fields}
use Rattle.sbl_records.proofs.RecordFacts.{seen_lines}
use Rattle.sbl_script.specs.ParsedScript.{ParsedScript, source_of}
use Rattle.sbl_uses.specs.UsableViews.{is_defined, view_usable}
use Rattle.sbl_uses.specs.Uses.{question_of, usable_for, users_text}
use Rattle.sbl_uses.proofs.Defined.{asked_defined}
use Rattle.sbl_explain.proofs.kept_takes.KeptTakes.uses_text.Goals as goal

pub returns : goal.returns
returns c =
    let bench = c.args.bench.now in
    let s = setting_of bench in
    let q = question_of c.args.question in
    let u = view_usable c.in_ok-usable.usable in
    let asked : usable_for s.script q ≡ Ok u = ap (λ (p : ParsedScript). usable_for (source_of p) q) (sym c.script.ensures) ∙ c.in_ok-usable.ensures in
    let defined : is_defined s.script u ≡ true = asked_defined s.script q u asked in
    let text : c.in_ok-records_text.field-0.items ≡ users_text s bench.words u =
    seen_lines row_fields view_row _ _ _ c.in_ok-records_text.ensures c.deref.ensures.value ∙ ap (λ (rows : List Row). records_text (map row_fields rows)) (c.in_ok-rows.ensures defined) in
    ap (result_map_both (users_text s bench.words) (λ f. f)) asked ∙ ap Ok (sym text)
