use Rattle.std.proofs.Common.{◌∙◌, ◌++◌, ◌≤◌, [], ℕ, List, ap, arith, length, map, subst, sym, take}
use Rattle.std.specs.declared.vec.Vec.{Vec}
use Rattle.std.specs.declared.alloc.Global.{Global}
use Rattle.std.proofs.lemmas.List.{take_all}
use Rattle.sbl_rows.specs.Rows.{row_of}
use Rattle.sbl_rows.specs.Setting.{under}
use Rattle.sbl_semantics.specs.Limit.{default_limit}
use Rattle.sbl_io.specs.Records.{record_line, records_text}
use Rattle.sbl_io.specs.RecordsWritten.{HasWritten}
use Rattle.sbl_records.specs.RowRecords.{row_fields}
use Rattle.sbl_records.proofs.RecordFacts.{records_more}
use Rattle.sbl_input.proofs.VocabularyFacts.{fields_in, rows_fused, short_word}
use Rattle.sbl_input.proofs.vocabulary_rows.write_rows.Goals as goal

pub write_row-requires : goal.write_row-requires
write_row-requires c =
    subst (λ (w : List ℕ). length w ≤ 255) (sym c.as_slice.ensures.value)
    (short_word [] c.args.words.now c.loop-word.word-index c.word-item.result c.loop-word-test.true c.word-item.is c.requires)

pub loop-word-preserved : goal.loop-word-preserved
loop-word-preserved c = λ s made begins.
    let words = c.args.words.now in
    let before = records_text (map (fields_in s) (take c.loop-word.word-index words)) in
    let same = ap (λ (w : List ℕ). before ++ record_line (row_fields (row_of (under s default_limit) w))) c.as_slice.ensures.value in
    let more = records_more (fields_in s) words c.loop-word.word-index c.word-item.result c.loop-word-test.true c.word-item.is in
    subst (HasWritten c.write_row.new.records.writer) (same ∙ more) (c.in_ok-write_row.ensures s made _ (c.loop-word.invariant s made begins))

pub returns : goal.returns
returns c = λ s made begins.
    let words = c.args.words.now in
    let all = take_all c.loop-word.word-index words (omega (arith, c.loop-word-test.false)) in
    let same = ap (λ (ws : List (Vec ℕ Global)). records_text (map (fields_in s) ws)) all ∙ rows_fused s words in
    subst (HasWritten c.loop-word.records.writer) same (c.loop-word.invariant s made begins)
