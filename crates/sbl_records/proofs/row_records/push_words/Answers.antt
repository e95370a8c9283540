use Rattle.std.proofs.Common.{◌∙◌, ◌++◌, ◌∷◌, [], List, ℕ, ap}
use Rattle.csv.specs.Records.{fields_of}
use Rattle.std.specs.Str.{encode_utf8_all}
use Rattle.sbl_records.proofs.RecordFacts.{word_field}
use Rattle.sbl_records.proofs.row_records.push_words.Goals as goal

pub loop-word-preserved : goal.loop-word-preserved
loop-word-preserved c = (
  word_field c.args.words.now c.loop-word.word-index c.word-item.result _ _ _ c.loop-word-test.true c.word-item.is c.loop-word.invariant.0
      (c.in_ok-push_text.ensures.fields ∙ ap (λ (text : List ℕ). fields_of c.loop-word.csv_record ++ encode_utf8_all text ∷ []) c.deref.ensures.value),
  c.in_ok-push_text.ensures.partial,
)
