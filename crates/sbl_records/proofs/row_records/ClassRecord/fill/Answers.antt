use Rattle.std.proofs.Common.{◌≡◌, ◌∙◌, ◌++◌, ◌∷◌, [], ℕ, List, ap, map, subst}
use Rattle.std.specs.Prelude.{OnOk}
use Rattle.std.specs.Str.{encode_utf8_all}
use Rattle.std.specs.declared.vec.Vec.{Vec}
use Rattle.std.specs.declared.alloc.Global.{Global}
use Rattle.csv.specs.Records.{fields_of}
use Rattle.sbl_rows.specs.Classes.{view_class, words_of}
use Rattle.sbl_records.specs.RowRecords.{class_fields}
use Rattle.sbl_records.proofs.row_records.ClassRecord.fill.Goals as goal

pub returns : goal.returns
unfolding class_fields
returns c =
    let stem : fields_of c.push_text.new.csv_record ≡ encode_utf8_all c.args.self.now.stem.items ∷ [] =
    c.in_ok-push_text.ensures.fields ∙ ap (λ (fields : List (List ℕ)). fields ++ encode_utf8_all c.deref.result.now ∷ []) c.requires.0
    ∙ ap (λ (t : List ℕ). encode_utf8_all t ∷ []) c.deref.ensures.value in
    let all : fields_of c.push_text.new.csv_record ++ map encode_utf8_all (words_of c.deref-2.result.now) ≡ class_fields (view_class c.args.self.now) =
    ap (λ (fields : List (List ℕ)). fields ++ map encode_utf8_all (words_of c.deref-2.result.now)) stem
    ∙ ap (λ (words : List (Vec ℕ Global)). encode_utf8_all c.args.self.now.stem.items ∷ map encode_utf8_all (words_of words)) c.deref-2.ensures.value in
    subst (λ (fields : List (List ℕ)). OnOk c.push_words.result (fields_of c.push_words.new.csv_record ≡ fields)) all c.push_words.ensures
