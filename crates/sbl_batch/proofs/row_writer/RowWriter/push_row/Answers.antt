use Rattle.std.proofs.Common.{◌≡◌, ◌∙◌, ◌++◌, [], ◌∷◌, List, ℕ, OnOk, ap, subst}
use Rattle.sbl_semantics.specs.Outcome.{outcome_of}
use Rattle.sbl_io.specs.Records as texts
use Rattle.sbl_batch.proofs.RowFacts.{row-is}
use Rattle.sbl_batch.proofs.row_writer.RowWriter.push_row.Goals as goal

pub returns-clause-row : goal.returns-clause-row
returns-clause-row c = λ s made.
    let fields = ap (λ (r : List (List ℕ)). c.args.word.now ∷ r) c.in_ok-kind.ensures
    ∙ row-is s c.args.word.now c.args.characters.now (outcome_of c.in-Ok.end.outcome) c.utf8.word c.requires.is (c.in-Ok.ensures.outcome s made) in
    let new = c.push_line.new.rows.items in
    let old = c.args.self.now.text.items in
    let bytes = subst (λ (w : List ℕ). OnOk c.push_line.result (new ≡ old ++ texts.record_line (w ∷ c.in_ok-kind.kind.now ∷ c.in_ok-kind.text.now ∷ []))) c.as_bytes.ensures.value c.push_line.ensures.line in
    subst (λ (r : List (List ℕ)). OnOk c.push_line.result (new ≡ old ++ texts.record_line r)) fields bytes
