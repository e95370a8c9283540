-- A comparison of the same files has one text.
use Rattle.std.proofs.Common.{◌≡◌, ◌∙◌, sym, ap, ap₂}
use Rattle.sbl_ast.specs.Source.{Source}
use Rattle.sbl_batch.specs.Compare.{Comparison, IsPair, comparison_of, comparison_text}
use Rattle.sbl_batch.specs.Laws.{ComparingIsOne}
use Rattle.sbl_input.specs.FileWords.{file_words}
use Rattle.sbl_batch.specs.declared.bench_pair.CompareInput.{CompareInput}
use Rattle.sbl_bench.specs.Contents.{Contents, opening_contents}
use Rattle.sbl_script.specs.OneReading.{ScriptIsOne}

module _ (one : ScriptIsOne) where
  pair-one : (input : CompareInput) (a b c d : Contents) → IsPair input a b → IsPair input c d → comparison_of a b ≡ comparison_of c d
  pair-one input a b c d p q =
      let words = file_words input.words.now in
      let opened : Source → Contents = λ s. opening_contents s words in
      ap₂ comparison_of
      (p.old_bench ∙ ap opened (one input.old.now input.external.now p.old_script q.old_script p.is_old q.is_old) ∙ sym q.old_bench)
      (p.new_bench ∙ ap opened (one input.new.now input.external.now p.new_script q.new_script p.is_new q.is_new) ∙ sym q.new_bench)

  pub comparing-one : ComparingIsOne
  comparing-one input text other m n x y =
      let same = pair-one input x.0 x.1 y.0 y.1 x.2 y.2 in (
        x.3 ∙ ap (λ (c : Comparison). c.changed) same ∙ sym y.3,
        x.4 ∙ ap comparison_text same ∙ sym y.4,
      )
