use Rattle.std.proofs.Common.{◌∙◌, ◌++◌, List, ap, map, sym}
use Rattle.std.proofs.Math.ListN.{drop_of_length-le}
use Rattle.std.proofs.lemmas.List.{append-nil}
use Rattle.sbl_bench.specs.KeptRuns.{setting_of}
use Rattle.sbl_rows.specs.declared.row.Row as declared
use Rattle.sbl_uses.specs.UnusedViews.{texts_of}
use Rattle.sbl_explain.proofs.RowWords.{row_word, words_are}
use Rattle.sbl_explain.proofs.bench_words.words_of.Goals as goal

pub returns : goal.returns
returns c =
    sym (append-nil (texts_of c.loop-row.words.items))
    ∙ ap (λ (rs : List declared.Row). texts_of c.loop-row.words.items ++ map row_word rs) (sym (drop_of_length-le c.deref-row-items.result.now c.loop-row-test.false))
    ∙ c.loop-row.invariant
    ∙ ap (map row_word) c.deref-row-items.ensures.value
    ∙ words_are (setting_of c.args.bench.now) c.args.bench.now.words c.in_ok-rows.rows.items c.in_ok-rows.ensures
