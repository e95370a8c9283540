use Rattle.std.proofs.Common.{◌≡◌, ◌++◌, drop, map}
use Rattle.sbl_explain.proofs.RowWords.{row_word}
use Rattle.sbl_uses.specs.UnusedViews.{texts_of}
use Rattle.sbl_explain.proofs.bench_words.words_of.Given as goal

abbrev pub invariant-loop-row : goal.invariant-loop-row
invariant-loop-row l = texts_of l.words.items ++ map row_word (drop l.row-index l.row-items) ≡ map row_word l.row-items
