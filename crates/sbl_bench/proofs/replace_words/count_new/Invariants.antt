use Rattle.std.proofs.Common.{◌≡◌, ◌+◌, ◌≤◌, drop, length}
use Rattle.sbl_rows.specs.Classes.{texts_of}
use Rattle.sbl_last_runs.specs.KeptEntries.{words_in}
use Rattle.sbl_bench.specs.inside.WordLists.{new_words}
use Rattle.sbl_bench.proofs.replace_words.count_new.Given as goal

abbrev pub invariant-loop-word : goal.invariant-loop-word
invariant-loop-word l = record {
  counted : l.count + length (new_words (words_in l.traces.entries) (texts_of (drop l.word-index l.words))) ≡ length (new_words (words_in l.traces.entries) (texts_of l.words));
  few : l.count ≤ l.word-index;
}
