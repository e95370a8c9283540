use Rattle.std.proofs.Common.{◌≡◌}
use Rattle.sbl_bench.specs.Vocabulary.{vocabulary}
use Rattle.sbl_bench.specs.inside.ProofNames.{with_all}
use Rattle.sbl_input.specs.WordLists.{texts_of}
use Rattle.sbl_input.proofs.word_list.distinct.Given as goal

abbrev pub invariant-loop-word : goal.invariant-loop-word
invariant-loop-word l = with_all (texts_of l.set.keys) (texts_of l.word-iterator.rest.items) ≡ vocabulary (texts_of l.fn.words.items)
