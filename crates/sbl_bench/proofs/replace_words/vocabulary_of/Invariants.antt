use Rattle.std.proofs.Common.{◌≡◌, ℕ, List, [], drop, map}
use Rattle.sbl_rows.specs.Classes.{texts_of}
use Rattle.sbl_rows.specs.KnownOutcomes.{has_text}
use Rattle.sbl_bench.specs.Contents.{opening_fault}
use Rattle.sbl_bench.specs.Vocabulary.{is_word, vocabulary}
use Rattle.sbl_bench.specs.inside.ProofNames.{with_all}
use Rattle.sbl_bench.proofs.replace_words.vocabulary_of.Given as goal

-- what is left to do to the words so far is what was to be done to none
abbrev pub invariant-loop-word : goal.invariant-loop-word
invariant-loop-word l = record {
  seen : (q : List ℕ) → has_text l.seen q ≡ is_word q (texts_of l.list.items);
  same_fault : opening_fault [] (map (λ w. w.items) l.words) ≡ opening_fault (texts_of l.list.items) (map (λ w. w.items) (drop l.word-index l.words));
  same_words : vocabulary (map (λ w. w.items) l.words) ≡ with_all (texts_of l.list.items) (map (λ w. w.items) (drop l.word-index l.words));
}
