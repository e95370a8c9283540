use Rattle.std.proofs.Common.{◌≡◌, ◌++◌, drop}
use Rattle.sbl_rows.specs.Counting as spec
use Rattle.sbl_rows.specs.Grouping.{view_pairs}
use Rattle.sbl_rows.specs.KnownOutcomes.{known_outcome}
use Rattle.sbl_rows.specs.Classes.{texts_of}
use Rattle.sbl_rows.proofs.counted_words.family_of.Given as goal

-- the pairs so far, and those of the words still to come; what is left after these
abbrev pub invariant-loop-word : goal.invariant-loop-word
invariant-loop-word l = record {
  pairs : view_pairs l.pairs.items ++ spec.pairs_taken (known_outcome l.outcomes) (texts_of (drop l.word-index l.words)) ≡ spec.pairs_taken (known_outcome l.initial.outcomes) (texts_of l.words);
  left : spec.outcomes_left (known_outcome l.outcomes) (texts_of (drop l.word-index l.words)) ≡ spec.outcomes_left (known_outcome l.initial.outcomes) (texts_of l.words);
}
