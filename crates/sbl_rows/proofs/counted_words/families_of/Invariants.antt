use Rattle.std.proofs.Common.{◌≡◌, ◌++◌, drop}
use Rattle.sbl_rows.specs.Counting as spec
use Rattle.sbl_rows.specs.Counting.{view_families}
use Rattle.sbl_rows.specs.Families.{view_words}
use Rattle.sbl_rows.specs.KnownOutcomes.{known_outcome}
use Rattle.sbl_rows.proofs.counted_words.families_of.Given as goal

-- the families so far, and those of the lists still to come
abbrev pub invariant-loop-words : goal.invariant-loop-words
invariant-loop-words l =
    view_families l.families.items ++ spec.all_taken (known_outcome l.outcomes) (view_words (drop l.words-index l.lists))
    ≡ spec.all_taken (known_outcome l.initial.outcomes) (view_words l.lists)
