use Rattle.std.proofs.Common.{◌≡◌, [], drop}
use Rattle.std.specs.List.{flat_map}
use Rattle.sbl_rows.specs.Classes.{texts_of}
use Rattle.sbl_rows.specs.Counting.{put_texts, unknown_in}
use Rattle.sbl_rows.specs.Families.{view_words}
use Rattle.sbl_rows.specs.KnownOutcomes.{known_outcome}
use Rattle.sbl_rows.proofs.unknown_words.count_unknown.Given as goal

-- the words of the lists so far are put in, and those of the lists still to come
abbrev pub invariant-loop-words : goal.invariant-loop-words
invariant-loop-words l =
    put_texts (texts_of l.unknown.keys) (unknown_in (known_outcome l.outcomes) (flat_map (λ w. w) (view_words (drop l.words-index l.lists))))
    ≡ put_texts [] (unknown_in (known_outcome l.outcomes) (flat_map (λ w. w) (view_words l.lists)))
