use Rattle.std.proofs.Common.{◌≡◌, drop}
use Rattle.sbl_rows.specs.Classes.{texts_of}
use Rattle.sbl_rows.specs.Counting.{put_texts, unknown_in}
use Rattle.sbl_rows.specs.KnownOutcomes.{known_outcome}
use Rattle.sbl_rows.proofs.unknown_words.insert_unknown.Given as goal

-- the words so far are put in, and those still to come
abbrev pub invariant-loop-word : goal.invariant-loop-word
invariant-loop-word l =
    put_texts (texts_of l.unknown.keys) (unknown_in (known_outcome l.outcomes) (texts_of (drop l.word-index l.words)))
    ≡ put_texts (texts_of l.initial.unknown.keys) (unknown_in (known_outcome l.outcomes) (texts_of l.words))
