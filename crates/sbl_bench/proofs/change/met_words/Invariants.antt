use Rattle.std.proofs.Common.{◌≡◌, ◌++◌, map}
use Rattle.sbl_bench.specs.inside.Changes.{affected_of, met_words}
use Rattle.sbl_bench.proofs.change.met_words.Given as goal

-- the words so far, and those among the entries still to come
abbrev pub invariant-loop-word : goal.invariant-loop-word
invariant-loop-word l = map (λ w. w.now) l.words.items ++ met_words (affected_of l.affected) l.word-iterator ≡ met_words (affected_of l.affected) l.traces.entries
