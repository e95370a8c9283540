use Rattle.std.proofs.Common.{◌≡◌, ◌+◌, drop}
use Rattle.sbl_bench.specs.KeptRuns.{setting_of}
use Rattle.sbl_explain.specs.WhyRows.{routine_names}
use Rattle.sbl_uses.specs.TakeNumbers.{number_of}
use Rattle.sbl_explain.specs.TakeNumbers.{number_kept}
use Rattle.sbl_uses.specs.Used.{Take}
use Rattle.sbl_explain.proofs.take_counts.counts_by_words.Given as goal

-- the numbers so far, and the words still to come
abbrev pub invariant-loop-word : goal.invariant-loop-word
invariant-loop-word l = (t : Take) → number_of l.counts t + number_kept (routine_names (setting_of l.bench)) t (drop l.word-index l.words) ≡ number_kept (routine_names (setting_of l.bench)) t l.words
