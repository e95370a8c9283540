use Rattle.std.proofs.Common.{◌≡◌, ◌||◌, drop}
use Rattle.std.specs.List.{list_any}
use Rattle.sbl_bench.specs.KeptRuns.{setting_of}
use Rattle.sbl_explain.specs.Kept.{has_taken}
use Rattle.sbl_uses.specs.UnusedViews.{takes_in}
use Rattle.sbl_uses.specs.Used.{Take, same_take}
use Rattle.sbl_explain.specs.WhyRows.{routine_names}
use Rattle.sbl_explain.proofs.kept_words.takes_of_words.Given as goal

abbrev pub invariant-loop-word : goal.invariant-loop-word
invariant-loop-word l = (t : Take) → (list_any (has_taken (routine_names (setting_of l.bench)) t) (drop l.word-index l.words) || list_any (same_take t) (takes_in l.takes)) ≡ list_any (has_taken (routine_names (setting_of l.bench)) t) l.words
