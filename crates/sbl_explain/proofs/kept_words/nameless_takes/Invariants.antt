use Rattle.std.proofs.Common.{◌≡◌, ◌++◌, map}
use Rattle.sbl_bench.specs.KeptRuns.{setting_of}
use Rattle.sbl_explain.specs.Kept.{view_list}
use Rattle.sbl_uses.specs.UnusedViews.{take_of}
use Rattle.sbl_explain.specs.WhyRows.{routine_names}
use Rattle.sbl_explain.proofs.kept_words.nameless_takes.Given as goal

abbrev pub invariant-loop-key : goal.invariant-loop-key
invariant-loop-key l = view_list (routine_names (setting_of l.bench)) l.list.items ++ map take_of l.key-iterator ≡ map take_of l.initial.key-iterator
