use Rattle.std.proofs.Common.{◌≡◌, ◌||◌, Bool, drop}
use Rattle.std.specs.List.{list_any}
use Rattle.sbl_bench.specs.KeptRuns.{setting_of}
use Rattle.sbl_explain.specs.Kept.{view_list}
use Rattle.sbl_uses.specs.UnusedViews.{takes_in}
use Rattle.sbl_uses.specs.Used.{Take}
use Rattle.sbl_explain.specs.WhyRows.{routine_names}
use Rattle.sbl_explain.proofs.kept_words.add_list.Given as goal

abbrev pub invariant-loop-taken : goal.invariant-loop-taken
invariant-loop-taken l = (test : Take → Bool) → (list_any test (view_list (routine_names (setting_of l.bench)) (drop l.taken-index l.list)) || list_any test (takes_in l.takes)) ≡ (list_any test (view_list (routine_names (setting_of l.bench)) l.list) || list_any test (takes_in l.initial.takes))
