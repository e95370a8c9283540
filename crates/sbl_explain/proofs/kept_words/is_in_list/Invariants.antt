use Rattle.std.proofs.Common.{◌≡◌, drop}
use Rattle.std.specs.List.{list_any}
use Rattle.sbl_machine.specs.ItemRefs.{item_of_ref}
use Rattle.sbl_bench.specs.KeptRuns.{setting_of}
use Rattle.sbl_explain.specs.Kept.{view_list}
use Rattle.sbl_uses.specs.Used.{same_take}
use Rattle.sbl_explain.specs.WhyRows.{routine_names}
use Rattle.sbl_explain.proofs.kept_words.is_in_list.Given as goal

abbrev pub invariant-loop-taken : goal.invariant-loop-taken
invariant-loop-taken l = list_any (same_take (item_of_ref l.among, l.string)) (view_list (routine_names (setting_of l.bench)) (drop l.taken-index l.list)) ≡ list_any (same_take (item_of_ref l.among, l.string)) (view_list (routine_names (setting_of l.bench)) l.list)
