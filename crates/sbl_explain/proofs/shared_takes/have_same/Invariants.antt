use Rattle.std.proofs.Common.{◌≡◌, drop}
use Rattle.sbl_explain.specs.Kept.{Names, view_list}
use Rattle.sbl_explain.proofs.shared_takes.have_same.Given as goal

abbrev pub invariant-loop-i : goal.invariant-loop-i
invariant-loop-i l = (names : Names) → view_list names (drop l.i l.one) ≡ view_list names (drop l.i l.other) → view_list names l.one ≡ view_list names l.other
