use Rattle.std.proofs.Common.{◌≡◌, ◌++◌, suc, drop}
use Rattle.sbl_uses.specs.Parts.{amongs_from}
use Rattle.sbl_uses.specs.UnusedViews.{view_amongs, view_parts}
use Rattle.sbl_uses.proofs.usable_parts.push_amongs.Given as goal

abbrev pub invariant-loop-i : goal.invariant-loop-i
invariant-loop-i l = view_parts l.parts.items ++ amongs_from (suc l.i) l.name (view_amongs (drop l.i l.amongs)) ≡ view_parts l.initial.parts.items ++ amongs_from 1 l.name (view_amongs l.amongs)
