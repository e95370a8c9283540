use Rattle.std.proofs.Common.{◌≡◌, drop}
use Rattle.sbl_reports.specs.Lookups.{contains_text}
use Rattle.sbl_reports.proofs.lookups.contains_text.Given as goal

-- what is left contains the text exactly if the whole does
abbrev pub invariant-loop-i : goal.invariant-loop-i
invariant-loop-i l = contains_text (drop l.i l.text) l.part ≡ contains_text l.text l.part
