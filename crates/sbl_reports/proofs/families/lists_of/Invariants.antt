use Rattle.std.proofs.Common.{◌≡◌, take}
use Rattle.sbl_rows.specs.Families.{view_words}
use Rattle.sbl_reports.specs.FamilyReader.{families_read}
use Rattle.sbl_reports.proofs.families.lists_of.Given as goal

abbrev pub invariant-loop-family : goal.invariant-loop-family
invariant-loop-family l = view_words l.lists.items ≡ families_read (take l.family-index l.families)
