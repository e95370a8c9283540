use Rattle.std.proofs.Common.{◌≡◌, ◌++◌, [], List, ℕ}
use Rattle.sbl_reports.specs.FamilyReader.{read_by, read_on}
use Rattle.sbl_reports.proofs.families.families_in.Given as goal

abbrev pub invariant-loop-character : goal.invariant-loop-character
invariant-loop-character l = (text : List ℕ) → read_by l.reader text ≡ read_on [] [] [] (l.yielded ++ text)
