use Rattle.std.proofs.Common.{◌≡◌, true, take}
use Rattle.std.specs.List.{list_all}
use Rattle.sbl_reports.specs.WordLists.{may_have}
use Rattle.sbl_reports.proofs.word_lists.may_be.Given as goal

abbrev pub invariant-loop-character : goal.invariant-loop-character
invariant-loop-character l = list_all (may_have l.form) (take l.character-index l.text) ≡ true
