use Rattle.std.proofs.Common.{◌≡◌, false, take, ◌==◌}
use Rattle.std.specs.List.{list_any}
use Rattle.sbl_reports.proofs.written_stems.has_feed.Given as goal

abbrev pub invariant-loop-character : goal.invariant-loop-character
invariant-loop-character l = list_any (λ c. c == 10) (take l.character-index l.text) ≡ false
