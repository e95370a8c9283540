use Rattle.std.proofs.Common.{◌≡◌, ◌<◌, take}
use Rattle.std.specs.Prelude.{fold}
use Rattle.sbl_history.specs.inside.TextSets.{next_place}
use Rattle.sbl_history.proofs.text_set.place_of.Given as goal

abbrev pub invariant-loop-character : goal.invariant-loop-character
invariant-loop-character l = (l.place ≡ fold next_place 0 (take l.character-index l.text)) × (l.place < 262144)
