use Rattle.std.proofs.Common.{◌≡◌, length}
use Rattle.sbl_token.specs.Lookup.{found_in}
use Rattle.sbl_token.proofs.words.lookup.Given as goal

abbrev pub invariant-loop-words : goal.invariant-loop-words
invariant-loop-words l = found_in l.words l.text ≡ found_in l.initial.words l.text

abbrev pub decreases-loop-words : goal.decreases-loop-words
decreases-loop-words l = length l.words
