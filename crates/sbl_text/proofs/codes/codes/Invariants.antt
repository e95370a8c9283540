use Rattle.std.proofs.Common.{◌≡◌, length}
use Rattle.sbl_text.specs.Codes.{all_codes, numbers_in}
use Rattle.sbl_text.proofs.Numbers.{with_prefix}
use Rattle.sbl_text.proofs.codes.codes.Given as goal

abbrev pub invariant-loop-chars : goal.invariant-loop-chars
invariant-loop-chars l = with_prefix l.value.items (all_codes l.base l.most (numbers_in l.chars)) ≡ all_codes l.base l.most (numbers_in l.initial.chars)

abbrev pub decreases-loop-chars : goal.decreases-loop-chars
decreases-loop-chars l = length l.chars
