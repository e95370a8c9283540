use Rattle.std.proofs.Common.{◌≡◌, ◌+◌}
use Rattle.std.specs.List.Sorted.{IsStrictlySortedBy}
use Rattle.sbl_uses.specs.TakeNumbers.{number_of}
use Rattle.sbl_uses.specs.Used.{Take}
use Rattle.sbl_uses.proofs.Sets.{key_order}
use Rattle.sbl_uses.proofs.TakeFacts.{one_among}
use Rattle.sbl_uses.proofs.take_counts.count_each.Given as goal

-- the numbers so far, and the strings still to come
abbrev pub invariant-loop-key : goal.invariant-loop-key
invariant-loop-key l = IsStrictlySortedBy key_order l.key-iterator × ((t : Take) → number_of l.counts t + one_among l.key-iterator t ≡ number_of l.initial.counts t + one_among l.initial.key-iterator t)
