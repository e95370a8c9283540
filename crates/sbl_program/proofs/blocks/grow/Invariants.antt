use Rattle.std.proofs.Common.{◌≡◌, ℕ, ◌-◌, length}
use Rattle.sbl_program.specs.CharacterClasses.{is_in_block}
use Rattle.sbl_program.proofs.blocks.grow.Given as goal

-- no block has a bit that it had not
abbrev pub invariant-loop-blocks : goal.invariant-loop-blocks
invariant-loop-blocks l = (k p : ℕ) → is_in_block l.blocks.items k p ≡ is_in_block l.initial.blocks.items k p

abbrev pub decreases-loop-blocks : goal.decreases-loop-blocks
decreases-loop-blocks l = l.count - length l.blocks.items
