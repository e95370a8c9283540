use Rattle.std.proofs.Common.{◌≡◌, ◌&&◌, ℕ, length, nat_lt, if◌then◌else◌}
use Rattle.sbl_program.specs.CharacterClasses.{is_in_block}
use Rattle.sbl_program.proofs.blocks.put_blocks.Given as goal

-- the blocks so far have the value
abbrev pub invariant-loop-number : goal.invariant-loop-number
invariant-loop-number l =
    (length l.blocks.items ≡ length l.initial.blocks.items)
    × ((k p : ℕ) → is_in_block l.blocks.items k p ≡ (if nat_lt k l.number && is_in_block l.others k p then l.value else is_in_block l.initial.blocks.items k p))
