use Rattle.std.proofs.Common.{◌≡◌, ℕ, drop, if◌then◌else◌}
use Rattle.sbl_program.specs.CharacterClasses.{members}
use Rattle.sbl_program.specs.Characters.{has}
use Rattle.sbl_program.proofs.character_class.CharacterClass.put_all.Given as goal

-- those so far have the value
abbrev pub invariant-loop-c : goal.invariant-loop-c
invariant-loop-c l =
    (d : ℕ) → (if has (drop l.c-index l.characters) d then l.value else members l.self d) ≡ (if has l.characters d then l.value else members l.initial.self d)
