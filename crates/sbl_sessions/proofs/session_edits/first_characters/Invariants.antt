use Rattle.std.proofs.Common.{◌≡◌, ◌≤◌, length, take}
use Rattle.std.specs.Str.{chars}
use Rattle.sbl_sessions.proofs.session_edits.first_characters.Given as goal

abbrev pub invariant-loop-c : goal.invariant-loop-c
invariant-loop-c l = (l.count ≡ length l.yielded) × (l.count ≤ length l.room) × (take l.count l.room ≡ take l.count (chars l.word))
