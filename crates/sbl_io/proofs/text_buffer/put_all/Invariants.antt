use Rattle.std.proofs.Common.{◌≡◌, ◌≤◌, ◌*◌, length, take}
use Rattle.std.specs.Str.{encode_utf8_all}
use Rattle.sbl_io.proofs.text_buffer.put_all.Given as goal

abbrev pub invariant-loop-c : goal.invariant-loop-c
invariant-loop-c l =
    (l.end ≤ 4 * l.c-index) × (length l.room ≡ length l.fn.room) × (take l.end l.room ≡ encode_utf8_all (take l.c-index l.characters))
