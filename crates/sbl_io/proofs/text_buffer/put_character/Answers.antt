use Rattle.std.proofs.Common.{◌∙◌, ◌++◌, List, ℕ, ap, sym, take}
use Rattle.sbl_io.proofs.Utf8.{two_byte_code, two_bytes}
use Rattle.sbl_io.proofs.text_buffer.put_character.Goals as goal

pub returns-then-code-lt2048-clause-text : goal.returns-then-code-lt2048-clause-text
returns-then-code-lt2048-clause-text c =
    two_bytes _ _ _ _ _ c.put-at.ensures.text c.put_last.ensures.text
    ∙ ap (λ (t : List ℕ). take c.args.at c.args.room.now ++ t) (sym (two_byte_code c.args.c c.if-code-lt128.false c.if-code-lt2048.true))
