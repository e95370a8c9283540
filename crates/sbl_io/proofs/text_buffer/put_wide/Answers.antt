use Rattle.std.proofs.Common.{◌∙◌, ◌++◌, List, ℕ, ap, sym, take}
use Rattle.sbl_io.proofs.Utf8.{four_byte_code, four_bytes, three_byte_code, three_bytes}
use Rattle.sbl_io.proofs.text_buffer.put_wide.Goals as goal

pub returns-then-code-lt65536-clause-text : goal.returns-then-code-lt65536-clause-text
returns-then-code-lt65536-clause-text c =
    three_bytes _ _ _ _ _ _ _ c.put-at.ensures.text c.put_last-at.ensures.text c.put_last.ensures.text
    ∙ ap (λ (t : List ℕ). take c.args.at c.args.room.now ++ t) (sym (three_byte_code c.args.c c.requires.wide c.if-code-lt65536.true))

pub returns-clause-text : goal.returns-clause-text
returns-clause-text c =
    four_bytes _ _ _ _ _ _ _ _ _ c.put-at-2.ensures.text c.put_last-at-2.ensures.text c.put_last-at-3.ensures.text c.put_last-2.ensures.text
    ∙ ap (λ (t : List ℕ). take c.args.at c.args.room.now ++ t) (sym (four_byte_code c.args.c c.if-code-lt65536.false))
