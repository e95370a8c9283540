use Rattle.std.proofs.Common.{◌≡◌, ◌∙◌, ap, rules, subst, sym, ℕ, OnOk, List}
use Rattle.std.specs.Str.{chars, IsAscii}
use Rattle.std.proofs.lemmas.Iterator.{YieldsList-from_chars}
use Rattle.std.proofs.lemmas.Iterator.Adapters.{items_from_extend}
use Rattle.std.proofs.lemmas.Str.{chars-IsAscii}
use Rattle.sbl_batch.proofs.filtering.put_characters.Goals as goal

-- the characters of ASCII are its bytes
pub returns-then-is_ascii : goal.returns-then-is_ascii
returns-then-is_ascii c =
    let ascii : IsAscii c.args.word.now = (rw c.if-is_ascii.true at c.is_ascii.ensures.cases) in
    subst (λ (w : List ℕ). OnOk c.put_ascii.result (c.put_ascii.new.characters.items ≡ w))
    (c.as_bytes.ensures.value ∙ sym (chars-IsAscii c.args.word.now ascii)) c.put_ascii.ensures

pub returns : goal.returns
returns c =
    let e = items_from_extend c.extend.result c.extend.ensures.ran (YieldsList-from_chars c.args.word.now c.utf8.word c.chars.ensures.rest) in
    search (rules, e)
