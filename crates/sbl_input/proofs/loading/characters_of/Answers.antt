use Rattle.std.proofs.Common.{subst, sym, ◌≡◌, ◌∙◌, ap, refl, rules, List, ℕ, true, inl, IfOk, Result, Ok, Err}
use Rattle.std.specs.declared.vec.Vec.{Vec}
use Rattle.std.specs.declared.alloc.Global.{Global}
use Rattle.sbl_input.specs.declared.faults.LoadFault.{LoadFault}
use Rattle.std.specs.Str.{chars, is_utf8, IsAscii, IsUtf8}
use Rattle.std.proofs.lemmas.Iterator.{YieldsList-from_chars}
use Rattle.std.proofs.lemmas.Iterator.Adapters.{items_from_extend}
use Rattle.std.proofs.lemmas.Str.{chars-IsAscii, IsUtf8-from_ascii, is_utf8-from_IsUtf8}
use Rattle.sbl_input.proofs.FileFacts.{no_utf8}
use Rattle.sbl_input.proofs.loading.characters_of.Goals as goal

-- the characters of ASCII are its bytes
read_ascii : (r : Result (Vec ℕ Global) LoadFault) (line : List ℕ) → IsAscii line → IfOk r (λ word. word.items ≡ line)
    → IfOk r (λ word. (is_utf8 line ≡ true) × (word.items ≡ chars line))
read_ascii (Ok word) line ascii is = (is_utf8-from_IsUtf8 line (IsUtf8-from_ascii line ascii), is ∙ sym (chars-IsAscii line ascii))
read_ascii (Err f) line ascii is = tt

pub returns-in_default-clause-none : goal.returns-in_default-clause-none
returns-in_default-clause-none c = inl (refl, no_utf8 c.args.line.now c.in_default.ensures.cases.0)

pub returns-clause-text : goal.returns-clause-text
returns-clause-text c =
    let e = items_from_extend c.extend.result c.extend.ensures.ran (YieldsList-from_chars c.in-Ok.text.now (subst IsUtf8 (sym c.in-Ok.ensures.cases.0) c.in-Ok.ensures.cases.1) c.chars-2.ensures.rest) in
    let items : c.extend.new.self.items ≡ chars c.in-Ok.text.now = search (rules, e) in
    (is_utf8-from_IsUtf8 c.args.line.now c.in-Ok.ensures.cases.1, items ∙ ap chars c.in-Ok.ensures.cases.0)

pub returns-then-is_ascii-clause-text : goal.returns-then-is_ascii-clause-text
returns-then-is_ascii-clause-text c =
    let ascii : IsAscii c.args.line.now = (rw c.if-is_ascii.true at c.is_ascii.ensures.cases) in
    read_ascii c.ascii_characters.result c.args.line.now ascii c.ascii_characters.ensures.text
