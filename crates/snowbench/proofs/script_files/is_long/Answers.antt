use Rattle.std.proofs.Common.{◌≡◌, ◌∙◌, ap, refl, subst, sym, List, ℕ, length}
use Rattle.std.specs.Str.{chars, IsUtf8}
use Rattle.std.proofs.lemmas.Iterator.{YieldsList-from_chars}
use Rattle.std.proofs.lemmas.Iterator.Consumers.{count_from_yields_List}
use Rattle.std.proofs.lemmas.Str.{is_utf8-from_IsUtf8}
use Rattle.sbl_sessions.proofs.CommandFacts.{not_text}
use Rattle.snowbench.proofs.script_files.is_long.Goals as goal

pub returns-in-Ok : goal.returns-in-Ok
returns-in-Ok c =
    let utf8 : IsUtf8 c.in-Ok.text.now = subst IsUtf8 (sym c.in-Ok.ensures.cases.0) c.in-Ok.ensures.cases.1 in
    let many = count_from_yields_List c.chars.result c.count.result c.count.ensures.ran (YieldsList-from_chars c.in-Ok.text.now utf8 c.chars.ensures.rest) in
    let same : c.count.result ≡ length (chars c.args.line.now) = many ∙ ap (λ (x : List ℕ). length (chars x)) c.in-Ok.ensures.cases.0 in
    rw (same, is_utf8-from_IsUtf8 c.args.line.now c.in-Ok.ensures.cases.1) refl

pub returns-in-Err : goal.returns-in-Err
returns-in-Err c = rw (not_text c.args.line.now c.in-Err.ensures.cases.0) refl
