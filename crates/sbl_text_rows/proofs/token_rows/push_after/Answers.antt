use Rattle.std.proofs.Common.{refl}
use Rattle.sbl_token.specs.Lexemes.{lexeme_of}
use Rattle.sbl_text.specs.Directives.{after}
use Rattle.sbl_text.specs.Literals.{byte_length}
use Rattle.sbl_text_rows.proofs.GapFacts.{no_lines}
use Rattle.sbl_text_rows.proofs.token_rows.push_after.Goals as goal

pub returns-else-allows_comments : goal.returns-else-allows_comments
returns-else-allows_comments c = λ s x rest gs at is end gaps ends.
    let t = after s (lexeme_of c.args.token.now) in
    let out = c.args.out.now.items in
    no_lines t.escapes.inserts t.wanted (byte_length x) rest at out out gs (c.allows_comments.ensures.no c.if-allows_comments.false s) gaps refl
