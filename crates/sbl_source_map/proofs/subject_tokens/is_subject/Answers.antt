use Rattle.std.proofs.Common.{ap, is_some, sym, ◌∙◌}
use Rattle.sbl_token.specs.declared.token.Kind.{Kind}
use Rattle.sbl_token.specs.Lexemes.{lexeme_by}
use Rattle.sbl_source_map.specs.SubjectTokens.{subject_in}
use Rattle.sbl_source_map.proofs.subject_tokens.is_subject.Goals as goal

pub returns-in-Word : goal.returns-in-Word
returns-in-Word c =
    let t = c.args.token.now in
    c.is_subject_word.ensures c.args.in_among
    ∙ ap (λ (k : Kind). is_some (subject_in c.args.in_among (lexeme_by k t.text.now t.value))) (sym c.in-Word.is)
