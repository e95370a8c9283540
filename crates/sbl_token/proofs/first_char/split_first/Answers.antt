use Rattle.std.proofs.Common.{ℕ, List, ◌++◌, sym, ap, ◌∙◌}
use Rattle.std.specs.Prelude.{encode_utf8}
use Rattle.std.proofs.lemmas.Str.{chars_past_char}
use Rattle.sbl_token.proofs.Texts.{chars_of_empty}
use Rattle.sbl_token.proofs.first_char.split_first.Goals as goal

pub returns-in-Some-clause-parts : goal.returns-in-Some-clause-parts
returns-in-Some-clause-parts c =
    chars_past_char c.args.text.now c.as_str.result.now c.in-Some.c c.utf8.text
    (sym c.chars-chars.ensures.rest ∙ c.in-Some.ensures.steps.0 ∙ ap (λ (r : List ℕ). encode_utf8 c.in-Some.c ++ r) (sym c.as_str.ensures))

pub returns-in-None-clause-parts : goal.returns-in-None-clause-parts
returns-in-None-clause-parts c = chars_of_empty c.args.text.now (sym c.chars-chars.ensures.len ∙ c.in-None.ensures.steps.0.0)
