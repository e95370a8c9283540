use Rattle.std.proofs.Common.{rules, ◌≡◌, ◌∙◌, length, slice_range}
use Rattle.std.proofs.lemmas.Str.{IsCharBoundary-end}
use Rattle.sbl_source_map.proofs.HeadFacts.{is_boundary, rest_is, slice_is}
use Rattle.sbl_source_map.proofs.Rests.{rest_chars}
use Rattle.sbl_text_rows.proofs.token_rows.rest_from.Goals as goal

pub returns-in-Some : goal.returns-in-Some
returns-in-Some c = λ x rest is at.
    let text = c.args.text.now in
    let cut : c.in-Some.rest.now ≡ slice_range text c.args.from (length text) = search rules in
    rest_chars text x rest c.in-Some.rest.now c.utf8.text is (cut ∙ slice_is text c.args.from ∙ rest_is text x rest c.args.from c.utf8.text is at)

pub returns-in-None : goal.returns-in-None
returns-in-None c = λ x rest is at.
    let boundary = is_boundary c.args.text.now x rest c.args.from c.utf8.text is at in
    absurd (c.in-None.ensures.cases boundary.0 boundary (IsCharBoundary-end c.args.text.now))
