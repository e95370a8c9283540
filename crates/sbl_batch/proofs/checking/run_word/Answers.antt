use Rattle.std.proofs.Common.{rules, ◌≡◌, ◌∙◌, ◌≤◌, ◌<◌, List, ℕ, length, ap, sym, subst}
use Rattle.std.specs.Str.{chars, encode_utf8_all}
use Rattle.std.proofs.lemmas.Str.{chars_from_encodes}
use Rattle.sbl_semantics.specs.Limit.{default_limit}
use Rattle.sbl_semantics.specs.Outcome.{outcome_of, run_of}
use Rattle.sbl_semantics.specs.declared.outcome.Outcome.TheVariants as code
use Rattle.sbl_batch.specs.Differences.{Stem, Refused, of_outcome}
use Rattle.sbl_batch.proofs.CheckFacts.{made_by_run, made_too_long}
use Rattle.sbl_batch.proofs.checking.run_word.Goals as goal

pub returns-then-len-gt-MAX_WORD_LENGTH : goal.returns-then-len-gt-MAX_WORD_LENGTH
returns-then-len-gt-MAX_WORD_LENGTH c = λ script made.
    let items : c.in_ok-characters.characters.items ≡ chars c.args.word.now = search (rules, chars_from_encodes) in
    let long : 255 < length c.in_ok-characters.characters.items = search rules in
    made_too_long script (chars c.args.word.now) (subst (λ (w : List ℕ). 255 < length w) items long)

pub returns-in-Stem : goal.returns-in-Stem
returns-in-Stem c = λ script made.
    let items : c.in_ok-characters.characters.items ≡ chars c.args.word.now = search (rules, chars_from_encodes) in
    let fits : length c.in_ok-characters.characters.items ≤ 255 = search rules in
    let is : c.in-Ok.end.outcome ≡ code.Stem c.in-Stem.stem = search rules in
    let ran = c.in-Ok.ensures.outcome script made ∙ ap (λ (w : List ℕ). run_of script w default_limit) (c.as_slice.ensures.value ∙ items) in
    let same : c.deref.result.now ≡ c.in-Stem.stem.items = search rules in
    ap Stem (c.in_ok-text_of-in-Stem.ensures ∙ ap encode_utf8_all same) ∙ ap (λ o. of_outcome (outcome_of o)) (sym is)
    ∙ made_by_run script (chars c.args.word.now) (outcome_of c.in-Ok.end.outcome) (subst (λ (w : List ℕ). length w ≤ 255) items fits) ran

pub returns : goal.returns
returns c = λ script made.
    let items : c.in_ok-characters.characters.items ≡ chars c.args.word.now = search (rules, chars_from_encodes) in
    let fits : length c.in_ok-characters.characters.items ≤ 255 = search rules in
    let is : c.in-Ok.end.outcome ≡ code.Refused c.in-Refused.fault = search rules in
    let ran = c.in-Ok.ensures.outcome script made ∙ ap (λ (w : List ℕ). run_of script w default_limit) (c.as_slice.ensures.value ∙ items) in
    ap Refused c.name.ensures ∙ ap (λ o. of_outcome (outcome_of o)) (sym is)
    ∙ made_by_run script (chars c.args.word.now) (outcome_of c.in-Ok.end.outcome) (subst (λ (w : List ℕ). length w ≤ 255) items fits) ran
