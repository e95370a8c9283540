use Rattle.std.proofs.Common.{rules, ◌≡◌, ◌∙◌, Some, length, slice_range, subst}
use Rattle.std.proofs.lemmas.Str.{IsCharBoundary-end}
use Rattle.sbl_source_map.specs.HeadReader.{IsEndOf, head_words}
use Rattle.sbl_source_map.proofs.HeadFacts.{is_boundary, rest_is, slice_is}
use Rattle.sbl_source_map.proofs.definitions.after_head.Goals as goal

pub returns-in-Some-get : goal.returns-in-Some-get
returns-in-Some-get c =
    let some : c.in_ok-end.field-0 ≡ Some c.in-Some.end = search rules in
    let at : IsEndOf (head_words c.args.name.now c.args.is_routine) c.args.text.now (Some c.in-Some.end) =
    subst (IsEndOf (head_words c.args.name.now c.args.is_routine) c.args.text.now) some c.in_ok-end.ensures in
    let cut : c.in-Some-get.rest.now ≡ slice_range c.args.text.now c.in-Some.end (length c.args.text.now) = search rules in
    (Some at.1, at.4, cut ∙ slice_is c.args.text.now c.in-Some.end ∙ rest_is c.args.text.now at.0 at.1 c.in-Some.end c.utf8.text at.2 at.3)

pub returns-in-None : goal.returns-in-None
returns-in-None c =
    let some : c.in_ok-end.field-0 ≡ Some c.in-Some.end = search rules in
    let at : IsEndOf (head_words c.args.name.now c.args.is_routine) c.args.text.now (Some c.in-Some.end) =
    subst (IsEndOf (head_words c.args.name.now c.args.is_routine) c.args.text.now) some c.in_ok-end.ensures in
    let boundary = is_boundary c.args.text.now at.0 at.1 c.in-Some.end c.utf8.text at.2 at.3 in
    absurd (c.in-None.ensures.cases boundary.0 boundary (IsCharBoundary-end c.args.text.now))
