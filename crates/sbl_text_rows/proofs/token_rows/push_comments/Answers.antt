use Rattle.std.proofs.Common.{rules, ◌++◌}
use Rattle.std.specs.Str.{chars}
use Rattle.sbl_text.specs.Literals.{byte_length}
use Rattle.sbl_text_rows.specs.Gaps.{gap_lines}
use Rattle.sbl_text_rows.proofs.GapFacts.{gap_prefix, left_after, left_none}
use Rattle.sbl_text_rows.proofs.token_rows.push_comments.Goals as goal

pub push_gap-requires-clause-gap : goal.push_gap-requires-clause-gap
push_gap-requires-clause-gap c =
    gap_prefix (chars c.args.text.now) (chars c.loop-gap.rest.now) (chars c.in-Some.gap.rest.now) c.in-Some.gap.is_comment c.loop-gap.invariant.1 c.in-Some.ensures.value

pub loop-gap-preserved : goal.loop-gap-preserved
loop-gap-preserved c =
    let text = chars c.args.text.now in
    let rest = chars c.loop-gap.rest.now in
    let r = chars c.in-Some.gap.rest.now in
    let b = c.in-Some.gap.is_comment in
    let z = gap_prefix text rest r b c.loop-gap.invariant.1 c.in-Some.ensures.value in (
      search rules,
      z,
      λ i x gs at is gaps none.
          left_after i text rest r at c.loop-gap.out.items c.push_gap.new.out.items (c.args.out.now.items ++ gap_lines (byte_length x) gs) b z.0
          (c.loop-gap.invariant.2 i x gs at is gaps none) none c.in-Some.ensures.value z.1 (λ u v e f. c.in_ok-push_gap.ensures u v e f),
    )

pub returns : goal.returns
returns c = λ i x gs at is gaps none.
    left_none i (chars c.args.text.now) (chars c.loop-gap.rest.now) at c.loop-gap.out.items (c.args.out.now.items ++ gap_lines (byte_length x) gs)
    (c.loop-gap.invariant.2 i x gs at is gaps none) c.in_default.ensures.value
