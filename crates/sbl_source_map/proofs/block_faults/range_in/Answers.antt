use Rattle.std.proofs.Common.{◌+◌, List, Some, ap, length, subst, ℕ}
use Rattle.std.specs.Str.{chars}
use Rattle.sbl_source_map.specs.FaultRanges.{IsEndAt}
use Rattle.sbl_source_map.proofs.BlockFacts.{in_text, not_in_text}
use Rattle.sbl_source_map.proofs.block_faults.range_in.Goals as goal

pub returns-in_default : goal.returns-in_default
returns-in_default c =
    not_in_text c.args.typed.before.now c.args.typed.head c.args.typed.block.now c.args.place c.args.text.now c.requires c.in_default.ensures.cases.0

pub returns : goal.returns
returns c =
    let before = c.args.typed.before.now in
    let head = c.args.typed.head in
    let place = c.args.place in
    let end = c.in_ok-end.end in
    let pair : ℕ → ℕ × ℕ = λ n. (head + place, n) in
    in_text before head c.args.typed.block.now place end c.args.text.now (Some (pair c.saturating_sub.result)) c.requires c.in-Ok.ensures.cases.1 c.if-place-typed.false
    (subst (λ (t : List ℕ). IsEndAt (chars t) (length before + head + place) end) c.in-Ok.ensures.cases.0 c.in_ok-end.ensures)
    (ap (λ (n : ℕ). Some (pair n)) c.saturating_sub.ensures)
