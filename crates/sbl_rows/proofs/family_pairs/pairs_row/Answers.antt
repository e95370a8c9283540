use Rattle.std.proofs.Common.{◌≡◌, ◌-◌, arith}
use Rattle.sbl_rows.specs.Counting.{view_families}
use Rattle.sbl_rows.specs.Families.{Pairs, any_two, other_stem, pairs_across, pairs_within, same_stem}
use Rattle.sbl_rows.proofs.PairNumbers.{within-across, within-either}
use Rattle.sbl_rows.proofs.family_pairs.pairs_row.Goals as goal

pub overflow_sub-result : goal.overflow_sub-result
overflow_sub-result c =
    let within = c.in_ok-tally.ensures.within in
    let same = c.in_ok-tally.ensures.same in
    let either = within-either (view_families c.args.families.now) in
    omega arith

pub overflow_sub-result-2 : goal.overflow_sub-result-2
overflow_sub-result-2 c =
    let within = c.in_ok-tally.ensures.within in
    let all = within-across any_two (view_families c.args.families.now) _ _ _ c.all_pairs.ensures c.deref-2.ensures.value c.in_ok-tally.ensures.words in
    omega arith

pub overflow_sub-result-3 : goal.overflow_sub-result-3
overflow_sub-result-3 c =
    let same = c.in_ok-tally.ensures.same in
    let stems = within-across same_stem (view_families c.args.families.now) _ _ _ c.in_ok-same.ensures c.deref.ensures.value c.in_ok-tally.ensures.words in
    omega arith

pub returns : goal.returns
returns c =
    let families = view_families c.args.families.now in
    let tally = c.in_ok-tally.tally in
    let within : tally.within ≡ pairs_within any_two families = c.in_ok-tally.ensures.within in
    let same : tally.same ≡ pairs_within same_stem families = c.in_ok-tally.ensures.same in
    let either = within-either families in
    let all = within-across any_two families _ _ _ c.all_pairs.ensures c.deref-2.ensures.value c.in_ok-tally.ensures.words in
    let stems = within-across same_stem families _ _ _ c.in_ok-same.ensures c.deref.ensures.value c.in_ok-tally.ensures.words in
    let apart : tally.within - tally.same ≡ pairs_within other_stem families = omega arith in
    let across : c.all_pairs.result - tally.within ≡ pairs_across any_two families = omega arith in
    let joined : c.in_ok-same.same - tally.same ≡ pairs_across same_stem families = omega arith in
    λ i. Pairs (within i) (apart i) (across i) (joined i)
