use Rattle.std.proofs.Common.{◌≡◌, ◌∙◌, ◌+◌, ◌++◌, ◌<◌, ◌≤◌, ◌^◌, ◌∷◌, [], ℕ, List, cond, take, length, get_or, arith, ap, sym}
use Rattle.std.specs.List.{count_by}
use Rattle.std.specs.Str.{bytes_eq}
use Rattle.std.proofs.lemmas.List.Sums.{sum_by_push}
use Rattle.sbl_rows.specs.declared.stem_class.StemPair.{StemPair}
use Rattle.sbl_rows.specs.Classes.{Pair}
use Rattle.sbl_rows.specs.Families.{any_two, pairs_in, same_stem}
use Rattle.sbl_rows.specs.Grouping.{view_pair, view_pairs}
use Rattle.sbl_rows.proofs.Loops.{so_far, so_far-length}
use Rattle.sbl_rows.proofs.PairNumbers.{pairs-fit, pairs-le, pairs-push}
use Rattle.sbl_rows.proofs.SetFacts.{no_pair}
use Rattle.sbl_rows.proofs.family_pairs.same_stem_pairs.Goals as goal

pub overflow_add-same : goal.overflow_add-same
overflow_add-same c =
    let xs = c.args.pairs.now in
    let i = c.loop-pair.pair-index in
    let x : StemPair = get_or xs i no_pair in
    let done : List Pair = view_pairs (take i xs) in
    let more : pairs_in same_stem (view_pairs (take (i + 1) xs)) ≡ pairs_in same_stem done + count_by (λ y. same_stem y (view_pair x)) done = ap (pairs_in same_stem) (so_far view_pair xs i no_pair c.loop-pair-test.true) ∙ pairs-push same_stem done (view_pair x) in
    let value : c.in_ok-same.field-0 ≡ count_by (λ y. same_stem y (view_pair x)) done = c.in_ok-same.ensures.before ∙ c.loop-pair.invariant.counts x.stem.now in
    let same : c.loop-pair.same ≡ pairs_in same_stem done = c.loop-pair.invariant.same in
    let short : length (view_pairs (take (i + 1) xs)) ≤ length xs = so_far-length view_pair xs i c.loop-pair-test.true in
    let small : length xs < 2 ^ 64 = omega arith in
    let fit : pairs_in any_two (view_pairs (take (i + 1) xs)) < 2 ^ 127 = pairs-fit (view_pairs (take (i + 1) xs)) (omega arith) in
    let le : pairs_in same_stem (view_pairs (take (i + 1) xs)) ≤ pairs_in any_two (view_pairs (take (i + 1) xs)) = pairs-le same_stem (view_pairs (take (i + 1) xs)) in
    omega arith

pub loop-pair-preserved : goal.loop-pair-preserved
loop-pair-preserved c =
    let xs = c.args.pairs.now in
    let i = c.loop-pair.pair-index in
    let x : StemPair = get_or xs i no_pair in
    let done : List Pair = view_pairs (take i xs) in
    let next : view_pairs (take (i + 1) xs) ≡ done ++ view_pair x ∷ [] = so_far view_pair xs i no_pair c.loop-pair-test.true in
    let value : c.in_ok-same.field-0 ≡ count_by (λ y. same_stem y (view_pair x)) done = c.in_ok-same.ensures.before ∙ c.loop-pair.invariant.counts x.stem.now in
    record {
      counts = λ q.
          c.in_ok-same.ensures.after q
          ∙ ap (λ (n : ℕ). n + cond (bytes_eq x.stem.now q) 1 0) (c.loop-pair.invariant.counts q)
          ∙ sym (sum_by_push (λ (p : Pair). cond (bytes_eq p.0 q) 1 0) done (view_pair x))
          ∙ ap (count_by (λ (p : Pair). bytes_eq p.0 q)) (sym next);
      same = (λ k. c.loop-pair.invariant.same k + value k) ∙ sym (ap (pairs_in same_stem) next ∙ pairs-push same_stem done (view_pair x));
    }
